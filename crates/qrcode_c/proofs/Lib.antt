mod Writing
mod Answering
mod CoreErrors
mod TextErrors
mod LinkMemory
mod FirstFaults
mod Widths
pub mod PictureLemmas
