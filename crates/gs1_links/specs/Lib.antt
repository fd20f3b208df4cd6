pub mod Capitals
pub mod Links
pub mod LinkReader
pub mod LinkFaults
