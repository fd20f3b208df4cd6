pub mod Prelude
pub mod Codewords
pub mod OneReading
pub mod Printed
pub mod Best
pub mod Strongest
pub mod Sequences
pub mod BestCuts
mod Limited
mod RowCounts
mod Plugins
pub mod NoneBetter
