pub mod KanjiTable
pub mod KanjiTails
pub mod Pairs
pub mod Reading
pub mod ByteTable
pub mod PartBytes
