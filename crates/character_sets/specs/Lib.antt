pub mod Kanji
pub mod KanjiSearch
pub mod Bytes
pub mod Reading
pub mod ByteSearch
