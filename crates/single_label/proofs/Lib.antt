pub mod BesideLemmas
pub mod CaptionLemmas
pub mod DetailsLemmas
pub mod MarkLemmas
pub mod PartLemmas
pub mod ShownLemmas
pub mod StopLemmas
pub mod TextLengths
