pub mod DeviceLemmas
pub mod LineLemmas
pub mod QuoteLemmas
pub mod Ranges
