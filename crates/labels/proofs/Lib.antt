pub mod LabelLemmas
pub mod OutcomeLemmas
pub mod PageLemmas
pub mod PageOutcomes
pub mod PartFileLemmas
