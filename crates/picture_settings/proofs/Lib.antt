pub mod Ranges
pub mod SettingLemmas
pub mod XmlLemmas
pub mod StringLemmas
pub mod LightLemmas
pub mod NumeralLemmas
pub mod ConfigLemmas
