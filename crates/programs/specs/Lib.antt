pub mod Devices
pub mod Lines
pub mod Reasons
pub mod Outcome
pub mod Parts
pub mod Quotes
