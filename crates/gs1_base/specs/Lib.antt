pub mod Characters
pub mod Domains
pub mod Percent
