pub mod Lists
pub mod Places
pub mod Percents
pub mod Hosts
