pub mod Units
pub mod Examples
pub mod Insertions
pub mod Places
