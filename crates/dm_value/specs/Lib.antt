pub mod Closed
pub mod Integers
pub mod Parts
pub mod Paths
pub mod Places
pub mod Sooner
pub mod Views
