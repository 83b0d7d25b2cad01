pub mod Again
pub mod Definitions
pub mod Leaves
pub mod Reading
pub mod Sites
pub mod Units
