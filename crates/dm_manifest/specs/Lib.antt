pub mod Answers
pub mod Defines
pub mod Faults
pub mod Paths
pub mod Units
pub mod Values
