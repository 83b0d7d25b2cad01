pub mod Endings
pub mod Finishes
pub mod Inputs
pub mod Readings
