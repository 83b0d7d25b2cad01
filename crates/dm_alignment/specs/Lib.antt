pub mod Readings
pub mod Insertions
