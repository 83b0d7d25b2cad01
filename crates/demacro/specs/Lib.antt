pub mod Applied
pub mod Arguments
pub mod Completeness
pub mod Endings
pub mod Usage
