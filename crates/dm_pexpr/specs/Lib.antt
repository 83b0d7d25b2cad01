pub mod Counted
pub mod NameMaps
pub mod Parsing
pub mod Readings
pub mod Scoping
pub mod Parts
pub mod Shapes
pub mod Answers
