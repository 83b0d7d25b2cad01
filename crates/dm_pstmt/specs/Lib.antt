pub mod Answers
pub mod Kinds
pub mod Parsing
pub mod Readings
pub mod Steps
