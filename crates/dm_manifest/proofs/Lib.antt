pub mod Bytes
pub mod Each
pub mod Keys
pub mod Lawful
pub mod Lines
pub mod Short
pub mod Steps
