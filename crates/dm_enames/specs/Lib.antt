pub mod Meanings
pub mod Tags
