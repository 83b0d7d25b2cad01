pub mod Blocks
pub mod Named
pub mod Scenes
pub mod Truths
