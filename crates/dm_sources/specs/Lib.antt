pub mod Explanations
pub mod Sources
