pub mod Unary
pub mod Parts
