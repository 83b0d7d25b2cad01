pub mod Steps
pub mod Ways
pub mod Operands
pub mod Settling
pub mod Progressing
