pub mod Syntax
pub mod Elaborated
pub mod Layered
