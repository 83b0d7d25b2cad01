pub mod Syntax
pub mod Nodes
