pub mod Parentheses
pub mod Table
