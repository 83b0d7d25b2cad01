pub mod Built
pub mod Marks
pub mod Objects
