pub mod Examples
pub mod Kept
pub mod Marks
pub mod Order
pub mod Searched
