pub mod Counts
pub mod Sides
pub mod Sought
