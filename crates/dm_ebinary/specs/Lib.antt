pub mod Pairs
pub mod Arms
pub mod Stores
