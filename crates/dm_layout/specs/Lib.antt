pub mod Alikes
pub mod Distances
pub mod Fields
pub mod Kinds
pub mod LaidOut
pub mod Moves
