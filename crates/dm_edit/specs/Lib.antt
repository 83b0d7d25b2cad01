pub mod Cuts
pub mod Edits
pub mod Moves
pub mod Parts
