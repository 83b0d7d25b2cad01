pub mod Classes
pub mod Cuts
pub mod Lengths
pub mod Progress
pub mod Reach
pub mod Tokens
