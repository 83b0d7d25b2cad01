pub mod Amid
pub mod Evaluation
pub mod Examples
pub mod Places
pub mod Rules
pub mod Tallies
