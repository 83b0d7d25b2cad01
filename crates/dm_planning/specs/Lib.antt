pub mod Judging
pub mod Plans
pub mod Steps
