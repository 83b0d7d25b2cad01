pub mod Orders
pub mod Shown
pub mod Runs
pub mod Outcomes
pub mod Due
