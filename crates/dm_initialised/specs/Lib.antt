pub mod Settled
pub mod SetStates
pub mod Units
pub mod Once
pub mod Living
pub mod Examples
