pub mod Settled
pub mod Late
pub mod Examples
