pub mod Changes
pub mod Examples
pub mod Rules
pub mod Proposals
pub mod Units
