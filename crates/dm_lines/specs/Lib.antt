pub mod Lines
pub mod ManifestFaults
pub mod Outside
pub mod Puts
pub mod Statuses
pub mod Stops
