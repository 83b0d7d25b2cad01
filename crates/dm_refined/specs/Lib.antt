pub mod Programs
pub mod Allowed
