pub mod Captures
pub mod First
pub mod Named
pub mod Own
pub mod Subjects
pub mod Types
pub mod Wanted
