pub mod Spans
pub mod Bare
pub mod Examples
