pub mod Kinds
pub mod Operators
pub mod Ranges
pub mod Results
