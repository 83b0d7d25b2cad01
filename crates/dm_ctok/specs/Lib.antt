pub mod Causes
pub mod Digits
pub mod Escapes
pub mod Integers
pub mod Joins
pub mod Pending
pub mod Tokens
