pub mod Directives
pub mod Keywords
pub mod Punctuators
pub mod Rows
pub mod Tables
