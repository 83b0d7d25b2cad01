pub mod Examples
pub mod Links
pub mod Rows
pub mod Seen
pub mod Sites
pub mod Standing
pub mod Walks
