pub mod Scopes
pub mod Walks
pub mod Seen
pub mod Parts
pub mod Positions
pub mod Meanings
pub mod Declarations
pub mod Indexes
