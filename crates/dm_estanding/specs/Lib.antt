pub mod Kinds
pub mod Proceeding
pub mod Summaries
pub mod Undoing
pub mod Wholes
