pub mod Counts
pub mod JsonReport
pub mod Lines
pub mod Titles
pub mod Words
