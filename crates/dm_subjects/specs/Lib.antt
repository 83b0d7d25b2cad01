pub mod Alignments
pub mod Files
pub mod Lines
pub mod Newlines
pub mod Subjects
pub mod Tables
