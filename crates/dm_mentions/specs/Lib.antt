pub mod Mentions
pub mod Tables
