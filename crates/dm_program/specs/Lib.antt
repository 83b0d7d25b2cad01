pub mod Functions
pub mod Gathering
pub mod Initials
pub mod Placing
pub mod Sources
pub mod Statics
pub mod Tables
