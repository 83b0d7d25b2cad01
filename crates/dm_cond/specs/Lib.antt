pub mod Trees
pub mod Values
pub mod Readings
pub mod Machine
pub mod Points
pub mod Answers
