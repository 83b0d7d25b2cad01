pub mod Tasks
pub mod Frames
pub mod Forms
pub mod Entering
pub mod Nexts
pub mod Calling
pub mod Conclusions
pub mod Selecting
