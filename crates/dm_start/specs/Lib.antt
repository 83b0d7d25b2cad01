pub mod Scenes
pub mod Making
pub mod Storing
pub mod Beginnings
