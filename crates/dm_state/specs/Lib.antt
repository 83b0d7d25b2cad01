pub mod Named
pub mod Standing
pub mod Views
pub mod Fits
pub mod Turns
pub mod Closing
pub mod Unfolding
