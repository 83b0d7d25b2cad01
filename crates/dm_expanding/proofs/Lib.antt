pub mod ExpandSteps
pub mod ListingSteps
