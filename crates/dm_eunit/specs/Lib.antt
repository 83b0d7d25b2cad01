pub mod Bare
pub mod Elaborated
pub mod Functions
pub mod Headings
pub mod Lacking
pub mod Naming
pub mod Parts
pub mod Reopening
