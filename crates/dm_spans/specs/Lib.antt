pub mod SameTrees
pub mod MovedPrograms
pub mod Examples
