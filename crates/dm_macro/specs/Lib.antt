pub mod Signs
pub mod Forms
pub mod NameSets
pub mod ParameterLists
pub mod Bodies
pub mod Roles
pub mod Tables
pub mod Parts
