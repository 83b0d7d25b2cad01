pub mod Numbers
pub mod Spared
pub mod SafePrograms
pub mod Examples
