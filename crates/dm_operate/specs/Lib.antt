pub mod Evaluations
pub mod Numbers
pub mod Operators
pub mod Pairs
pub mod Replacements
pub mod Targets
