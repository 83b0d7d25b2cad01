pub mod Postfix
pub mod Reductions
