pub mod JumpLemmas
pub mod ParenthesesLemmas
pub mod TableLemmas
