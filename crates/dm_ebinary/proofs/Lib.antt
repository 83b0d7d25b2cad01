pub mod BinaryLemmas
pub mod ChoiceStepLemmas
pub mod AssignLemmas
