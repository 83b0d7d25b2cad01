pub mod CallLemmas
pub mod FormLemmas
pub mod OperandLemmas
pub mod SettleLemmas
pub mod MoveLemmas
