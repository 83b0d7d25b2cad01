pub mod ConstantLemmas
pub mod InitialLemmas
pub mod LaterValues
pub mod LengthLemmas
pub mod PartLemmas
pub mod ListLemmas
pub mod ScalarLemmas
pub mod SyntaxLemmas
