mod DeclaredLemmas
pub mod SourceLemmas
pub mod TokenLemmas
