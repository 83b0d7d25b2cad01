pub mod FirstLemmas
pub mod MetLemmas
pub mod TokenLemmas
pub mod NameLemmas
pub mod OwnLemmas
