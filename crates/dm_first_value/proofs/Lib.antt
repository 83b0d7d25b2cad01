pub mod FirstLemmas
pub mod ListedLemmas
pub mod TextLemmas
