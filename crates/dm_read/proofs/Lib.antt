pub mod ReadingLemmas
mod SyntaxLemmas
