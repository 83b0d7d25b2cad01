pub mod SyntaxLemmas
