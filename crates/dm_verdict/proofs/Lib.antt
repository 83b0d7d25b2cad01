pub mod RuleLemmas
pub mod VerdictLemmas
