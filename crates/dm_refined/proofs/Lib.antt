mod ParameterLemmas
mod RuleLemmas
mod RunLemmas
