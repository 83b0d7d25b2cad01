pub mod ReachLemmas
pub mod FitLemmas
pub mod OpenLemmas
pub mod SpecifierLemmas
pub mod DeclaratorStepLemmas
pub mod NamingLemmas
pub mod TaggedLemmas
pub mod ParameterLemmas
