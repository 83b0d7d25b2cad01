pub mod ObjectLemmas
pub mod MemberStepLemmas
pub mod CallStepLemmas
pub mod TagStepLemmas
pub mod IntLemmas
