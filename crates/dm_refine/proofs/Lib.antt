pub mod NumberLemmas
pub mod PutLemmas
pub mod TypedLemmas
mod EnumeratorTreeLemmas
mod EnumeratorUnitLemmas
mod BackLemmas
pub mod ExampleLemmas
mod EnumeratorExample
pub mod InertLemmas
mod RangeLemmas
pub mod StaticLemmas
pub mod ConstantTreeLemmas
mod ConstantEntryLemmas
pub mod ConstantLocalLemmas
mod ConstantUnitLemmas
mod ConstantExample
pub mod CoverLemmas
pub mod ReadFirstLemmas
pub mod AutomaticLemmas
pub mod CallBodyLemmas
pub mod CallTreeLemmas
pub mod CallGivesLemmas
pub mod CallPutLemmas
pub mod CallStaticLemmas
pub mod CallLocalLemmas
pub mod CallUnitLemmas
