pub mod StandingLemmas
mod AgreementLemmas
mod OperandLemmas
mod FirstPlaceLemmas
mod PlaceLemmas
mod SomewhereLemmas
mod ArgumentPlaceLemmas
mod SafeLemmas
mod ArgumentStepLemmas
mod PartLemmas
mod CallLemmas
mod FactLemmas
mod NodeLemmas
mod OpenEffectLemmas
mod OutcomeLemmas
mod EnteredLemmas
mod DiagramLemmas
mod EntryLemmas
pub mod ApartLemmas
mod BodyLemmas
mod CallFrameLemmas
mod BehindLemmas
mod EnterLemmas
mod TopLemmas
mod LeftLemmas
mod OutsideLemmas
mod WithinLemmas
mod InsideLemmas
mod GhostLemmas
mod AsideLemmas
mod StateStepLemmas
pub mod ShapeLemmas
mod LastLemmas
mod WaitingLemmas
mod SteadyLemmas
mod BeginLemmas
pub mod RefineLemmas
pub mod WholeLemmas
mod TwiceExample
mod AroundExample
pub mod ClosedFrameLemmas
mod ClosedBeginLemmas
mod LeftAloneLemmas
pub mod QuietTreeLemmas
mod QuietFrameLemmas
mod KeptFrameLemmas
mod ClosedSteadyLemmas
mod NewProgramLemmas
mod NewNamesLemmas
