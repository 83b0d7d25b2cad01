mod PlainLemmas
pub mod ComputedLemmas
pub mod SettleLemmas
pub mod KeptLemmas
pub mod ComputedKeptLemmas
pub mod AsideLemmas
pub mod EffectLemmas
pub mod ClosedLemmas
pub mod ClosedRunLemmas
pub mod ShrinkEffectLemmas
pub mod ClosedStateLemmas
pub mod ClosedStartLemmas
pub mod FrameChangeLemmas
pub mod StepEffectLemmas
mod NamedConstantLemmas
mod NamedStatementLemmas
mod NamedSizeLemmas
mod NamedStateLemmas
mod NamedRefineLemmas
pub mod NamedValueLemmas
mod NamedStaticLemmas
mod NamedStartLemmas
mod NamedUnitLemmas
mod NamedExample
mod CountExample
pub mod UnnamedLemmas
