mod OperationLemmas
mod ExpressionLemmas
mod StatementLemmas
mod StepLemmas
mod StartLemmas
pub mod MachineLemmas
mod ExampleLemmas
