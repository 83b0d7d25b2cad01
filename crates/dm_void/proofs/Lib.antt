mod SameOperationLemmas
mod SameExpressionLemmas
mod SameStatementLemmas
mod SameFrameLemmas
mod StateLemmas
pub mod RefineLemmas
mod UncalledLemmas
pub mod UncalledStateLemmas
mod ExampleLemmas
