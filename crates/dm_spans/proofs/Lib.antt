pub mod FactLemmas
pub mod ExpressionLemmas
pub mod ValueLemmas
pub mod StatementLemmas
pub mod ProgramLemmas
pub mod ExampleLemmas
