mod FormLemmas
mod ExpressionLemmas
mod DeclarationLemmas
mod StatementLemmas
mod UnitLemmas
