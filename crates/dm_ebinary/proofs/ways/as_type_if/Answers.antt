-- With a type or without.
use Rattle.std.specs.Prelude.{IfSome, option_map}
use Rattle.std.proofs.Common.{ap, sym, ◌∙◌, subst}
use Rattle.dm_type.specs.Tables.{IsId}
use Rattle.dm_typing.specs.Views.{view_over, type_over}
use Rattle.dm_ebinary.specs.Pairs.{as_type_if}
use Rattle.dm_ebinary.proofs.ways.as_type_if.Goals as goal

pub as_type-requires-clause-kind : goal.as_type-requires-clause-kind
as_type-requires-clause-kind c = subst (λ to. IfSome to (IsId c.args.known.now.types)) c.in-Some.is c.requires.to

pub returns-in_ok-made-in-Some-clause-value : goal.returns-in_ok-made-in-Some-clause-value
returns-in_ok-made-in-Some-clause-value c = λ later begins.
    c.in_ok-made-in-Some.ensures.value later begins ∙ ap (λ to. as_type_if (option_map (type_over later) to) (view_over later c.args.core)) (sym c.in-Some.is)

pub returns-in-None-clause-value : goal.returns-in-None-clause-value
returns-in-None-clause-value c = λ later begins. ap (λ to. as_type_if (option_map (type_over later) to) (view_over later c.args.core)) (sym c.in-None.is)
