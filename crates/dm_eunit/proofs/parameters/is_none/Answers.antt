-- A parameter that is void and has no name.
use Rattle.std.specs.Prelude.{◌&&◌, not, is_some}
use Rattle.std.proofs.Common.{sym, ap, ap₂, ◌∙◌}
use Rattle.dm_edeclarator.proofs.DeclaratorStepLemmas.{not-not}
use Rattle.dm_eunit.proofs.ParameterLemmas.{none-test}
use Rattle.dm_eunit.proofs.parameters.is_none.Goals as goal

pub returns-then-not-is_void : goal.returns-then-not-is_void
returns-then-not-is_void c = λ later on.
    sym (ap₂ (λ a b. a && b) c.if-not-alone.false
    (none-test c.args.known.now.types later c.args.one on c.requires ∙ ap (λ b. b && not (is_some c.args.one.declared)) (sym c.is_void.ensures ∙ c.if-not-is_void.true)))

pub returns : goal.returns
returns c = λ later on.
    sym (ap₂ (λ a b. a && b) c.if-not-alone.false
    (none-test c.args.known.now.types later c.args.one on c.requires
    ∙ ap₂ (λ a b. a && b) (sym c.is_void.ensures ∙ c.if-not-is_void.false) (ap not c.is_none.ensures)
    ∙ not-not c.is_none.result))
