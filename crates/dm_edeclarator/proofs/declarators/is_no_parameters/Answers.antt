-- One parameter that is void and has no name.
use Rattle.std.specs.Prelude.{◌&&◌, not, is_some}
use Rattle.std.proofs.Common.{ap, ap₂, sym, subst, ◌∙◌, arith}
use Rattle.dm_tree.specs.Scenes.{is_void}
use Rattle.dm_edeclarator.specs.Steps.{ParameterFits}
use Rattle.dm_typing.proofs.LaterLemmas.{type-later}
use Rattle.dm_edeclarator.proofs.DeclaratorStepLemmas.{alone-named, not-not}
use Rattle.dm_edeclarator.proofs.declarators.is_no_parameters.Goals as goal

pub returns-then-is_void : goal.returns-then-is_void
returns-then-is_void c = λ later begins.
    let types = c.args.known.now.types in
    let only = c.only-item.result in
    let inside : ParameterFits types only = subst (ParameterFits types) (sym c.only-item.is) (c.requires 0 only (let some = c.in-len1.len_at_least in omega (arith, some))) in
    sym (alone-named later c.args.parameters.now only c.in-len1.len_at_least c.in-len1.len_below c.only-item.is
    ∙ (ap₂ (λ a b. a && b) (ap is_void (type-later types.shapes later only.kind begins inside) ∙ (sym c.is_void.ensures ∙ c.if-is_void.true)) (ap not c.is_none.ensures)
    ∙ not-not c.is_none.result))

pub returns-else-is_void : goal.returns-else-is_void
returns-else-is_void c = λ later begins.
    let types = c.args.known.now.types in
    let only = c.only-item.result in
    let inside : ParameterFits types only = subst (ParameterFits types) (sym c.only-item.is) (c.requires 0 only (let some = c.in-len1.len_at_least in omega (arith, some))) in
    c.if-is_void.false
    ∙ sym (alone-named later c.args.parameters.now only c.in-len1.len_at_least c.in-len1.len_below c.only-item.is
    ∙ ap (λ a. a && not (is_some only.declared)) (ap is_void (type-later types.shapes later only.kind begins inside) ∙ (sym c.is_void.ensures ∙ c.if-is_void.false)))
