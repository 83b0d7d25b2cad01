-- The last external declaration that is left defines a function, or none.
use Rattle.std.proofs.Common.{None, replicate, ap, sym, subst, ◌∙◌}
use Rattle.dm_program.specs.Functions.{AreBehind}
use Rattle.dm_program.specs.Sources.{Source}
use Rattle.dm_program.proofs.DefinitionLemmas.{none-behind, behind-none, behind-some, sound-behind}
use Rattle.dm_program.proofs.definitions.functions.Goals as goal

pub loop-external-init : goal.loop-external-init
loop-external-init c = λ table typed.
    let source : Source = record { table = table; unit = c.args.unit.now } in
    subst (λ left. AreBehind source left c.in_ok-all.all.items) (sym c.items-left.ensures) (none-behind source c.in_ok-all.all.items (c.in_ok-all.ensures ∙ ap (λ n. replicate n None) c.len.ensures))

pub loop-external-preserved-in-Some-function_of : goal.loop-external-preserved-in-Some-function_of
loop-external-preserved-in-Some-function_of c = λ table typed.
    let source : Source = record { table = table; unit = c.args.unit.now } in
    let before = c.loop-external.invariant table typed in
    let sound = sound-behind source c.in-Some.rest.now c.in-Some.external.now c.loop-external.left.now c.loop-external.all.items c.in-Some.ensures.cases.0 typed before in
    subst (AreBehind source c.in-Some.rest.now) (sym c.place.ensures)
    (behind-some source c.in-Some.rest.now c.in-Some.external.now c.loop-external.left.now c.loop-external.all.items c.in-Some-function_of.function c.in-Some.ensures.cases.0
    (c.in-Some-function_of.ensures.view table) (c.in-Some-function_of.ensures.fits source sound) before)

pub loop-external-preserved : goal.loop-external-preserved
loop-external-preserved c = λ table typed.
    let source : Source = record { table = table; unit = c.args.unit.now } in
    behind-none source c.in-Some.rest.now c.in-Some.external.now c.loop-external.left.now c.loop-external.all.items c.in-Some.ensures.cases.0 (c.in_default-function_of.ensures.view table)
    (c.loop-external.invariant table typed)
