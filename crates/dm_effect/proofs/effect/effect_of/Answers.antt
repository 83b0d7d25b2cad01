-- By the function that a call names.
use Rattle.std.proofs.Common.{ap, map, not, sym, ◌∙◌}
use Rattle.dm_tree.specs.declared.tree.Core.{Core}
use Rattle.dm_tree.specs.Trees.{more_trees, trees}
use Rattle.dm_tree.specs.Views.{view}
use Rattle.dm_effect.specs.Entities.{is_named, function_first}
use Rattle.dm_effect.proofs.EffectLemmas.{disturbs-Call}
use Rattle.dm_effect.proofs.effect.effect_of.Goals as goal

pub returns-in-Some-clause-disturbs : goal.returns-in-Some-clause-disturbs
returns-in-Some-clause-disturbs c types quiet =
    let rest = trees (map (view types) c.in-Call.field-1) in
    disturbs-Call types c.args.node.now c.in-Call.function c.in-Call.field-1 quiet c.in-Call.is
    ∙ (ap (λ (core : Core). not (is_named quiet (function_first (more_trees (view types core) rest)))) (sym c.get.ensures)
    ∙ ap (λ named. not (is_named quiet named)) (c.in-Some.ensures types rest))

pub returns-in-None-clause-disturbs : goal.returns-in-None-clause-disturbs
returns-in-None-clause-disturbs c types quiet =
    let rest = trees (map (view types) c.in-Call.field-1) in
    disturbs-Call types c.args.node.now c.in-Call.function c.in-Call.field-1 quiet c.in-Call.is
    ∙ (ap (λ (core : Core). not (is_named quiet (function_first (more_trees (view types core) rest)))) (sym c.get.ensures)
    ∙ ap (λ named. not (is_named quiet named)) (c.in-None.ensures types rest))
