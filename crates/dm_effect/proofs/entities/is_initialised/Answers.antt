-- External declaration by external declaration.
use Rattle.std.proofs.Common.{ℕ, List, map, ap, sym, ◌∙◌}
use Rattle.std.specs.List.{list_any}
use Rattle.dm_tree.specs.declared.tree.Core.{out-Core}
use Rattle.dm_tree.specs.declared.unit.CoreExternal.{CoreExternal}
use Rattle.dm_tree.specs.Trees.{Tree}
use Rattle.dm_tree.specs.Views.{view_of_external, view_of_unit}
use Rattle.dm_tree.proofs.ViewLemmas.{view-core}
use Rattle.dm_effect.specs.declared.question.Question.TheVariants as question
use Rattle.dm_effect.specs.Externals.{is_found}
use Rattle.dm_effect.specs.Safe.{is_initialised}
use Rattle.dm_effect.proofs.ExternalLemmas.{initialisers-found}
use Rattle.dm_effect.proofs.entities.is_initialised.Goals as goal

pub returns : goal.returns
returns c types =
    let d = c.args.object in
    let argument = out-Core c.args.argument.now in
    let token : ℕ = argument.inner.first in
    c.any_external.ensures types
    ∙ (ap (λ (all : List CoreExternal). list_any (is_found types (question.Initialises d token)) (map (view_of_external types) all)) c.items.ensures
    ∙ sym (ap (λ (tree : Tree). is_initialised (view_of_unit types c.args.unit.now) tree d) (view-core types c.args.argument.now)
    ∙ initialisers-found types (view_of_unit types c.args.unit.now) d token))
