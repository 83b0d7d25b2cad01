-- By the target.
use Rattle.std.proofs.Common.{ap, sym, ◌∙◌, inl, inr}
use Rattle.dm_tree.specs.declared.tree.Core.{Core}
use Rattle.dm_tree.specs.Trees.{no_trees, more_trees}
use Rattle.dm_tree.specs.Views.{view}
use Rattle.dm_effect.specs.Entities.{is_this, object_first}
use Rattle.dm_effect.proofs.EffectLemmas.{writes-Store, writes-Update, writes-Count}
use Rattle.dm_around.proofs.writes.object_written.Goals as goal

pub returns-in-Count : goal.returns-in-Count
returns-in-Count c types d =
    writes-Count types c.args.node.now c.in-Count.target c.in-Count.plus c.in-Count.before d c.in-Count.is
    ∙ ap (is_this d) (ap (λ (core : Core). object_first (more_trees (view types core) no_trees)) (sym c.get.ensures) ∙ c.object_named.ensures types no_trees)

pub returns-in-Store : goal.returns-in-Store
returns-in-Store c types d =
    let target = c.in-Store.target in
    elim c.in-Store.is [
      | inl w ↦
          writes-Store types c.args.node.now target w.0 d w.1
          ∙ ap (is_this d) (ap (λ (core : Core). object_first (more_trees (view types core) (more_trees (view types w.0) no_trees))) (sym c.get-in-Store.ensures)
          ∙ c.object_named-in-Store.ensures types (more_trees (view types w.0) no_trees))
      | inr w ↦
          writes-Update types c.args.node.now target w.2 w.0 w.1 d w.3
          ∙ ap (is_this d) (ap (λ (core : Core). object_first (more_trees (view types core) (more_trees (view types w.2) no_trees))) (sym c.get-in-Store.ensures)
          ∙ c.object_named-in-Store.ensures types (more_trees (view types w.2) no_trees))
    ]
