-- What is read is the name of an object.
use Rattle.std.proofs.Common.{ap, sym, ◌∙◌}
use Rattle.dm_tree.specs.declared.tree.Core.{Core}
use Rattle.dm_tree.specs.Trees.{no_trees, more_trees}
use Rattle.dm_tree.specs.Views.{view}
use Rattle.dm_effect.specs.Entities.{object_first}
use Rattle.dm_agree.proofs.AgreeLemmas.{read-label, read-parts}
use Rattle.dm_agree.proofs.names.is_read_of.Goals as goal

pub returns-in-Read : goal.returns-in-Read
returns-in-Read c types =
    let named = c.is_object.ensures types no_trees in
    let parts = ap object_first (read-parts types c.args.tree.now c.in-Read.operand c.in-Read.is) ∙ ap (λ (core : Core). object_first (more_trees (view types core) no_trees)) (sym c.get.ensures) in
    (λ yes'. (read-label types c.args.tree.now c.in-Read.operand c.in-Read.is, parts ∙ named.0 yes'), λ both. named.1 (sym parts ∙ both.1))
