-- The way from the run's tree.
use Rattle.std.proofs.Common.{ℕ, drop, ap, ap₂, ◌∙◌}
use Rattle.dm_tree.specs.Paths.{Path}
use Rattle.dm_tree.specs.Views.{view}
use Rattle.dm_effect.specs.Sequencing.{is_first}
use Rattle.dm_beside.proofs.arguments.is_first_in.Goals as goal

pub returns : goal.returns
returns c types =
    let tree = view types c.args.run.now.tree.now in
    c.first.ensures types
    ∙ ap (λ (way : Path). is_first way tree)
    (c.in_ok-way.ensures ∙ ap₂ (λ (count : ℕ) (way : Path). drop count way) c.len.ensures (c.items.ensures ∙ c.in_ok-whole.ensures types))
