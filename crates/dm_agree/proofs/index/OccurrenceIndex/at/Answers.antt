-- By the extents of the tree.
use Rattle.std.proofs.Common.{List, flat_map, sym, ap, ◌∙◌}
use Rattle.dm_token.specs.declared.place.Span.{Span}
use Rattle.dm_tree.specs.Views.{view}
use Rattle.dm_agree.specs.Index.{first_parameter}
use Rattle.dm_agree.specs.Standing.{occurrences_with}
use Rattle.dm_agree.proofs.StandingLemmas.{no-extents, all-extents}
use Rattle.dm_agree.proofs.index.OccurrenceIndex.at.Goals as goal

pub returns-then-is_value : goal.returns-then-is_value
returns-then-is_value c types =
    c.first_narrowing.ensures
    ∙ ap (λ (spans : List Span). first_parameter (flat_map (occurrences_with c.args.self.now.occurrences) spans))
    (c.pairs.ensures types ∙ sym (all-extents (view types c.args.tree.now) (c.is_value.ensures types ∙ c.if-is_value.true)))

pub returns-else-is_value : goal.returns-else-is_value
returns-else-is_value c types =
    sym (ap (λ (spans : List Span). first_parameter (flat_map (occurrences_with c.args.self.now.occurrences) spans)) (no-extents (view types c.args.tree.now) (c.is_value.ensures types ∙ c.if-is_value.false)))
