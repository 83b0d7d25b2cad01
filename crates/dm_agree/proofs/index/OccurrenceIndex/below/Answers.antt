-- Where the part is an expression of its own.
use Rattle.std.proofs.Common.{if◌then◌else◌, [], flat_map, Bool, sym, ap, ◌∙◌}
use Rattle.dm_tree.specs.Views.{view}
use Rattle.dm_agree.specs.Index.{first_parameter}
use Rattle.dm_agree.specs.Standing.{extents_of, occurrences_with}
use Rattle.dm_agree.proofs.index.OccurrenceIndex.below.Goals as goal

pub returns-then-is_apart : goal.returns-then-is_apart
returns-then-is_apart c types =
    c.at.ensures types
    ∙ sym (ap (λ (test : Bool). first_parameter (flat_map (occurrences_with c.args.self.now.occurrences) (if test then extents_of (view types c.args.part.now) else []))) (c.is_apart.ensures types ∙ c.if-is_apart.true))

pub returns-else-is_apart : goal.returns-else-is_apart
returns-else-is_apart c types =
    sym (ap (λ (test : Bool). first_parameter (flat_map (occurrences_with c.args.self.now.occurrences) (if test then extents_of (view types c.args.part.now) else []))) (c.is_apart.ensures types ∙ c.if-is_apart.false))
