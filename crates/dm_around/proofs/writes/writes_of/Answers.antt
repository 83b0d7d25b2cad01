-- One place more.
use Rattle.std.proofs.Common.{ℕ, List, cond, ◌++◌, ◌∷◌, [], slice_get, refl, sym, ap, ◌∙◌}
use Rattle.dm_sites.specs.Links.{passes}
use Rattle.dm_around.specs.Writes.{writes_at}
use Rattle.dm_around.proofs.ParentLemmas.{all_of}
use Rattle.dm_around.proofs.RowLemmas.{next-number}
use Rattle.dm_around.proofs.writes.writes_of.Goals as goal

pub loop-number-preserved : goal.loop-number-preserved
loop-number-preserved c types d =
    let all = all_of types c.args.sites.now in
    let i = c.loop-number.number in
    c.in_ok-note_place.ensures types d
    ∙ (ap (λ (row : List ℕ). row ++ cond (passes (writes_at d) (slice_get all i)) (i ∷ []) []) (c.loop-number.invariant types d)
    ∙ sym (next-number (writes_at d) all i (slice_get all i) refl))
