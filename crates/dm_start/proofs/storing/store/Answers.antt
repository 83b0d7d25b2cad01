-- One value after the other.
use Rattle.std.proofs.Common.{◌≡◌, ◌∷◌, List, map, rules, subst}
use Rattle.dm_memory.specs.Blocks.{view_of_blocks}
use Rattle.dm_value.specs.Places.{view_of_at}
use Rattle.dm_value.specs.Views.{view_of_value}
use Rattle.dm_start.specs.declared.storing.Kept.{Kept}
use Rattle.dm_start.specs.Storing.{view_of_kept, with_values}
use Rattle.dm_start.proofs.StoringLemmas.{one-stored}
use Rattle.dm_start.proofs.storing.store.Goals as goal

pub loop-kept-preserved-in_ok-store : goal.loop-kept-preserved-in_ok-store
loop-kept-preserved-in_ok-store c =
    let e : c.loop-kept.left.now ≡ c.in-Some.kept.now ∷ c.in-Some.rest.now = search rules in (
      λ table.
          let all = with_values (map view_of_kept c.args.values.now) (view_of_blocks table c.args.blocks.now) in
          one-stored (view_of_blocks table c.loop-kept.blocks) (view_of_blocks table c.store.new.self) all (view_of_at c.whole-at.result) c.in-Some.kept.now.number
          (view_of_value c.in_ok-copy.field-0) (view_of_value c.in-Some.kept.now.value) (map view_of_kept c.in-Some.rest.now)
          (c.in_ok-store.ensures.view table) c.whole-at.ensures c.in_ok-copy.ensures
          (subst (λ (left : List Kept). with_values (map view_of_kept left) (view_of_blocks table c.loop-kept.blocks) ≡ all) e (c.loop-kept.invariant.0 table)),
      λ table known. c.in_ok-store.ensures.known table (c.loop-kept.invariant.1 table known),
    )

pub loop-kept-preserved : goal.loop-kept-preserved
loop-kept-preserved c =
    let e : c.loop-kept.left.now ≡ c.in-Some.kept.now ∷ c.in-Some.rest.now = search rules in (
      λ table.
          let all = with_values (map view_of_kept c.args.values.now) (view_of_blocks table c.args.blocks.now) in
          one-stored (view_of_blocks table c.loop-kept.blocks) (view_of_blocks table c.store.new.self) all (view_of_at c.whole-at.result) c.in-Some.kept.now.number
          (view_of_value c.in_ok-copy.field-0) (view_of_value c.in-Some.kept.now.value) (map view_of_kept c.in-Some.rest.now)
          (c.in_ok-store.ensures.view table) c.whole-at.ensures c.in_ok-copy.ensures
          (subst (λ (left : List Kept). with_values (map view_of_kept left) (view_of_blocks table c.loop-kept.blocks) ≡ all) e (c.loop-kept.invariant.0 table)),
      λ table known. c.in_ok-store.ensures.known table (c.loop-kept.invariant.1 table known),
    )
