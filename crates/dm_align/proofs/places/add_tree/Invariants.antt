-- Each expression was found, or stands in a tree that waits.
use Rattle.std.proofs.Common.{◌≡◌, ◌||◌, IsTrue}
use Rattle.dm_token.specs.declared.place.Span.{Span}
use Rattle.dm_type.specs.Tables.{Table}
use Rattle.dm_tree.specs.Views.{view}
use Rattle.dm_align.specs.Places.{has, is_wanted, stands_in, is_unevaluated_in, waits, waits_unevaluated, nodes_left}
use Rattle.dm_align.proofs.places.add_tree.Given as goal

abbrev pub invariant-loop-one : goal.invariant-loop-one
invariant-loop-one l = record {
  all : (types : Table) (span : Span) → IsTrue (is_wanted l.starts span) → (has l.places.all span || waits types span l.waiting.items) ≡ (has l.initial.places.all span || stands_in span (view types l.tree));
  unevaluated : (types : Table) (span : Span) → IsTrue (is_wanted l.starts span)
      → (has l.places.unevaluated span || waits_unevaluated types span l.waiting.items) ≡ (has l.initial.places.unevaluated span || is_unevaluated_in span (view types l.tree));
}

abbrev pub decreases-loop-one : goal.decreases-loop-one
decreases-loop-one l = nodes_left l.waiting.items
