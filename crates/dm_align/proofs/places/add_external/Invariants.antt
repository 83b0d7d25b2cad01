-- Those in the trees so far are added.
use Rattle.std.proofs.Common.{◌≡◌, ◌||◌, take, Bor, IsTrue}
use Rattle.std.specs.List.{list_any}
use Rattle.dm_token.specs.declared.place.Span.{Span}
use Rattle.dm_type.specs.Tables.{Table}
use Rattle.dm_tree.specs.declared.tree.Core.{Core}
use Rattle.dm_tree.specs.Views.{view}
use Rattle.dm_align.specs.Places.{has, is_wanted, stands_in, is_unevaluated_in}
use Rattle.dm_align.proofs.places.add_external.Given as goal

abbrev pub invariant-loop-tree : goal.invariant-loop-tree
invariant-loop-tree l = record {
  all : (types : Table) (span : Span) → IsTrue (is_wanted l.starts span) → has l.places.all span
      ≡ (has l.initial.places.all span || list_any (λ (one : Bor Core). stands_in span (view types one.now)) (take l.tree-index l.tree-items));
  unevaluated : (types : Table) (span : Span) → IsTrue (is_wanted l.starts span) → has l.places.unevaluated span
      ≡ (has l.initial.places.unevaluated span || list_any (λ (one : Bor Core). is_unevaluated_in span (view types one.now)) (take l.tree-index l.tree-items));
}
