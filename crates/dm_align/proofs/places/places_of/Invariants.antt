-- Those in the external declarations so far are added.
use Rattle.std.proofs.Common.{◌≡◌, take, IsTrue}
use Rattle.std.specs.List.{list_any}
use Rattle.dm_token.specs.declared.place.Span.{Span}
use Rattle.dm_type.specs.Tables.{Table}
use Rattle.dm_tree.specs.declared.unit.CoreExternal.{CoreExternal}
use Rattle.dm_tree.specs.Views.{view_of_external}
use Rattle.dm_effect.specs.Entities.{nodes_of_external}
use Rattle.dm_agree.specs.Standing.{stands}
use Rattle.dm_align.specs.Places.{has, is_wanted}
use Rattle.dm_align.specs.Units.{is_in_sizeof}
use Rattle.dm_align.proofs.places.places_of.Given as goal

abbrev pub invariant-loop-external : goal.invariant-loop-external
invariant-loop-external l = record {
  all : (types : Table) (span : Span) → IsTrue (is_wanted l.starts span) → has l.places.all span
      ≡ list_any (λ (one : CoreExternal). list_any (stands span) (nodes_of_external (view_of_external types one))) (take l.external-index l.unit.externals);
  unevaluated : (types : Table) (span : Span) → IsTrue (is_wanted l.starts span) → has l.places.unevaluated span
      ≡ list_any (λ (one : CoreExternal). list_any (is_in_sizeof span) (nodes_of_external (view_of_external types one))) (take l.external-index l.unit.externals);
}
