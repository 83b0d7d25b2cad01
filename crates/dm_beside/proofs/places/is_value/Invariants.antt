-- The occurrences before those that are left pass.
use Rattle.std.proofs.Common.{◌≡◌, length}
use Rattle.std.specs.List.{list_all}
use Rattle.dm_token.specs.declared.place.Span.{Span}
use Rattle.dm_type.specs.Tables.{Table}
use Rattle.dm_tree.specs.Views.{view_of_unit}
use Rattle.dm_sites.specs.Links.{passes}
use Rattle.dm_sites.specs.Sites.{site_of}
use Rattle.dm_beside.specs.Places.{is_read}
use Rattle.dm_beside.proofs.PlaceLemmas.{spans_of}
use Rattle.dm_beside.proofs.places.is_value.Given as goal

abbrev pub invariant-loop-occurrence : goal.invariant-loop-occurrence
invariant-loop-occurrence l = (types : Table) → list_all (λ (span : Span). passes is_read (site_of (view_of_unit types l.sites) span)) (spans_of l.left) ≡ list_all (λ (span : Span). passes is_read (site_of (view_of_unit types l.sites) span)) (spans_of l.run.occurrences)

abbrev pub decreases-loop-occurrence : goal.decreases-loop-occurrence
decreases-loop-occurrence l = length l.left
