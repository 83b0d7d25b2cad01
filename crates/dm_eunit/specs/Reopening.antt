-- Scopes that open again, with the names that they had.
--     AreUnlinked entries names      the entries of these names have no linkage
use Rattle.std.specs.Prelude.{◌≡◌, Bool, true, false, not, List, Option, Some, None, slice_get, All}
use Rattle.dm_tree.specs.declared.unit.Declared.{Declared}
use Rattle.dm_tree.specs.Typing.{has_linkage}
use Rattle.dm_eunit.specs.declared.naming.Numbered.{Numbered}

abbrev pub is_unlinked : Option Declared → Bool
is_unlinked None = false
is_unlinked (Some entry) = not (has_linkage entry.linkage)

abbrev pub AreUnlinked : List Declared → List Numbered → Type 0
AreUnlinked entries names = All (λ (one : Numbered). is_unlinked (slice_get entries one.number) ≡ true) names
