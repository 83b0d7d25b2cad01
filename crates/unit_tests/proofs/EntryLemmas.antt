-- The types of a unit's entries are numbered.
use Rattle.std.specs.Prelude.{◌≡◌, ◌<◌, true, List, length, All}
use Rattle.std.specs.List.{list_all}
use Rattle.std.proofs.lemmas.Bool.{ltb-true}
use Rattle.std.proofs.lemmas.List.Sums.{AllPass-from_list_all}
use Rattle.std.proofs.lemmas.List.Elements.{All-weaker}
use Rattle.dm_type.specs.Tables.{Table, IsId}
use Rattle.dm_tree.specs.declared.unit.Declared.{Declared}
use Rattle.dm_tree.specs.TypeNumbers.{entry_has_known}
use Rattle.dm_typing.specs.Fitting.{HaveTypes}

pub have-types : (types : Table) (entries : List Declared) → list_all (entry_has_known (length types.shapes)) entries ≡ true → HaveTypes types entries
have-types types entries known = All-weaker (λ entry. entry_has_known (length types.shapes) entry ≡ true) (λ (entry : Declared). IsId types entry.kind)
    (λ entry passed. ltb-true entry.kind (length types.shapes) passed) entries
    (AllPass-from_list_all (entry_has_known (length types.shapes)) entries known)
