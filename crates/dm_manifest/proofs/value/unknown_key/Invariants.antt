use Rattle.std.proofs.Common.{◌≡◌, map, find, string_bytes}
use Rattle.std.specs.BTreeMap.{keys}
use Rattle.dm_manifest.proofs.Keys.{is_unknown}
use Rattle.dm_manifest.proofs.value.unknown_key.Given as goal

abbrev pub invariant-loop-key : goal.invariant-loop-key
invariant-loop-key l =
    (goal.iterator-loop-key).can_next l.key-iterator ×
    (goal.iterator-loop-key).is_finite l.key-iterator ×
    (find (is_unknown l.known) (map string_bytes l.key-iterator) ≡ find (is_unknown l.known) (map string_bytes (keys l.members)))
