-- What is passed up to here has the types of the first run.
use Rattle.std.proofs.Common.{◌≡◌, drop}
use Rattle.std.specs.List.{list_all}
use Rattle.dm_meanings.specs.Types.{Met, has_type}
use Rattle.dm_meanings.specs.Wanted.{IsWanted}
use Rattle.dm_meanings.proofs.types.has_types.Given as goal

abbrev pub invariant-loop-one : goal.invariant-loop-one
invariant-loop-one l =
    (first : Met) → IsWanted l.fn.definition first l.fn.wanted
    → list_all (has_type l.fn.definition first l.fn.unit.index.now.reading.now) (drop l.one-index l.occurrences)
    ≡ list_all (has_type l.fn.definition first l.fn.unit.index.now.reading.now) l.occurrences
