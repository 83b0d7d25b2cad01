-- The numbers of those expansions whose runs up to here have other types.
use Rattle.std.proofs.Common.{not, take}
use Rattle.std.specs.Prelude.{filter}
use Rattle.dm_rules.specs.Instances.{AreOf}
use Rattle.dm_meanings.specs.Types.{Met, has_types}
use Rattle.dm_meanings.specs.Wanted.{IsWanted}
use Rattle.dm_meanings.proofs.types.type_in.Given as goal

abbrev pub invariant-loop-run : goal.invariant-loop-run
invariant-loop-run l =
    (first : Met) → IsWanted l.fn.definition first l.fn.wanted
    → AreOf (filter (λ run. not (has_types l.fn.definition first l.fn.unit.index.now.reading.now run)) (take l.run-index l.runs)) l.instances
