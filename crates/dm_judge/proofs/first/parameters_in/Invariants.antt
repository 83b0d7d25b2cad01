-- The parameters up to here and those of the names that are left are all, and the types are in the table.
use Rattle.std.proofs.Common.{◌≡◌, ◌++◌, drop, map}
use Rattle.std.specs.Prelude.{All}
use Rattle.dm_type.specs.Tables.{IsId}
use Rattle.dm_meanings.specs.First.{seen}
use Rattle.dm_judge.specs.Changes.{parameter_over}
use Rattle.dm_judge.specs.Proposals.{parameters_from}
use Rattle.dm_judge.specs.declared.signature.Parameter.{Parameter}
use Rattle.dm_judge.proofs.first.parameters_in.Given as goal

abbrev pub invariant-loop-number : goal.invariant-loop-number
invariant-loop-number l =
    (map (parameter_over l.fn.first.unit.now.index.now.reading.now.types) l.parameters ++ parameters_from (seen l.fn.first) l.number (drop l.number l.fn.names)
    ≡ parameters_from (seen l.fn.first) 0 l.fn.names)
    × All (λ (one : Parameter). IsId l.fn.first.unit.now.index.now.reading.now.types one.kind) l.parameters
