-- No unit up to here has one.
use Rattle.std.proofs.Common.{◌≡◌, drop, find}
use Rattle.std.specs.List.{flat_map}
use Rattle.dm_judge.specs.Proposals.{definitions_in}
use Rattle.dm_rules.specs.Indexes.{readings_of}
use Rattle.dm_subjects.specs.Lines.{stands_on}
use Rattle.dm_subjects.proofs.found.definition_by.Given as goal

abbrev pub invariant-loop-index : goal.invariant-loop-index
invariant-loop-index l =
    find (stands_on l.fn.key.file l.line) (flat_map definitions_in (readings_of (drop l.index-index l.units)))
    ≡ find (stands_on l.fn.key.file l.line) (flat_map definitions_in (readings_of l.units))
