-- The first unit is still to come.
use Rattle.std.proofs.Common.{◌≡◌, All}
use Rattle.dm_manifest.specs.Units.{IsLawful}
use Rattle.dm_sources.proofs.Iterators.{items_of}
use Rattle.dm_sources.specs.Sources.{unit_named}
use Rattle.dm_sources.proofs.finding.unit_in.Given as goal

abbrev pub invariant-loop-unit : goal.invariant-loop-unit
invariant-loop-unit l = record {
  first : unit_named l.file (items_of l.unit-iterator) ≡ unit_named l.file l.fn.units;
  lawful : All IsLawful (items_of l.unit-iterator);
}
