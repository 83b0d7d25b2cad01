-- The definitions of the units that are left come behind those that were found.
use Rattle.std.proofs.Common.{◌≡◌, map, fold, drop}
use Rattle.std.specs.List.{flat_map}
use Rattle.dm_reading.specs.declared.reading.Reading.{Reading}
use Rattle.dm_readings.specs.Definitions.{once_more, in_files, definitions_in}
use Rattle.dm_readings.specs.Sites.{sites_of}
use Rattle.dm_readings.proofs.distinct.definitions.Given as goal

abbrev pub invariant-loop-reading : goal.invariant-loop-reading
invariant-loop-reading l = record {
  sites : l.sites.keys ≡ sites_of (map (λ one. one.now) l.found.items);
  all : fold once_more (map (λ one. one.now) l.found.items) (flat_map (λ (reading : Reading). in_files reading.pp.read) (drop l.reading-index l.readings)) ≡ definitions_in l.readings;
}
