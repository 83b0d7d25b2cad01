-- The definitions that are left come behind those that were found.
use Rattle.std.proofs.Common.{◌≡◌, map, fold, drop}
use Rattle.dm_readings.specs.Definitions.{once_more, in_files}
use Rattle.dm_readings.specs.Sites.{sites_of}
use Rattle.dm_readings.proofs.distinct.add_read.Given as goal

abbrev pub invariant-loop-one : goal.invariant-loop-one
invariant-loop-one l = record {
  sites : l.sites.keys ≡ sites_of (map (λ one. one.now) l.found.items);
  all : fold once_more (map (λ one. one.now) l.found.items) (in_files (drop l.one-index l.read))
      ≡ fold once_more (map (λ one. one.now) l.initial.found.items) (in_files l.read);
}
