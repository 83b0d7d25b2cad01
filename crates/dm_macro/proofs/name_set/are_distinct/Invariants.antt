use Rattle.std.proofs.Common.{take, bytes_eq}
use Rattle.std.specs.List.{IsDistinct}
use Rattle.dm_macro.specs.NameSets.{HasNamesOf}
use Rattle.dm_macro.proofs.name_set.are_distinct.Given as goal

abbrev pub invariant-loop-name : goal.invariant-loop-name
invariant-loop-name l = record {
  apart : IsDistinct bytes_eq (take l.name-index l.names);
  same : HasNamesOf (take l.name-index l.names) l.seen;
}
