-- What the declaration names is among the older objects.
use Rattle.std.proofs.Common.{◌≡◌, length}
use mathlib.Core.List.{reverse}
use Rattle.dm_meaning.specs.Operations.{object_named}
use Rattle.dm_frame.proofs.objects.Stack+tuple2+u32+u64.named.Given as goal

abbrev pub invariant-loop-d : goal.invariant-loop-d
invariant-loop-d l = object_named (reverse l.left) l.declared ≡ object_named l.fn.self l.declared

abbrev pub decreases-loop-d : goal.decreases-loop-d
decreases-loop-d l = length l.left
