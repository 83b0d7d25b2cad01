use Rattle.std.proofs.Common.{◌≡◌, nat_eq, take}
use Rattle.std.specs.List.{list_any}
use Rattle.dm_expand.proofs.hidden.is_among.Given as goal

abbrev pub invariant-loop-other : goal.invariant-loop-other
invariant-loop-other l = l.found ≡ list_any (λ other. nat_eq other l.number) (take l.other-index l.numbers)
