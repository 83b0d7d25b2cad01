use Rattle.std.proofs.Common.{◌≡◌, take}
use Rattle.std.specs.FinSet as set
use Rattle.dm_expand.proofs.HiddenLemmas.{of_list}
use Rattle.dm_expand.proofs.hidden.Hidden.hides_all.Given as goal

abbrev pub invariant-loop-number : goal.invariant-loop-number
invariant-loop-number l = l.self ≡ set.union l.self (of_list (take l.number-index l.numbers))
