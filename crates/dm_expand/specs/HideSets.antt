-- Hide sets: the numbers of the definitions whose names a token may no longer expand (6.10.3.4p2).
--     HiddenNumbers      a finite set of numbers
use Rattle.std.specs.Ordering.{nat_cmp}
use Rattle.std.specs.FinSet as set

-- a finite set of definition numbers
abbrev pub HiddenNumbers : Type 0
HiddenNumbers = set.FinSet nat_cmp
