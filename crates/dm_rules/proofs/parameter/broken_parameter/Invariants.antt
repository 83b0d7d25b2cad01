-- Each parameter up to here may be one of a function.
use Rattle.std.proofs.Common.{◌≡◌, List, drop, not}
use Rattle.std.specs.List.{list_any}
use Rattle.dm_reading.specs.declared.reading.Reading.{Reading}
use Rattle.dm_rules.specs.Rules.{is_parameter}
use Rattle.dm_rules.specs.Words.{AreMacros}
use Rattle.dm_rules.proofs.parameter.broken_parameter.Given as goal

abbrev pub invariant-loop-name : goal.invariant-loop-name
invariant-loop-name l = (readings : List Reading) → AreMacros l.fn.macros readings
    → list_any (λ name. not (is_parameter l.fn.definition readings name)) (drop l.name-index l.names) ≡ list_any (λ name. not (is_parameter l.fn.definition readings name)) l.names
