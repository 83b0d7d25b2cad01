-- The types are those of the first run, if there is one.
use Rattle.std.proofs.Common.{ap, ◌∙◌}
use Rattle.std.specs.Prelude.{option_and_then}
use Rattle.dm_rules.specs.Uses.{in_first_unit}
use Rattle.dm_meanings.specs.First.{readings_of, seen}
use Rattle.dm_meanings.specs.Types.{type_in}
use Rattle.dm_meanings.proofs.types.broken_type.Goals as goal

pub returns-in-None : goal.returns-in-None
returns-in-None c = ap (option_and_then (λ first. in_first_unit (type_in c.args.definition.now first) (readings_of c.args.units.now))) c.in-None.ensures

pub returns-in_ok-place-in-Some : goal.returns-in_ok-place-in-Some
returns-in_ok-place-in-Some c =
    c.in_ok-place-in-Some.ensures (seen c.in-Some.first) c.in_ok-wanted-in-Some.ensures ∙ ap (option_and_then (λ first. in_first_unit (type_in c.args.definition.now first) (readings_of c.args.units.now))) c.in-Some.ensures
