-- All rules that a definition has to keep in the units of a project, by their numbers.
--     broken_on_runs rule definition readings      a rule that asks what stands where the macro's runs stand: 9, 10, 11 or 14
--     rules_of definition readings      each rule from 1 to 14, and the place where it is broken first, if it is
--     broken_first rules      the first of some rules that is broken, with the place where it is broken first
use Rattle.std.specs.Prelude.{ℕ, Bool, not, List, [], ◌∷◌, filter, Option, Some, None, is_some}
use Rattle.dm_token.specs.declared.place.Place.{Place}
use Rattle.dm_token.specs.declared.expansion.Definition.{Definition}
use Rattle.dm_reading.specs.declared.reading.Reading.{Reading}
use Rattle.dm_runs.specs.declared.run.Run.{Run}
use Rattle.dm_beside.specs.Evaluation.{evaluates_alike}
use Rattle.dm_beside.specs.Places.{is_subtree, is_value, may_be_constant}
use Rattle.dm_meanings.specs.Captures.{broken_capture}
use Rattle.dm_rules.specs.Rules.{broken_body, broken_again, broken_directive, broken_unused, broken_gone, broken_place, broken_name, broken_parameter}
use Rattle.dm_meanings.specs.Types.{broken_type, unit_in}
use Rattle.dm_rules.specs.Uses.{runs_in, first_with, in_first_unit}
use Rattle.dm_judge.specs.declared.rule.RunRule.{RunRule}
use Rattle.dm_judge.specs.declared.rule.RunRule.TheVariants.{Subtree, Constant, Lvalue, Evaluation}

-- ---- rules on runs

-- a run keeps a rule
abbrev pub keeps : RunRule → Definition → Reading → Run → Bool
keeps Subtree definition reading run = is_subtree (unit_in reading) run
keeps Constant definition reading run = may_be_constant reading.types (unit_in reading) (is_some definition.parameters) run
keeps Lvalue definition reading run = is_value (unit_in reading) run
keeps Evaluation definition reading run = evaluates_alike reading.types (unit_in reading) run

-- the name of the first expansion that has a run that doesn't
abbrev pub failing_in : RunRule → Definition → Reading → Option Place
failing_in rule definition reading =
    first_with definition (filter (λ run. not (keeps rule definition reading run)) (runs_in definition reading)) reading

abbrev pub broken_on_runs : RunRule → Definition → List Reading → Option Place
broken_on_runs rule definition readings = in_first_unit (failing_in rule definition) readings

-- ---- all of them

-- Rules by their numbers, each with the place where it is broken first, if it is.
abbrev pub Rules : Type 0
Rules = List (ℕ × Option Place)

abbrev pub rules_from_9 : Definition → List Reading → Rules
rules_from_9 definition readings =
    (9, broken_on_runs Subtree definition readings) ∷ (10, broken_on_runs Constant definition readings) ∷ (11, broken_on_runs Lvalue definition readings)
    ∷ (12, broken_type definition readings) ∷ (13, broken_capture definition readings) ∷ (14, broken_on_runs Evaluation definition readings) ∷ []

abbrev pub rules_from_5 : Definition → List Reading → Rules
rules_from_5 definition readings =
    (5, broken_gone definition readings) ∷ (6, broken_place definition readings) ∷ (7, broken_name definition readings)
    ∷ (8, broken_parameter definition readings) ∷ rules_from_9 definition readings

abbrev pub rules_of : Definition → List Reading → Rules
rules_of definition readings =
    (1, broken_body definition) ∷ (2, broken_again definition readings) ∷ (3, broken_directive definition readings)
    ∷ (4, broken_unused definition readings) ∷ rules_from_5 definition readings

-- ---- the least

abbrev pub broken_first : Rules → Option (ℕ × Place)
broken_first [] = None
broken_first ((rule, Some place) ∷ others) = Some (rule, place)
broken_first ((rule, None) ∷ others) = broken_first others
