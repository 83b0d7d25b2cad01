-- Each rule gives what is asked of runs.
use Rattle.std.specs.Prelude.{◌≡◌, ℕ, ◌<◌, true, List, [], ◌∷◌, IsTrue, is_some, length, Option, None}
use Rattle.std.specs.List.{AllByRecursion}
use Rattle.std.proofs.Common.{subst}
use Rattle.dm_token.specs.declared.expansion.Definition.{Definition}
use Rattle.dm_runs.specs.declared.run.Run.{Run}
use Rattle.dm_reading.specs.declared.reading.Reading.{Reading}
use Rattle.dm_agree.specs.Agreement.{Rewriting}
use Rattle.dm_apart.specs.Apart.{HasOccurrence, HasPartsApart}
use Rattle.dm_beside.specs.Places.{may_be_constant}
use Rattle.dm_macro.specs.Bodies.{named_parameters}
use Rattle.dm_meanings.specs.Types.{unit_in}
use Rattle.dm_rules.specs.Uses.{runs_in}
use Rattle.dm_standing.specs.Calls.{HasArguments, HasOccurrences, MayCall}
use Rattle.dm_unit.specs.Units.{setting_of}
use Rattle.dm_refined.specs.Programs.{KeepsRunRules}
use Rattle.dm_refined.proofs.ParameterLemmas.{all_named, read_as}
use Rattle.dm_refined.proofs.laws.kept_rules_give_arguments.Goals as goal

abbrev OccurBelow : ℕ → Run → Type 0
OccurBelow count run = (n : ℕ) → n < count → HasOccurrence n run

swapped : (count : ℕ) (runs : List Run) → ((n : ℕ) → n < count → AllByRecursion (HasOccurrence n) runs) → AllByRecursion (OccurBelow count) runs
swapped count [] h = tt
swapped count (run ∷ runs) h = (λ n few. (h n few).0, swapped count runs (λ n few. (h n few).1))

all_given : (definition : Definition) (reading : Reading) (it : Rewriting) (count : ℕ) → is_some definition.parameters ≡ true
    → ((run : Run) → KeepsRunRules definition reading run → HasPartsApart run → OccurBelow count run → HasArguments it (unit_in reading) count run × HasOccurrences it (unit_in reading) run)
    → (runs : List Run) → AllByRecursion (KeepsRunRules definition reading) runs → AllByRecursion HasPartsApart runs → AllByRecursion (OccurBelow count) runs
    → AllByRecursion (λ (run : Run). MayCall reading.types (unit_in reading) run × HasArguments it (unit_in reading) count run × HasOccurrences it (unit_in reading) run) runs
all_given definition reading it count called give [] keep apart occur = tt
all_given definition reading it count called give (run ∷ runs) keep apart occur =
    let both = give run keep.0 apart.0 occur.0 in (
      (subst (λ b. IsTrue (may_be_constant reading.types (unit_in reading) b run)) called keep.0.1.0, both.0, both.1),
      all_given definition reading it count called give runs keep.1 apart.1 occur.1,
    )

pub returns : goal.returns
returns c files unit before after old definition it is made keep called =
    let setting = setting_of before after files unit in
    let one = unit_in old in
    let count = length (named_parameters definition.parameters) in
    let runs = runs_in definition old in
    let typed = c.readings_are_sound.ensures.unit old is.2 in
    let laid = c.readings_are_sound.ensures.layout old is.2 in
    let differ = c.parameters_differ.ensures definition.place.file _ definition made in
    let reads_it = read_as setting definition old.pp.read c.one_definition.ensures made (c.definitions_are_made.ensures files unit before after old.pp is.1) in
    let named = all_named definition old keep.0 differ in
    all_given definition old it count called
    (λ run kept apart occur. (
      c.arguments_stand.ensures old.types one it count run typed laid apart kept.0 occur,
      c.occurrences_stand.ensures old.types one it run typed laid apart,
    )) runs keep.1 (c.occurrences_are_apart.ensures old.pp old.tokens definition.place.file definition.hash)
    (swapped count runs (λ n few. c.named_parameters_occur.ensures old.pp old.tokens definition.place.file definition.hash definition n reads_it (named n few)))
