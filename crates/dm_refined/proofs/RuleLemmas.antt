-- What a unit that breaks no rule says of its runs.
--     runs_keep      each run that is of an expansion keeps the rules on runs
--     unit_keeps      so do all, where a unit breaks no rule, and rule 8 is kept
--     project_keeps      so they do where a project breaks none
use Rattle.std.specs.Prelude.{◌≡◌, refl, ℕ, Bool, true, false, not, ◌&&◌, ◌||◌, bytes_eq, List, [], ◌∷◌, filter, find, Option, Some, None, is_some, option_map, if◌then◌else◌}
use Rattle.std.specs.List.{AllByRecursion, list_any}
use Rattle.std.proofs.Common.{◌⊎◌, inl, inr, ap, sym, ◌∙◌, subst}
use Rattle.std.proofs.lemmas.Bool.{false≢true}
use Rattle.dm_token.specs.declared.place.Place.{Place}
use Rattle.dm_token.specs.declared.expansion.Definition.{Definition}
use Rattle.dm_token.specs.declared.expansion.Expansion.{Expansion}
use Rattle.dm_runs.specs.declared.run.Run.{Run}
use Rattle.dm_reading.specs.declared.reading.Reading.{Reading}
use Rattle.dm_macro.specs.Bodies.{named_parameters}
use Rattle.dm_macro.specs.Signs.{is_word}
use Rattle.dm_meaning.specs.Among.{IsAmong}
use Rattle.dm_spell.specs.Tables.{keyword_rows}
use Rattle.dm_rules.specs.Rules.{broken_directive, broken_parameter, defines_in, is_parameter, own_place}
use Rattle.dm_rules.specs.Uses.{expansions_in, runs_in, is_run_of, has_run, first_with, in_first_unit, or_else, reads}
use Rattle.dm_beside.specs.Evaluation.{evaluates_alike}
use Rattle.dm_beside.specs.Places.{is_subtree, is_value, may_be_constant}
use Rattle.dm_meanings.specs.Types.{unit_in}
use Rattle.dm_judge.specs.Rules.{Rules, broken_first, rules_from_5, rules_of}
use Rattle.dm_told.proofs.FindLemmas.{all_weaker, all_both, none_passes}
use Rattle.dm_refined.specs.Allowed.{rules_in, rules_on_use}
use Rattle.dm_refined.specs.Programs.{AreOfExpansions, KeepsCallRules, KeepsRunRules}

some_is_none : {A : Type 0} (x : A) → Some x ≡ None → ⊥
some_is_none x e = cc

or_right : (a b : Bool) → b ≡ true → (a || b) ≡ true
or_right true b e = refl
or_right false b e = e

or_left : (a b : Bool) → a ≡ true → (a || b) ≡ true
or_left true b e = refl
or_left false b e = absurd (false≢true e)

-- ---- rules

none_broken : (rules : Rules) → broken_first rules ≡ None → AllByRecursion (λ (rule : ℕ × Option Place). rule.1 ≡ None) rules
none_broken [] e = tt
none_broken ((number, None) ∷ others) e = (refl, none_broken others e)
none_broken ((number, Some place) ∷ others) e = absurd (some_is_none (number, place) e)

no_place : (o : Option Place) → or_else o None ≡ None → o ≡ None
no_place None e = refl
no_place (Some place) e = absurd (some_is_none place e)

rules_unbroken : (definition : Definition) (reading : Reading) → broken_first (rules_in definition reading) ≡ None → reads definition reading ≡ true
    → broken_first (rules_from_5 definition (reading ∷ [])) ≡ None
rules_unbroken definition reading e read =
    subst (λ (b : Bool). broken_first (if b then rules_from_5 definition (reading ∷ []) else []) ≡ None) read (behind_first (3, broken_directive definition (reading ∷ [])) (rules_on_use definition reading) e)
  where
    behind_first : (rule : ℕ × Option Place) (others : Rules) → broken_first (rule ∷ others) ≡ None → broken_first others ≡ None
    behind_first (number, None) others k = k
    behind_first (number, Some place) others k = absurd (some_is_none (number, place) k)

-- ---- runs

module _ (keep : Run → Bool) where
  abbrev failing : List Run → List Run
  failing runs = filter (λ (run : Run). not (keep run)) runs

  abbrev IsFound : List Run → Run → Type 0
  IsFound runs run = (test : Run → Bool) → keep run ≡ false → test run ≡ true → list_any test (failing runs) ≡ true

  one_more : (first : Run) (runs : List Run) (test : Run → Bool) → list_any test (failing runs) ≡ true → list_any test (failing (first ∷ runs)) ≡ true
  one_more first runs test e = by_test (not (keep first))
    where
      by_test : (b : Bool) → list_any test (if b then first ∷ failing runs else failing runs) ≡ true
      by_test true = or_right (test first) (list_any test (failing runs)) e
      by_test false = e

  this_one : (first : Run) (runs : List Run) → IsFound (first ∷ runs) first
  this_one first runs test lost e =
      subst (λ (b : Bool). list_any test (if b then first ∷ failing runs else failing runs) ≡ true) (sym (ap not lost)) (or_left (test first) (list_any test (failing runs)) e)

  all_found : (runs : List Run) → AllByRecursion (IsFound runs) runs
  all_found [] = tt
  all_found (first ∷ runs) =
      (this_one first runs, all_weaker (IsFound runs) (IsFound (first ∷ runs)) (λ run h test lost e. one_more first runs test (h test lost e)) runs (all_found runs))

  no_expansion : (runs : List Run) (run : Run) (expansions : List Expansion) → ((expansion : Expansion) → is_run_of expansion run ≡ true → has_run (failing runs) expansion ≡ true)
      → AllByRecursion (λ (expansion : Expansion). has_run (failing runs) expansion ≡ true → ⊥) expansions → list_any (λ (expansion : Expansion). is_run_of expansion run) expansions ≡ true → ⊥
  no_expansion runs run [] found none e = false≢true e
  no_expansion runs run (expansion ∷ expansions) found none e = by_test (is_run_of expansion run) refl e (no_expansion runs run expansions found none.1)
    where
      by_test : (b : Bool) → is_run_of expansion run ≡ b → (b || list_any (λ (each : Expansion). is_run_of each run) expansions) ≡ true
          → (list_any (λ (each : Expansion). is_run_of each run) expansions ≡ true → ⊥) → ⊥
      by_test true is k rest = none.0 (found expansion is)
      by_test false is k rest = rest k

  each_keeps : (definition : Definition) (reading : Reading) (runs : List Run) → first_with definition (failing runs) reading ≡ None → (part : List Run) → AllByRecursion (IsFound runs) part
      → AllByRecursion (λ (run : Run). list_any (λ (expansion : Expansion). is_run_of expansion run) (expansions_in definition reading) ≡ true) part
      → AllByRecursion (λ (run : Run). keep run ≡ true) part
  each_keeps definition reading runs e [] found of_expansions = tt
  each_keeps definition reading runs e (run ∷ part) found of_expansions =
      (by_keep (keep run) refl, each_keeps definition reading runs e part found.1 of_expansions.1)
    where
      no_name : (o : Option Expansion) → option_map (λ (one : Expansion). one.name) o ≡ None → o ≡ None
      no_name None k = refl
      no_name (Some expansion) k = absurd (some_is_none expansion.name k)

      by_keep : (b : Bool) → keep run ≡ b → keep run ≡ true
      by_keep true is = is
      by_keep false is =
          absurd (no_expansion runs run (expansions_in definition reading) (λ expansion of. found.0 (is_run_of expansion) is of)
          (none_passes (has_run (failing runs)) (expansions_in definition reading) (no_name (find (has_run (failing runs)) (expansions_in definition reading)) e)) of_expansions.0)

-- what each rule on runs gives
module _ (definition : Definition) (reading : Reading) (of_expansions : AreOfExpansions definition reading) where
  abbrev runs : List Run
  runs = runs_in definition reading

  abbrev IsKept : (Run → Bool) → Type 0
  IsKept keep = first_with definition (failing keep runs) reading ≡ None

  kept : (keep : Run → Bool) → IsKept keep → AllByRecursion (λ (run : Run). keep run ≡ true) runs
  kept keep e = each_keeps keep definition reading runs e runs (all_found keep runs) of_expansions

  all_kept : IsKept (is_subtree (unit_in reading)) → IsKept (may_be_constant reading.types (unit_in reading) (is_some definition.parameters)) → IsKept (is_value (unit_in reading))
      → IsKept (evaluates_alike reading.types (unit_in reading)) → AllByRecursion (KeepsRunRules definition reading) runs
  all_kept subtree constant value alike =
      let unit = unit_in reading in
      all_both (λ (run : Run). is_subtree unit run ≡ true)
      (λ (run : Run). (may_be_constant reading.types unit (is_some definition.parameters) run ≡ true) × ((is_value unit run ≡ true) × (evaluates_alike reading.types unit run ≡ true))) runs
      (kept (is_subtree unit) subtree)
      (all_both (λ (run : Run). may_be_constant reading.types unit (is_some definition.parameters) run ≡ true)
      (λ (run : Run). (is_value unit run ≡ true) × (evaluates_alike reading.types unit run ≡ true)) runs
      (kept (may_be_constant reading.types unit (is_some definition.parameters)) constant)
      (all_both (λ (run : Run). is_value unit run ≡ true) (λ (run : Run). evaluates_alike reading.types unit run ≡ true) runs (kept (is_value unit) value)
      (kept (evaluates_alike reading.types unit) alike)))

-- ---- one unit

module _ (definition : Definition) (reading : Reading) (unbroken : broken_first (rules_in definition reading) ≡ None) (read : reads definition reading ≡ true) where
  none_in : AllByRecursion (λ (rule : ℕ × Option Place). rule.1 ≡ None) (rules_from_5 definition (reading ∷ []))
  none_in = none_broken (rules_from_5 definition (reading ∷ [])) (rules_unbroken definition reading unbroken read)

  pub runs_keep : AreOfExpansions definition reading → AllByRecursion (KeepsRunRules definition reading) (runs_in definition reading)
  runs_keep of_expansions =
      let unit = unit_in reading in
      let them = runs_in definition reading in
      all_kept definition reading of_expansions (no_place (first_with definition (failing (is_subtree unit) them) reading) none_in.1.1.1.1.0)
      (no_place (first_with definition (failing (may_be_constant reading.types unit (is_some definition.parameters)) them) reading) none_in.1.1.1.1.1.0)
      (no_place (first_with definition (failing (is_value unit) them) reading) none_in.1.1.1.1.1.1.0)
      (no_place (first_with definition (failing (evaluates_alike reading.types unit) them) reading) none_in.1.1.1.1.1.1.1.1.1.0)

  -- rule 8
  pub unit_keeps : AreOfExpansions definition reading → KeepsCallRules definition reading
  unit_keeps of_expansions = (none_in.1.1.1.0, runs_keep of_expansions)

-- ---- all units of a project

in_each : (place : Reading → Option Place) (readings : List Reading) (reading : Reading) → IsAmong reading readings → in_first_unit place readings ≡ None → place reading ≡ None
in_each place [] reading among e = absurd among
in_each place (first ∷ readings) reading among e = by_first (place first) refl e among (in_each place readings reading)
  where
    by_first : (o : Option Place) → place first ≡ o → or_else o (in_first_unit place readings) ≡ None → (reading ≡ first) ⊎ IsAmong reading readings
        → (IsAmong reading readings → in_first_unit place readings ≡ None → place reading ≡ None) → place reading ≡ None
    by_first (Some found) is k there rest = absurd (some_is_none found k)
    by_first None is k (inl same) rest = ap place same ∙ is
    by_first None is k (inr there) rest = rest there k

-- what no unit defines one doesn't
not_any : {A : Type 0} (test : A → Bool) (items : List A) (x : A) → IsAmong x items → list_any test items ≡ false → list_any test (x ∷ []) ≡ false
not_any test [] x among e = absurd among
not_any test (first ∷ items) x among e = by_first (test first) refl e among (not_any test items x)
  where
    either : (b : Bool) → b ≡ false → (b || false) ≡ false
    either true k = k
    either false k = refl

    by_first : (b : Bool) → test first ≡ b → (b || list_any test items) ≡ false → (x ≡ first) ⊎ IsAmong x items
        → (IsAmong x items → list_any test items ≡ false → list_any test (x ∷ []) ≡ false) → list_any test (x ∷ []) ≡ false
    by_first true is k there rest = absurd (false≢true (sym k))
    by_first false is k (inl same) rest = either (test x) (ap test same ∙ is)
    by_first false is k (inr there) rest = rest there k

not_all : {A : Type 0} (test other : A → Bool) → ((x : A) → test x ≡ false → other x ≡ false) → (items : List A) → list_any test items ≡ false → list_any other items ≡ false
not_all test other f [] e = refl
not_all test other f (x ∷ items) e = by_first (test x) refl e (not_all test other f items)
  where
    by_first : (b : Bool) → test x ≡ b → (b || list_any test items) ≡ false → (list_any test items ≡ false → list_any other items ≡ false) → (other x || list_any other items) ≡ false
    by_first true is k rest = absurd (false≢true (sym k))
    by_first false is k rest = ap (λ (b : Bool). b || list_any other items) (f x is) ∙ rest k

no_break : (definition : Definition) (breaks : Bool) → own_place definition breaks ≡ None → breaks ≡ false
no_break definition true e = absurd (some_is_none definition.place e)
no_break definition false e = refl

parameters_in : (definition : Definition) (readings : List Reading) (reading : Reading) → IsAmong reading readings → broken_parameter definition readings ≡ None → broken_parameter definition (reading ∷ []) ≡ None
parameters_in definition readings reading among e =
    let names = named_parameters definition.parameters in
    let none = no_break definition (list_any (λ name. not (is_parameter definition readings name)) names) e in
    ap (own_place definition) (not_all (λ name. not (is_parameter definition readings name)) (λ name. not (is_parameter definition (reading ∷ []) name))
    (λ name k. one_name name (list_any (bytes_eq name) keyword_rows) (list_any (defines_in name) readings) (list_any (is_word name) definition.body) refl k) names none)
  where
    one_name : (name : List ℕ) (keyword defined word : Bool) → list_any (defines_in name) readings ≡ defined → not (not keyword && not defined && word) ≡ false
        → not (not keyword && not (list_any (defines_in name) (reading ∷ [])) && word) ≡ false
    one_name name true defined word is k = absurd (false≢true (sym k))
    one_name name false true word is k = absurd (false≢true (sym k))
    one_name name false false word is k = ap (λ (b : Bool). not (not b && word)) (not_any (defines_in name) readings reading among is) ∙ k

pub project_keeps : (definition : Definition) (readings : List Reading) (reading : Reading) → IsAmong reading readings → broken_first (rules_of definition readings) ≡ None
    → AreOfExpansions definition reading → KeepsCallRules definition reading
project_keeps definition readings reading among unbroken of_expansions =
    let none = none_broken (rules_of definition readings) unbroken in
    let from = none.1.1.1.1 in (
      parameters_in definition readings reading among from.1.1.1.0,
      all_kept definition reading of_expansions (in_each _ readings reading among from.1.1.1.1.0)
          (in_each _ readings reading among from.1.1.1.1.1.0) (in_each _ readings reading among from.1.1.1.1.1.1.0)
          (in_each _ readings reading among from.1.1.1.1.1.1.1.1.1.0),
    )
