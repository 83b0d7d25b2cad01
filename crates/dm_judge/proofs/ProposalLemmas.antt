-- Where no rule is broken, there is a change.
use Rattle.std.proofs.Common.{◌≡◌, ℕ, suc, Bool, true, false, List, [], ◌∷◌, refl, ap, sym, ◌∙◌, subst}
use Rattle.std.specs.Prelude.{Option, Some, None, All, find, filter, not, ◌||◌, option_map, option_and_then, if◌then◌else◌}
use Rattle.std.specs.List.{list_any, list_all}
use Rattle.std.specs.Option.{option_map_or}
use Rattle.std.proofs.lemmas.Bool.{and_parts, true≢false, not-false}
use Rattle.std.proofs.lemmas.List.Elements.{All-cons, All-nil}
use Rattle.dm_token.specs.declared.place.Place.{Place}
use Rattle.dm_token.specs.declared.place.Span.{Span}
use Rattle.dm_token.specs.declared.expansion.Definition.{Definition}
use Rattle.dm_token.specs.declared.expansion.Expansion.{Expansion}
use Rattle.dm_type.specs.CTypes.{CType}
use Rattle.dm_type.specs.Spelling.{spelling}
use Rattle.dm_macro.specs.Bodies.{named_parameters}
use Rattle.dm_edit.specs.declared.change.Change.{Change}
use Rattle.dm_reading.specs.declared.reading.Reading.{Reading}
use Rattle.dm_runs.specs.declared.run.Occurrence.{Occurrence}
use Rattle.dm_runs.specs.declared.run.Run.{Run}
use Rattle.dm_rules.specs.Rules.{broken_gone, broken_unused, gone_in, is_empty, is_gone, is_used, own_place}
use Rattle.dm_meanings.specs.Types.{Met, broken_type, first_run, has_type, has_types, is_of, is_same_text, kind_at, met, result_text, text_at, type_in, visible_at}
use Rattle.dm_rules.specs.Uses.{expansions_in, first_with, has_run, in_first_unit, is_run_of, or_else, run_of_first, runs_in}
use Rattle.dm_judge.specs.Changes.{Parameter, Signature, change_with}
use Rattle.dm_judge.specs.Rules.{Rules, broken_first, rules_of}
use Rattle.dm_judge.specs.Proposals.{change_at, change_of, parameter_in, parameters_from, signature_at, with_some}
use Rattle.dm_judge.proofs.ChangeLemmas.{There, IsSpellable, change-stands, mapped, spellable}
use Rattle.dm_judge.proofs.SearchLemmas.{by_test, found-keeps, found-not-failing, found-one, none-first}

-- ---- rules that are kept

-- none of some rules is broken
abbrev pub AreKept : Rules → Type 0
AreKept [] = Unit {0}
AreKept ((rule, place) ∷ others) = (place ≡ None) × AreKept others

pub all-kept : (rules : Rules) → broken_first rules ≡ None → AreKept rules
all-kept [] h = tt
all-kept ((rule, None) ∷ others) h = (refl, all-kept others h)
all-kept ((rule, Some place) ∷ others) h = absurd (cc h)

-- a place that no unit has
pub kept-in : (place : Reading → Option Place) (reading : Reading) (readings : List Reading) → in_first_unit place (reading ∷ readings) ≡ None
    → (place reading ≡ None) × (in_first_unit place readings ≡ None)
kept-in place reading readings h = go (place reading) refl
  where
    go : (found : Option Place) → place reading ≡ found → (place reading ≡ None) × (in_first_unit place readings ≡ None)
    go None e = (e, sym (ap (λ one. or_else one (in_first_unit place readings)) e) ∙ h)
    go (Some other) e = absurd (cc (sym (ap (λ one. or_else one (in_first_unit place readings)) e) ∙ h))

-- nothing is mapped to nothing alone
pub unmapped : {A B : Type 0} (f : A → B) (option : Option A) → option_map f option ≡ None → option ≡ None
unmapped f None h = refl
unmapped f (Some x) h = absurd (cc h)

last-false : (a b c : Bool) → (a || b || c) ≡ false → c ≡ false
last-false false false c h = h
last-false false true c h = absurd (true≢false h)
last-false true false c h = absurd (true≢false h)
last-false true true c h = absurd (true≢false h)

-- ---- the first run

-- by rule 5 the first expansion has one
run-there : (runs : List Run) (expansions : List Expansion) → not (is_empty expansions) ≡ true
    → option_map (λ (one : Expansion). one.name) (find (is_gone runs) expansions) ≡ None → There (run_of_first runs expansions)
run-there runs [] some h = absurd (true≢false (sym some))
run-there runs (expansion ∷ expansions) some h =
    found-one (is_run_of expansion) runs
    (not-false (has_run runs expansion) (last-false expansion.taken expansion.foreign (not (has_run runs expansion))
    (none-first (is_gone runs) expansion expansions (unmapped (λ (one : Expansion). one.name) (find (is_gone runs) (expansion ∷ expansions)) h))))

-- a choice by a test
chosen : {A : Type 0} (b : Bool) (x y : Option A) → (b ≡ true → There x) → (b ≡ false → There y) → There (if b then x else y)
chosen true x y one other = one refl
chosen false x y one other = other refl

first-there : (definition : Definition) (readings : List Reading) → list_any (is_used definition) readings ≡ true
    → in_first_unit (gone_in definition) readings ≡ None → There (first_run definition readings)
first-there definition [] used h = absurd (true≢false (sym used))
first-there definition (reading ∷ readings) used h =
    let kept = kept-in (gone_in definition) reading readings h in
    chosen (is_used definition reading) _ (first_run definition readings)
    (λ here. mapped (met reading) (run_of_first (runs_in definition reading) (expansions_in definition reading))
    (run-there (runs_in definition reading) (expansions_in definition reading) here kept.0))
    (λ not_here. first-there definition readings (sym (ap (λ b. b || list_any (is_used definition) readings) not_here) ∙ used) kept.1)

-- what all runs keep, the first one keeps
module _ (keeps : Reading → Run → Bool) where
  run-keeps : (reading : Reading) (runs : List Run) (expansions : List Expansion) (run : Run) → run_of_first runs expansions ≡ Some run
      → option_map (λ (one : Expansion). one.name) (find (has_run (filter (λ each. not (keeps reading each)) runs)) expansions) ≡ None
      → keeps reading run ≡ true
  run-keeps reading runs [] run is h = absurd (cc is)
  run-keeps reading runs (expansion ∷ expansions) run is h =
      let failing = filter (λ each. not (keeps reading each)) runs in
      found-not-failing (is_run_of expansion) (keeps reading) runs run is
      (none-first (has_run failing) expansion expansions (unmapped (λ (one : Expansion). one.name) (find (has_run failing) (expansion ∷ expansions)) h))

  abbrev keeps_in : Option Met → Bool
  keeps_in found = option_map_or (λ (one : Met). keeps one.reading one.run) found true

  met-keeps : (reading : Reading) (runs : List Run) (expansions : List Expansion) (one : Met) → option_map (met reading) (run_of_first runs expansions) ≡ Some one
      → option_map (λ (each : Expansion). each.name) (find (has_run (filter (λ each. not (keeps reading each)) runs)) expansions) ≡ None
      → keeps one.reading one.run ≡ true
  met-keeps reading runs expansions one is h = go (run_of_first runs expansions) refl
    where
      go : (found : Option Run) → run_of_first runs expansions ≡ found → keeps one.reading one.run ≡ true
      go None e = absurd (cc (sym (ap (option_map (met reading)) e) ∙ is))
      go (Some run) e = sym (ap keeps_in (sym (ap (option_map (met reading)) e) ∙ is)) ∙ run-keeps reading runs expansions run e h

  first-keeps : (definition : Definition) (readings : List Reading) (one : Met) → first_run definition readings ≡ Some one
      → in_first_unit (λ reading. first_with definition (filter (λ run. not (keeps reading run)) (runs_in definition reading)) reading) readings ≡ None
      → keeps one.reading one.run ≡ true
  first-keeps definition [] one is h = absurd (cc is)
  first-keeps definition (reading ∷ readings) one is h =
      let both = kept-in (λ each. first_with definition (filter (λ run. not (keeps each run)) (runs_in definition each)) each) reading readings h in
      let here = option_map (met reading) (run_of_first (runs_in definition reading) (expansions_in definition reading)) in
      let later = first_run definition readings in
      by_test (is_used definition reading)
      (λ used. met-keeps reading (runs_in definition reading) (expansions_in definition reading) one (sym (ap (λ b. if b then here else later) used) ∙ is) both.0)
      (λ unused. first-keeps definition readings one (sym (ap (λ b. if b then here else later) unused) ∙ is) both.1)

-- ---- its types

same-there : (a b : Option (List ℕ)) → is_same_text a b ≡ true → There a
same-there (Some a) b h = (a, refl)
same-there None (Some b) h = absurd (true≢false (sym h))
same-there None None h = absurd (true≢false (sym h))

module _ (definition : Definition) (first : Met) where
  abbrev Spells : CType → Type 0
  Spells type = IsSpellable first.reading.types (visible_at definition first.reading) type

  abbrev text_of : CType → Option (List ℕ)
  text_of type = spelling first.reading.types (visible_at definition first.reading) type []

  texts : (span : Span) → text_at definition first.reading span ≡ option_and_then text_of (kind_at first.reading span)
  unfolding text_at
  texts span = refl

  -- a type whose text is there can be spelled
  kind-spelled : (span : Span) → There (text_at definition first.reading span) → (type : CType) × (kind_at first.reading span ≡ Some type) × Spells type
  kind-spelled span (text, h) = go (kind_at first.reading span) refl
    where
      go : (found : Option CType) → kind_at first.reading span ≡ found → (type : CType) × (kind_at first.reading span ≡ Some type) × Spells type
      go None e = absurd (cc (sym (ap (option_and_then text_of) e) ∙ sym (texts span) ∙ h))
      go (Some type) e = (
        type,
        e,
        spellable first.reading.types (visible_at definition first.reading) type [] text
            (sym (ap (option_and_then text_of) e) ∙ sym (texts span) ∙ h),
      )

  abbrev AreSpelled : List Parameter → Type 0
  AreSpelled parameters = All (λ (one : Parameter). Spells one.kind) parameters

  abbrev IsSpelled : Option Parameter → Type 0
  IsSpelled None = Unit {0}
  IsSpelled (Some one) = Spells one.kind

  with-spelled : (one : Option Parameter) (others : List Parameter) → IsSpelled one → AreSpelled others → AreSpelled (with_some one others)
  with-spelled None others h all = all
  with-spelled (Some one) others h all = All-cons (λ (each : Parameter). Spells each.kind) one others h all

  -- it has the types of the first run, its own
  abbrev has_its_types : Reading → Run → Bool
  has_its_types reading run = has_types definition first reading run

  module _ (types : has_its_types first.reading first.run ≡ true) where
    parts : (is_same_text (text_at definition first.reading first.run.span) (result_text definition first) ≡ true)
        × (list_all (has_type definition first first.reading) first.run.occurrences ≡ true)
    parts = and_parts _ _ types

    parameter-spelled : (n : ℕ) (name : List ℕ) → IsSpelled (parameter_in first n name)
    parameter-spelled n name = go (find (is_of n) first.run.occurrences) refl
      where
        mk : CType → Parameter
        mk type = record { kind = type; name = name }

        of_kind : (one : Occurrence) → (type : CType) × (kind_at first.reading one.span ≡ Some type) × Spells type → IsSpelled (option_map mk (kind_at first.reading one.span))
        of_kind one (type, e, spells) = subst (λ found. IsSpelled (option_map mk found)) (sym e) spells

        of_one : (found : Option Occurrence) → find (is_of n) first.run.occurrences ≡ found
            → IsSpelled (option_map mk (option_and_then (kind_at first.reading) (option_map (λ (one : Occurrence). one.span) found)))
        of_one None e = tt
        of_one (Some one) e =
            of_kind one (kind-spelled one.span (same-there _ _
            (and_parts _ _ (found-keeps (is_of n) (has_type definition first first.reading) first.run.occurrences one e parts.1)).0))

        go : (found : Option Occurrence) → find (is_of n) first.run.occurrences ≡ found → IsSpelled (parameter_in first n name)
        go found e = of_one (find (is_of n) first.run.occurrences) refl

    parameters-spelled : (n : ℕ) (names : List (List ℕ)) → AreSpelled (parameters_from first n names)
    parameters-spelled n [] = All-nil (λ (one : Parameter). Spells one.kind)
    parameters-spelled n (name ∷ names) = with-spelled (parameter_in first n name) (parameters_from first (suc n) names) (parameter-spelled n name) (parameters-spelled (suc n) names)

    change-there : There (change_at definition first)
    change-there = go (kind-spelled first.run.span (same-there _ _ parts.0))
      where
        with_type : CType → Signature
        with_type type = record { result = type; parameters = parameters_from first 0 (named_parameters definition.parameters) }

        declared : Signature → Option Change
        declared signature = change_with first.reading.types (visible_at definition first.reading) definition signature

        made : (signature : Signature) → signature_at definition first ≡ Some signature → There (declared signature) → There (change_at definition first)
        made signature e (change, is) = (change, ap (option_and_then declared) e ∙ is)

        go : (type : CType) × (kind_at first.reading first.run.span ≡ Some type) × Spells type → There (change_at definition first)
        go (type, e, spells) =
            made (with_type type) (ap (option_map with_type) e)
            (change-stands first.reading.types (visible_at definition first.reading) definition (with_type type) spells (parameters-spelled 0 (named_parameters definition.parameters)))

-- ---- rules 4, 5 and 12

unused : (definition : Definition) (readings : List Reading) → broken_unused definition readings ≡ None → list_any (is_used definition) readings ≡ true
unused definition readings h = go (list_any (is_used definition) readings) refl
  where
    go : (b : Bool) → list_any (is_used definition) readings ≡ b → list_any (is_used definition) readings ≡ true
    go true e = e
    go false e = absurd (cc (sym (ap (λ b. own_place definition (not b)) e) ∙ h))

-- the rules 4, 5 and 12 are kept
pub record Keeps (definition : Definition) (readings : List Reading) : Type 0 where
  pub used : broken_unused definition readings ≡ None
  pub gone : broken_gone definition readings ≡ None
  pub typed : broken_type definition readings ≡ None

keeps-all : (definition : Definition) (readings : List Reading) → broken_first (rules_of definition readings) ≡ None → Keeps definition readings
keeps-all definition readings h =
    let from_4 = (all-kept (rules_of definition readings) h).1.1.1 in
    record { used = from_4.0; gone = from_4.1.0; typed = from_4.1.1.1.1.1.1.1.1.0 }

pub change-when-kept : (definition : Definition) (readings : List Reading) → broken_first (rules_of definition readings) ≡ None → There (change_of definition readings)
change-when-kept definition readings h = go (first-there definition readings (unused definition readings keeps.used) keeps.gone)
  where
    keeps : Keeps definition readings
    keeps = keeps-all definition readings h

    of_met : (first : Met) → first_run definition readings ≡ Some first → has_its_types definition first first.reading first.run ≡ true
    of_met first e =
        first-keeps (has_its_types definition first) definition readings first e
        (sym (ap (option_and_then (λ first. in_first_unit (type_in definition first) readings)) e) ∙ keeps.typed)

    go : There (first_run definition readings) → There (change_of definition readings)
    go (first, e) = with_change (change-there definition first (of_met first e))
      where
        with_change : There (change_at definition first) → There (change_of definition readings)
        with_change (change, is) = (change, ap (option_and_then (change_at definition)) e ∙ is)
