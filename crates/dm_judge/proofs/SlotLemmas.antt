-- What is looked up of units: it suffices for a definition where it is looked up of each unit that expands it.
use Rattle.std.proofs.Common.{◌≡◌, ℕ, zero, suc, ◌<◌, ◌≤◌, true, false, cond, List, [], ◌∷◌, ◌++◌, length, map, get_or, set, replicate, Option, Some, None, Result, Ok, Err, is_some, refl, sym, ap, ◌∙◌, subst, arith}
use Rattle.std.specs.Prelude.{find, filter, not, option_map, option_and_then, IfNone, IfOk, IfSome}
use Rattle.std.proofs.lemmas.Bool.{false≢true}
use Rattle.std.proofs.lemmas.List.Elements.{All-head, All-tail}
use Rattle.dm_token.specs.declared.expansion.Definition.{Definition}
use Rattle.dm_token.specs.declared.expansion.Expansion.{Expansion}
use Rattle.dm_token.specs.declared.place.Place.{Place}
use Rattle.dm_tree.specs.TypeNumbers.{IsTypedUnit}
use Rattle.dm_meaning.specs.Replaced.{Zipped}
use Rattle.dm_names.specs.declared.names.Names.{Names}
use Rattle.dm_reading.specs.declared.reading.Reading.{Reading}
use Rattle.dm_runs.specs.declared.run.Run.{Run}
use Rattle.dm_rules.specs.Rules.{is_empty, is_used}
use Rattle.dm_rules.specs.Uses.{expansions_in, first_with, has_run, in_first_unit, or_else, runs_in}
use Rattle.dm_meanings.specs.Captures.{broken_capture, capture_in, keeps_meanings}
use Rattle.dm_meanings.specs.declared.meanings.Meanings.{Meanings}
use Rattle.dm_meanings.specs.First.{reading_of, readings_of}
use Rattle.dm_meanings.specs.Named.{AreNamesOf}
use Rattle.dm_meanings.specs.Types.{Met, broken_type, first_met, first_run, has_types, type_in}
use Rattle.dm_judge.specs.declared.notes.Notes.{Notes}
use Rattle.dm_judge.specs.declared.rule.RunRule.{RunRule}
use Rattle.dm_judge.specs.Proposals.{change_at, change_of}
use Rattle.dm_judge.specs.Rules as rules
use Rattle.dm_judge.specs.Units.{AreReadyTo, AreTyped, IsMeant, IsNoted, IsReady}

-- ---- units that don't expand a definition

nothing-there : {A : Type 0} (xs : List A) → not (is_empty xs) ≡ false → xs ≡ []
nothing-there [] none = refl
nothing-there (x ∷ xs) none = absurd (false≢true (sym none))

-- such a unit breaks none of the rules that look at expansions
pub unused-first : (definition : Definition) (runs : List Run) (reading : Reading) → is_used definition reading ≡ false → first_with definition runs reading ≡ None
unused-first definition runs reading unused =
    ap (λ (expansions : List Expansion). option_map (λ (one : Expansion). one.name) (find (has_run runs) expansions)) (nothing-there (expansions_in definition reading) unused)

module _ (definition : Definition) where
  abbrev AreReadyIn : List Reading → List (Option Meanings) → Type 0
  AreReadyIn readings units = Zipped (IsReady definition) readings units

  -- so it suffices to ask the others
  pub same-place : (place : Reading → Option Place) → ((reading : Reading) → is_used definition reading ≡ false → place reading ≡ None)
      → (readings : List Reading) (units : List (Option Meanings)) → AreReadyIn readings units → in_first_unit place (readings_of units) ≡ in_first_unit place readings
  same-place place none [] [] ready = refl
  same-place place none [] (one ∷ units) ready = absurd ready
  same-place place none (reading ∷ readings) [] ready = absurd ready
  same-place place none (reading ∷ readings) (None ∷ units) ready =
      same-place place none readings units ready.1 ∙ sym (ap (λ first. or_else first (in_first_unit place readings)) (none reading ready.0))
  same-place place none (reading ∷ readings) (Some one ∷ units) ready =
      ap (λ (first : Reading). or_else (place first) (in_first_unit place (readings_of units))) ready.0 ∙ ap (or_else (place reading)) (same-place place none readings units ready.1)

  pub same-run : (readings : List Reading) (units : List (Option Meanings)) → AreReadyIn readings units → first_run definition (readings_of units) ≡ first_run definition readings
  same-run [] [] ready = refl
  same-run [] (one ∷ units) ready = absurd ready
  same-run (reading ∷ readings) [] ready = absurd ready
  same-run (reading ∷ readings) (None ∷ units) ready =
      same-run readings units ready.1 ∙ sym (ap (λ used. cond used (first_met definition reading) (first_run definition readings)) ready.0)
  same-run (reading ∷ readings) (Some one ∷ units) ready =
      ap (λ (first : Reading). cond (is_used definition first) (first_met definition first) (first_run definition (readings_of units))) ready.0
      ∙ ap (cond (is_used definition reading) (first_met definition reading)) (same-run readings units ready.1)

  module _ (readings : List Reading) (units : List (Option Meanings)) (ready : AreReadyIn readings units) where
    pub same-on-runs : (rule : RunRule) → rules.broken_on_runs rule definition (readings_of units) ≡ rules.broken_on_runs rule definition readings
    same-on-runs rule =
        same-place (rules.failing_in rule definition)
        (λ reading unused. unused-first definition (filter (λ run. not (rules.keeps rule definition reading run)) (runs_in definition reading)) reading unused) readings units ready

    pub same-capture : broken_capture definition (readings_of units) ≡ broken_capture definition readings
    same-capture =
        same-place (capture_in definition)
        (λ reading unused. unused-first definition (filter (λ run. not (keeps_meanings definition reading run)) (runs_in definition reading)) reading unused) readings units ready

    type-of : (first : Met) → in_first_unit (type_in definition first) (readings_of units) ≡ in_first_unit (type_in definition first) readings
    type-of first =
        same-place (type_in definition first)
        (λ reading unused. unused-first definition (filter (λ run. not (has_types definition first reading run)) (runs_in definition reading)) reading unused) readings units ready

    types-of : (found : Option Met) → option_and_then (λ first. in_first_unit (type_in definition first) (readings_of units)) found
        ≡ option_and_then (λ first. in_first_unit (type_in definition first) readings) found
    types-of None = refl
    types-of (Some first) = type-of first

    pub same-type : broken_type definition (readings_of units) ≡ broken_type definition readings
    same-type =
        types-of (first_run definition (readings_of units)) ∙ ap (option_and_then (λ first. in_first_unit (type_in definition first) readings)) (same-run readings units ready)

    pub same-change : change_of definition (readings_of units) ≡ change_of definition readings
    same-change = ap (option_and_then (change_at definition)) (same-run readings units ready)

  -- ---- one unit after another

  pub none-ready : (readings : List Reading) (units : List (Option Meanings)) → Zipped IsMeant readings units → AreReadyTo definition 0 readings units
  unfolding AreReadyTo
  none-ready readings units meant = meant

  pub all-ready : (n : ℕ) (readings : List Reading) (units : List (Option Meanings)) → length readings ≤ n → AreReadyTo definition n readings units → AreReadyIn readings units
  unfolding AreReadyTo
  all-ready zero [] [] whole ready = tt
  all-ready zero [] (one ∷ units) whole ready = absurd ready
  all-ready zero (reading ∷ readings) units whole ready = absurd (omega (arith, whole))
  all-ready (suc n) [] [] whole ready = tt
  all-ready (suc n) [] (one ∷ units) whole ready = absurd ready
  all-ready (suc n) (reading ∷ readings) [] whole ready = absurd ready
  all-ready (suc n) (reading ∷ readings) (one ∷ units) whole ready = (ready.0, all-ready n readings units (omega (arith, whole)) ready.1)

  ready-one : (reading : Reading) (one : Option Meanings) → is_used definition reading ≡ false → IsMeant reading one → IsReady definition reading one
  ready-one reading None unused meant = unused
  ready-one reading (Some one) unused meant = meant

  meant-one : (reading : Reading) (one : Option Meanings) → is_some one ≡ true → IsMeant reading one → IsReady definition reading one
  meant-one reading None some meant = absurd (false≢true some)
  meant-one reading (Some one) some meant = meant

  -- the next unit doesn't expand it
  pub ready-unused : (n : ℕ) (readings : List Reading) (units : List (Option Meanings)) (d : Reading) → AreReadyTo definition n readings units → n < length readings
      → is_used definition (get_or readings n d) ≡ false → AreReadyTo definition (suc n) readings units
  unfolding AreReadyTo
  ready-unused n [] units d ready inside unused = absurd (omega (arith, inside))
  ready-unused zero (reading ∷ readings) [] d ready inside unused = absurd ready
  ready-unused zero (reading ∷ readings) (one ∷ units) d ready inside unused = (ready-one reading one unused ready.0, ready.1)
  ready-unused (suc n) (reading ∷ readings) [] d ready inside unused = absurd ready
  ready-unused (suc n) (reading ∷ readings) (one ∷ units) d ready inside unused = (ready.0, ready-unused n readings units d ready.1 (omega (arith, inside)) unused)

  -- it is looked up
  pub ready-before : (n : ℕ) (readings : List Reading) (units : List (Option Meanings)) (d : Option Meanings) → AreReadyTo definition n readings units → n < length readings
      → is_some (get_or units n d) ≡ true → AreReadyTo definition (suc n) readings units
  unfolding AreReadyTo
  ready-before n [] units d ready inside some = absurd (omega (arith, inside))
  ready-before zero (reading ∷ readings) [] d ready inside some = absurd ready
  ready-before zero (reading ∷ readings) (one ∷ units) d ready inside some = (meant-one reading one some ready.0, ready.1)
  ready-before (suc n) (reading ∷ readings) [] d ready inside some = absurd ready
  ready-before (suc n) (reading ∷ readings) (one ∷ units) d ready inside some = (ready.0, ready-before n readings units d ready.1 (omega (arith, inside)) some)

  -- it is looked up now
  pub ready-now : (n : ℕ) (readings : List Reading) (units : List (Option Meanings)) (d : Reading) (one : Meanings) → AreReadyTo definition n readings units → n < length readings
      → reading_of one ≡ get_or readings n d → AreReadyTo definition (suc n) readings (set units n (Some one))
  unfolding AreReadyTo
  ready-now n [] units d one ready inside is = absurd (omega (arith, inside))
  ready-now zero (reading ∷ readings) [] d one ready inside is = absurd ready
  ready-now zero (reading ∷ readings) (other ∷ units) d one ready inside is = (is, ready.1)
  ready-now (suc n) (reading ∷ readings) [] d one ready inside is = absurd ready
  ready-now (suc n) (reading ∷ readings) (other ∷ units) d one ready inside is = (ready.0, ready-now n readings units d one ready.1 (omega (arith, inside)) is)

-- ---- what is looked up is that of the readings

pub none-meant : (readings : List Reading) → Zipped IsMeant readings (replicate (length readings) None)
none-meant [] = tt
none-meant (reading ∷ readings) = (tt, none-meant readings)

pub none-noted : (n : ℕ) → Zipped IsNoted (replicate n None) (replicate n None)
none-noted zero = tt
none-noted (suc n) = (tt, none-noted n)

pub meant-now : (n : ℕ) (readings : List Reading) (units : List (Option Meanings)) (d : Reading) (one : Meanings) → Zipped IsMeant readings units → n < length readings
    → reading_of one ≡ get_or readings n d → Zipped IsMeant readings (set units n (Some one))
meant-now n [] units d one meant inside is = absurd (omega (arith, inside))
meant-now zero (reading ∷ readings) [] d one meant inside is = absurd meant
meant-now zero (reading ∷ readings) (other ∷ units) d one meant inside is = (is, meant.1)
meant-now (suc n) (reading ∷ readings) [] d one meant inside is = absurd meant
meant-now (suc n) (reading ∷ readings) (other ∷ units) d one meant inside is = (meant.0, meant-now n readings units d one meant.1 (omega (arith, inside)) is)

pub noted-now : (n : ℕ) (units : List (Option Meanings)) (notes : List (Option Notes)) (one : Meanings) (its : Notes) → Zipped IsNoted units notes
    → its.quiet ≡ (reading_of one).core → Zipped IsNoted (set units n (Some one)) (set notes n (Some its))
noted-now n [] [] one its noted is = tt
noted-now n [] (other ∷ notes) one its noted is = absurd noted
noted-now n (other ∷ units) [] one its noted is = absurd noted
noted-now zero (other ∷ units) (others ∷ notes) one its noted is = (is, noted.1)
noted-now (suc n) (other ∷ units) (others ∷ notes) one its noted is = (noted.0, noted-now n units notes one its noted.1 is)

-- ---- one of them

pub zipped-count : {A B : Type 0} (R : A → B → Type 0) (xs : List A) (ys : List B) → Zipped R xs ys → length ys ≡ length xs
zipped-count R [] [] are = refl
zipped-count R [] (y ∷ ys) are = absurd are
zipped-count R (x ∷ xs) [] are = absurd are
zipped-count R (x ∷ xs) (y ∷ ys) are = ap suc (zipped-count R xs ys are.1)

pub zipped-push : {A B : Type 0} (R : A → B → Type 0) (xs : List A) (ys : List B) (x : A) (y : B) → Zipped R xs ys → R x y → Zipped R (xs ++ x ∷ []) (ys ++ y ∷ [])
zipped-push R [] [] x y are one = (one, tt)
zipped-push R [] (b ∷ ys) x y are one = absurd are
zipped-push R (a ∷ xs) [] x y are one = absurd are
zipped-push R (a ∷ xs) (b ∷ ys) x y are one = (are.0, zipped-push R xs ys x y are.1 one)

pub named-at : {A : Type 0} (f : A → Reading) (n : ℕ) (xs : List A) (names : List Names) (d : A) (e : Names) → Zipped AreNamesOf (map f xs) names → n < length xs
    → AreNamesOf (f (get_or xs n d)) (get_or names n e)
named-at f n [] names d e named inside = absurd (omega (arith, inside))
named-at f n (x ∷ xs) [] d e named inside = absurd named
named-at f zero (x ∷ xs) (one ∷ names) d e named inside = named.0
named-at f (suc n) (x ∷ xs) (one ∷ names) d e named inside = named-at f n xs names d e named.1 (omega (arith, inside))

pub noted-at : (n : ℕ) (units : List (Option Meanings)) (notes : List (Option Notes)) (d : Option Meanings) (e : Option Notes) → Zipped IsNoted units notes → n < length units
    → IsNoted (get_or units n d) (get_or notes n e)
noted-at n [] notes d e noted inside = absurd (omega (arith, inside))
noted-at n (one ∷ units) [] d e noted inside = absurd noted
noted-at zero (one ∷ units) (its ∷ notes) d e noted inside = noted.0
noted-at (suc n) (one ∷ units) (its ∷ notes) d e noted inside = noted-at n units notes d e noted.1 (omega (arith, inside))

abbrev IsTyped : Reading → Type 0
IsTyped each = IsTypedUnit each.types each.core

typed-one : (reading : Reading) (one : Option Meanings) → IsTyped reading → IsMeant reading one → IfSome one (λ (each : Meanings). IsTyped (reading_of each))
typed-one reading None typed meant = tt
typed-one reading (Some one) typed meant = subst IsTyped (sym meant) typed

pub typed-at : (n : ℕ) (readings : List Reading) (units : List (Option Meanings)) (d : Option Meanings) → AreTyped readings → Zipped IsMeant readings units → n < length units
    → IfSome (get_or units n d) (λ (each : Meanings). IsTyped (reading_of each))
typed-at n readings [] d typed meant inside = absurd (omega (arith, inside))
typed-at n [] (one ∷ units) d typed meant inside = absurd meant
typed-at zero (reading ∷ readings) (one ∷ units) d typed meant inside = typed-one reading one (All-head IsTyped reading readings typed) meant.0
typed-at (suc n) (reading ∷ readings) (one ∷ units) d typed meant inside =
    typed-at n readings units d (All-tail IsTyped reading readings typed) meant.1 (omega (arith, inside))

-- what holds in any case
pub if-none : {A E : Type 0} (P : Type 0) (result : Result (Option A) E) → P → IfOk result (λ found. IfNone found P)
if-none P (Ok None) holds = holds
if-none P (Ok (Some found)) holds = tt
if-none P (Err e) holds = tt
