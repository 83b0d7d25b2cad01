-- Each run is of one of the expansions of its definition.
--     runs_of_expansions      where the expansions that tokens came through are listed
use Rattle.std.specs.Prelude.{◌≡◌, refl, ℕ, Bool, true, false, ◌||◌, ◌==◌, IfSome, List, [], ◌∷◌, ◌++◌, fold, map, filter, Option, Some, None, option_map, slice_get, if◌then◌else◌}
use Rattle.std.specs.List.{AllByRecursion, list_any, flat_map}
use Rattle.std.specs.Option.{option_map_or}
use Rattle.std.proofs.Common.{ap, sym, ◌∙◌, subst}
use Rattle.std.proofs.lemmas.Bool.{and_parts, eqb-true, eq-eqb, false≢true}
use Rattle.dm_token.specs.Equal.{equal}
use Rattle.dm_token.specs.declared.expansion.Definition.{Definition}
use Rattle.dm_token.specs.declared.expansion.Expansion as made_of
use Rattle.dm_token.specs.declared.expansion.Mark.{Mark}
use Rattle.dm_token.specs.declared.expansion.Mark.TheVariants.{Expansion, Argument}
use Rattle.dm_token.specs.declared.token.Token.{Token}
use Rattle.dm_token.specs.declared.unit.Read.{Read}
use Rattle.dm_runs.specs.declared.run.Run.{Run}
use Rattle.dm_runs.specs.Beginnings.{beginnings_of, once_more, met, last_of, last_mark}
use Rattle.dm_runs.specs.Runs.{is_at, expanded, instance_of, run_of, run_if}
use Rattle.dm_reading.specs.declared.reading.Reading.{Reading}
use Rattle.dm_rules.specs.Uses.{is_expansion, expansions_in, is_run_of}
use Rattle.dm_local.specs.Marks.{is_expansion_with, IsListed, AreListed}
use Rattle.dm_refined.specs.Programs.{AreOfExpansions}

-- ---- lists

all_append : {A : Type 0} (P : A → Type 0) (front back : List A) → AllByRecursion P front → AllByRecursion P back → AllByRecursion P (front ++ back)
all_append P [] back h k = k
all_append P (x ∷ front) back h k = (h.0, all_append P front back h.1 k)

all_flat : {A B : Type 0} (P : A → Type 0) (Q : B → Type 0) (g : A → List B) → ((x : A) → P x → AllByRecursion Q (g x)) → (xs : List A) → AllByRecursion P xs → AllByRecursion Q (flat_map g xs)
all_flat P Q g each [] h = tt
all_flat P Q g each (x ∷ xs) h = all_append Q (g x) (flat_map g xs) (each x h.0) (all_flat P Q g each xs h.1)

all_map : {A B : Type 0} (P : A → Type 0) (Q : B → Type 0) (g : A → B) → ((x : A) → P x → Q (g x)) → (xs : List A) → AllByRecursion P xs → AllByRecursion Q (map g xs)
all_map P Q g each [] h = tt
all_map P Q g each (x ∷ xs) h = (each x h.0, all_map P Q g each xs h.1)

-- ---- beginnings

module _ (P : Mark → Type 0) where
  abbrev Passes : List Mark → Type 0
  Passes trail = AllByRecursion P trail

  beginnings_pass : (trail : List Mark) → Passes trail → AllByRecursion Passes (beginnings_of trail)
  beginnings_pass [] h = tt
  beginnings_pass (mark ∷ marks) h =
      ((h.0, tt), all_map Passes Passes (λ beginning. mark ∷ beginning) (λ beginning k. (h.0, k)) (beginnings_of marks) (beginnings_pass marks h.1))

  once_more_passes : (found : List (List Mark)) (beginning : List Mark) → AllByRecursion Passes found → Passes beginning → AllByRecursion Passes (once_more found beginning)
  once_more_passes found beginning h k = by (list_any (equal beginning) found)
    where
      by : (b : Bool) → AllByRecursion Passes (if b then found else found ++ beginning ∷ [])
      by true = h
      by false = all_append Passes found (beginning ∷ []) h (k, tt)

  fold_passes : (found beginnings : List (List Mark)) → AllByRecursion Passes found → AllByRecursion Passes beginnings → AllByRecursion Passes (fold once_more found beginnings)
  fold_passes found [] h k = h
  fold_passes found (beginning ∷ beginnings) h k = fold_passes (once_more found beginning) beginnings (once_more_passes found beginning h k.0) k.1

  met_pass : (trails : List (List Mark)) → AllByRecursion Passes trails → AllByRecursion Passes (met trails)
  met_pass trails h = fold_passes ([] ∷ []) (flat_map beginnings_of trails) (tt, tt) (all_flat Passes Passes beginnings_of beginnings_pass trails h)

  last_passes : (before : Option Mark) (trail : List Mark) → IfSome before P → Passes trail → IfSome (last_of before trail) P
  last_passes before [] h k = h
  last_passes before (mark ∷ marks) h k = last_passes (Some mark) marks k.0 k.1

-- ---- expansions

filtered : {A : Type 0} (test keep found : A → Bool) → ((x : A) → test x ≡ true → (keep x ≡ true) × (found x ≡ true)) → (xs : List A) → list_any test xs ≡ true → list_any found (filter keep xs) ≡ true
filtered test keep found both [] e = e
filtered test keep found both (x ∷ xs) e = by_test (test x) refl e (filtered test keep found both xs)
  where
    this_one : (b : Bool) → b ≡ true → found x ≡ true → list_any found (if b then x ∷ filter keep xs else filter keep xs) ≡ true
    this_one true k f = ap (λ (c : Bool). c || list_any found (filter keep xs)) f
    this_one false k f = absurd (false≢true k)

    one_of : (b c : Bool) → c ≡ true → (b || c) ≡ true
    one_of true c k = refl
    one_of false c k = k

    others : (b : Bool) → list_any found (filter keep xs) ≡ true → list_any found (if b then x ∷ filter keep xs else filter keep xs) ≡ true
    others true k = one_of (found x) (list_any found (filter keep xs)) k
    others false k = k

    by_test : (b : Bool) → test x ≡ b → (b || list_any test xs) ≡ true → (list_any test xs ≡ true → list_any found (filter keep xs) ≡ true)
        → list_any found (if keep x then x ∷ filter keep xs else filter keep xs) ≡ true
    by_test true is k rest = this_one (keep x) (both x is).0 (both x is).1
    by_test false is k rest = others (keep x) (rest k)

module _ (definition : Definition) (reading : Reading) where
  abbrev IsOf : Run → Type 0
  IsOf run = list_any (λ (expansion : made_of.Expansion). is_run_of expansion run) (expansions_in definition reading) ≡ true

  -- the expansion that a mark is of
  found_by : (number instance : ℕ) (one : Read) → slice_get reading.pp.read number ≡ Some one → is_at definition.place.file definition.hash one.definition ≡ true
      → list_any (is_expansion_with number instance) reading.pp.expansions ≡ true → list_any (λ (expansion : made_of.Expansion). instance == expansion.instance) (expansions_in definition reading) ≡ true
  found_by number instance one found at h =
      filtered (is_expansion_with number instance) (is_expansion definition reading.pp.read) (λ (expansion : made_of.Expansion). instance == expansion.instance)
      (λ expansion e.
      let parts = and_parts (expansion.definition == number) (expansion.instance == instance) e in (
        ap (λ (n : ℕ). option_map_or (λ (each : Read). is_at definition.place.file definition.hash each.definition) (slice_get reading.pp.read n) false) (eqb-true expansion.definition number parts.0)
            ∙ (ap (λ (o : Option Read). option_map_or (λ (each : Read). is_at definition.place.file definition.hash each.definition) o false) found ∙ at),
        eq-eqb instance expansion.instance (sym (eqb-true expansion.instance instance parts.1)),
      )) reading.pp.expansions h

  run_with : (trail : List Mark) → IfSome (last_mark trail) (IsListed reading.pp.expansions)
      → AllByRecursion IsOf (run_if reading.pp reading.tokens definition.place.file definition.hash trail (expanded reading.pp.read (last_mark trail)))
  run_with trail h = by_mark (last_mark trail) refl h
    where
      by_mark : (o : Option Mark) → last_mark trail ≡ o → IfSome o (IsListed reading.pp.expansions)
          → AllByRecursion IsOf (run_if reading.pp reading.tokens definition.place.file definition.hash trail (expanded reading.pp.read o))
      by_mark None e listed = tt
      by_mark (Some (Argument parameter occurrence)) e listed = tt
      by_mark (Some (Expansion number instance)) e listed = by_read (slice_get reading.pp.read number) refl
        where
          by_place : (one : Read) → slice_get reading.pp.read number ≡ Some one → (b : Bool) → is_at definition.place.file definition.hash one.definition ≡ b
              → AllByRecursion IsOf (if b then run_of reading.pp reading.tokens one.definition trail ∷ [] else [])
          by_place one found false at = tt
          by_place one found true at = (
            subst (λ (m : Option Mark). list_any (λ (expansion : made_of.Expansion). instance_of m == expansion.instance) (expansions_in definition reading) ≡ true) (sym e)
                (found_by number instance one found at listed),
            tt,
          )

          by_read : (o : Option Read) → slice_get reading.pp.read number ≡ o
              → AllByRecursion IsOf (run_if reading.pp reading.tokens definition.place.file definition.hash trail (option_map (λ (one : Read). one.definition) o))
          by_read None found = tt
          by_read (Some one) found = by_place one found (is_at definition.place.file definition.hash one.definition) refl

  pub runs_of_expansions : AreListed reading.pp.expansions reading.pp.tokens → AreOfExpansions definition reading
  runs_of_expansions h =
      let P = IsListed reading.pp.expansions in
      let trails = map (λ (token : Token). token.trail) reading.pp.tokens in
      all_flat (λ (trail : List Mark). AllByRecursion P trail) IsOf
      (λ (trail : List Mark). run_if reading.pp reading.tokens definition.place.file definition.hash trail (expanded reading.pp.read (last_mark trail)))
      (λ trail passes. run_with trail (last_passes P None trail tt passes)) (met trails)
      (met_pass P trails (all_map (λ (token : Token). AllByRecursion P token.trail) (λ (trail : List Mark). AllByRecursion P trail) (λ (token : Token). token.trail) (λ token k. k) reading.pp.tokens h))
