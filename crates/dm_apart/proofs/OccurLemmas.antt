-- The parameters that a replacement list names occur in runs.
--     runs_have      in each run of the macro
use Rattle.std.specs.Prelude.{◌≡◌, refl, ℕ, zero, suc, Bool, true, false, ◌||◌, ◌==◌, IfSome, List, [], ◌∷◌, ◌++◌, map, Option, Some, None, option_map, slice_get, if◌then◌else◌}
use Rattle.std.specs.List.{AllByRecursion, list_any, flat_map}
use Rattle.std.proofs.Common.{sym, subst}
use Rattle.std.proofs.lemmas.Bool.{false≢true}
use Rattle.dm_token.specs.declared.expansion.Definition.{Definition}
use Rattle.dm_token.specs.declared.expansion.Mark.{Mark}
use Rattle.dm_token.specs.declared.expansion.Mark.TheVariants.{Expansion, Argument}
use Rattle.dm_token.specs.declared.token.CToken.{CToken}
use Rattle.dm_token.specs.declared.token.PpToken.{PpToken}
use Rattle.dm_token.specs.declared.token.Token.{Token}
use Rattle.dm_token.specs.declared.unit.Read.{Read}
use Rattle.dm_token.specs.declared.unit.UnitTokens.{UnitTokens}
use Rattle.dm_macro.specs.Bodies as bodies
use Rattle.dm_macro.specs.Bodies.{parameter_of, parameters_of}
use Rattle.dm_runs.specs.declared.run.Occurrence.{Occurrence}
use Rattle.dm_runs.specs.Beginnings.{met, last_mark}
use Rattle.dm_runs.specs.Names.{named_at, named_behind, named_in}
use Rattle.dm_runs.specs.Runs.{expanded, first_part, is_at, occurrence_in, run_if, run_of, runs_of}
use Rattle.dm_runs.specs.Spans.{span_of, tokens_under}
use Rattle.dm_apart.specs.Apart.{HasOccurrence, IsNamed, IsReadAs}

-- ---- names

abbrev AnyOf : {A : Type 0} → List A → (A → Bool) → Type 0
AnyOf items test = list_any test items ≡ true

names_occur : (names : List (List ℕ)) (n : ℕ) (before tokens : List PpToken) → list_any (λ (token : PpToken). bodies.is_at n (parameter_of names token)) tokens ≡ true
    → AnyOf (named_behind names before tokens) (λ one. one.parameter == n)
unfolding bodies.is_at
names_occur names n before [] e = absurd (false≢true e)
names_occur names n before (token ∷ tokens) e = by_name (parameter_of names token) e (names_occur names n (before ++ token ∷ []) tokens)
  where
    by_name : (o : Option ℕ) → (bodies.is_at n o || list_any (λ (each : PpToken). bodies.is_at n (parameter_of names each)) tokens) ≡ true
        → (list_any (λ (each : PpToken). bodies.is_at n (parameter_of names each)) tokens ≡ true → AnyOf (named_behind names (before ++ token ∷ []) tokens) (λ one. one.parameter == n))
        → AnyOf (named_at names before o ++ named_behind names (before ++ token ∷ []) tokens) (λ one. one.parameter == n)
    by_name None k rest = rest k
    by_name (Some p) k rest = by_test (p == n) k
      where
        by_test : (b : Bool) → (b || list_any (λ (each : PpToken). bodies.is_at n (parameter_of names each)) tokens) ≡ true
            → (b || list_any (λ one. one.parameter == n) (named_behind names (before ++ token ∷ []) tokens)) ≡ true
        by_test true h = refl
        by_test false h = rest h

-- ---- runs

any_mapped : {A B : Type 0} (test : B → Bool) (f : A → B) (items : List A) → list_any (λ x. test (f x)) items ≡ true → list_any test (map f items) ≡ true
any_mapped test f [] e = e
any_mapped test f (x ∷ items) e = by_test (test (f x)) e (any_mapped test f items)
  where
    by_test : (b : Bool) → (b || list_any (λ y. test (f y)) items) ≡ true → (list_any (λ y. test (f y)) items ≡ true → list_any test (map f items) ≡ true) → (b || list_any test (map f items)) ≡ true
    by_test true k rest = refl
    by_test false k rest = rest k

module _ (pp : UnitTokens) (tokens : List CToken) (file hash : ℕ) (definition : Definition) (n : ℕ) (read : IsReadAs file hash definition pp.read) (named : IsNamed definition n) where
  one_has : (other : Definition) (prefix : List Mark) → other ≡ definition → HasOccurrence n (run_of pp tokens other prefix)
  one_has other prefix same =
      let span = span_of (first_part pp.tokens prefix) (tokens_under prefix tokens) in
      any_mapped (λ (one : Occurrence). one.parameter == n) (occurrence_in pp.expansions tokens other prefix span) (named_in other)
      (names_occur (parameters_of other) n [] other.body (subst (λ (d : Definition). IsNamed d n) (sym same) named))

  -- the definition whose expansion a mark is was read
  expanded_is : (mark : Option Mark) → IfSome (expanded pp.read mark) (λ (other : Definition). is_at file hash other ≡ true → other ≡ definition)
  expanded_is None = tt
  expanded_is (Some (Expansion number instance)) = by_read pp.read number read
    where
      by_read : (reads : List Read) (k : ℕ) → IsReadAs file hash definition reads
          → IfSome (option_map (λ (one : Read). one.definition) (slice_get reads k)) (λ (other : Definition). is_at file hash other ≡ true → other ≡ definition)
      by_read [] k h = tt
      by_read (one ∷ reads) zero h = h.0
      by_read (one ∷ reads) (suc k) h = by_read reads k h.1
  expanded_is (Some (Argument parameter occurrence)) = tt

  if_has : (prefix : List Mark) (o : Option Definition) → IfSome o (λ (other : Definition). is_at file hash other ≡ true → other ≡ definition)
      → AllByRecursion (HasOccurrence n) (run_if pp tokens file hash prefix o)
  if_has prefix None h = tt
  if_has prefix (Some other) h = by_place (is_at file hash other) refl
    where
      by_place : (b : Bool) → is_at file hash other ≡ b → AllByRecursion (HasOccurrence n) (if b then run_of pp tokens other prefix ∷ [] else [])
      by_place true is = (one_has other prefix (h is), tt)
      by_place false is = tt

all_append : {A : Type 0} (P : A → Type 0) (front back : List A) → AllByRecursion P front → AllByRecursion P back → AllByRecursion P (front ++ back)
all_append P [] back h k = k
all_append P (x ∷ front) back h k = (h.0, all_append P front back h.1 k)

all_flat : {A B : Type 0} (Q : B → Type 0) (g : A → List B) → ((x : A) → AllByRecursion Q (g x)) → (xs : List A) → AllByRecursion Q (flat_map g xs)
all_flat Q g each [] = tt
all_flat Q g each (x ∷ xs) = all_append Q (g x) (flat_map g xs) (each x) (all_flat Q g each xs)

pub runs_have : (pp : UnitTokens) (tokens : List CToken) (file hash : ℕ) (definition : Definition) (n : ℕ) → IsReadAs file hash definition pp.read → IsNamed definition n
    → AllByRecursion (HasOccurrence n) (runs_of pp tokens file hash)
runs_have pp tokens file hash definition n read named =
    all_flat (HasOccurrence n) (λ trail. run_if pp tokens file hash trail (expanded pp.read (last_mark trail)))
    (λ trail. if_has pp tokens file hash definition n read named trail (expanded pp.read (last_mark trail)) (expanded_is pp tokens file hash definition n read named (last_mark trail)))
    (met (map (λ (token : Token). token.trail) pp.tokens))
