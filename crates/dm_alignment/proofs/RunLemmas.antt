-- A unit that doesn't read a definition has no runs of it.
use Rattle.std.proofs.Common.{◌≡◌, ℕ, Bool, true, false, List, [], ◌∷◌, ◌++◌, map, Option, Some, None, option_map, slice_get, refl, sym, ap, ◌∙◌}
use Rattle.std.specs.Prelude.{if◌then◌else◌}
use Rattle.std.specs.List.{flat_map, list_any}
use Rattle.std.proofs.lemmas.Bool.{false≢true}
use Rattle.dm_token.specs.declared.expansion.Definition.{Definition}
use Rattle.dm_token.specs.declared.expansion.Mark.{Mark}
use Rattle.dm_token.specs.declared.expansion.Mark.TheVariants.{Expansion as expansion, Argument as argument}
use Rattle.dm_token.specs.declared.token.CToken.{CToken}
use Rattle.dm_token.specs.declared.token.Token.{Token}
use Rattle.dm_token.specs.declared.unit.Read.{Read}
use Rattle.dm_token.specs.declared.unit.UnitTokens.{UnitTokens}
use Rattle.dm_reading.specs.declared.reading.Reading.{Reading}
use Rattle.dm_runs.specs.Beginnings.{last_mark, met}
use Rattle.dm_runs.specs.Runs.{expanded, is_at, run_if, run_of}
use Rattle.dm_runs.proofs.ItemLemmas.{any-at}
use Rattle.dm_rules.specs.Uses.{reads, runs_in}

not-true : (test : Bool) → (test ≡ true → ⊥) → test ≡ false
not-true true none = absurd (none refl)
not-true false none = refl

no-items : {A B : Type 0} (f : A → List B) (xs : List A) → ((x : A) → f x ≡ []) → flat_map f xs ≡ []
no-items f [] none = refl
no-items f (x ∷ xs) none = ap (λ front. front ++ flat_map f xs) (none x) ∙ no-items f xs none

module _ (file hash : ℕ) (read : List Read) (none : list_any (λ (one : Read). is_at file hash one.definition) read ≡ false) where
  not-at : (number : ℕ) (one : Read) → slice_get read number ≡ Some one → is_at file hash one.definition ≡ false
  not-at number one there =
      not-true (is_at file hash one.definition) (λ yes. false≢true (sym none ∙ any-at (λ (one : Read). is_at file hash one.definition) read number one there yes))

  definition-of : (number : ℕ) (definition : Definition) (found : Option Read) → slice_get read number ≡ found
      → option_map (λ (one : Read). one.definition) found ≡ Some definition → is_at file hash definition ≡ false
  definition-of number definition None there is = absurd (cc)
  definition-of number definition (Some one) there is =
      let same : one.definition ≡ definition = cc in ap (is_at file hash) (sym same) ∙ not-at number one there

  -- a mark's definition is another one
  other-definition : (mark : Option Mark) (definition : Definition) → expanded read mark ≡ Some definition → is_at file hash definition ≡ false
  other-definition None definition is = absurd (cc)
  other-definition (Some (expansion number instance)) definition is = definition-of number definition (slice_get read number) refl is
  other-definition (Some (argument parameter occurrence)) definition is = absurd (cc)

module _ (pp : UnitTokens) (tokens : List CToken) (file hash : ℕ) where
  no-run : (trail : List Mark) (found : Option Definition) → ((definition : Definition) → found ≡ Some definition → is_at file hash definition ≡ false)
      → run_if pp tokens file hash trail found ≡ []
  no-run trail None other = refl
  no-run trail (Some definition) other = ap (λ test. if test then run_of pp tokens definition trail ∷ [] else []) (other definition refl)

pub no-runs : (definition : Definition) (reading : Reading) → reads definition reading ≡ false → runs_in definition reading ≡ []
no-runs definition reading unread =
    let file = definition.place.file in
    let hash = definition.hash in
    let pp = reading.pp in
    no-items (λ (trail : List Mark). run_if pp reading.tokens file hash trail (expanded pp.read (last_mark trail))) (met (map (λ (token : Token). token.trail) pp.tokens))
    (λ trail. no-run pp reading.tokens file hash trail (expanded pp.read (last_mark trail)) (other-definition file hash pp.read unread (last_mark trail)))
