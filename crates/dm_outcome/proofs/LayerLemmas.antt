-- The layers of a unit's tokens come to one answer.
use Rattle.std.specs.Prelude.{◌≡◌, ℕ, List, map, Option, Some, None, MatchOption, slice_get, Result, Ok, Err}
use Rattle.std.proofs.Common.{sym, ap, ◌∙◌, subst, inl, inr}
use Rattle.dm_token.specs.declared.stop.Limit.{Limit}
use Rattle.dm_token.specs.declared.stop.Refusal.{Refusal}
use Rattle.dm_token.specs.declared.stop.Stop.{Stop}
use Rattle.dm_token.specs.declared.stop.Stop.TheVariants as stop
use Rattle.dm_token.specs.declared.token.CToken.{CToken}
use Rattle.dm_token.specs.declared.token.Token.{Token}
use Rattle.dm_syn.specs.Trees.{External}
use Rattle.dm_syn.specs.Views as view
use Rattle.dm_type.specs.Tables.{Table}
use Rattle.dm_tree.specs.declared.unit.CoreUnit.{CoreUnit}
use Rattle.dm_reading.specs.declared.reading.Layers.{Layers}
use Rattle.dm_reading.specs.Elaborated.{Elaborates}
use Rattle.dm_reading.specs.Layered.{AreTokens, HasLayers}
use Rattle.dm_reading.specs.Syntax.{IsSyntax, IsRefusedAt, Refuses}
use Rattle.dm_outcome.specs.Outcomes.{AreOneOutcome, AreOneLayers}
use Rattle.dm_outcome.proofs.OutcomeLemmas.{one-outcome}

module _ (one-syntax : (tokens : List CToken) (a b : List External) → IsSyntax tokens a → IsSyntax tokens b → a ≡ b)
    (one-place : (tokens : List CToken) (a b : ℕ) → IsRefusedAt tokens a → IsRefusedAt tokens b → a ≡ b)
    (not-refused : (tokens : List CToken) (externals : List External) (at : ℕ) → IsSyntax tokens externals → ¬ IsRefusedAt tokens at) (tokens : List Token) where
  same-tokens : (made others : List CToken) → AreTokens tokens (Ok made) → AreTokens tokens (Ok others) → made ≡ others
  same-tokens made others left right = let same : Ok made ≡ Ok others = sym left ∙ right in cc

  not-both : (made : List CToken) (refusal : Refusal) → AreTokens tokens (Ok made) → AreTokens tokens (Err (stop.Refused refusal)) → ⊥
  not-both made refusal left right = let same : Ok made ≡ Err refusal = sym left ∙ right in cc

  -- two typings of the tokens are typings of one syntax
  typings : (made others : List CToken) (externals more : List External) (one other : Result (CoreUnit × Table) Stop) → AreTokens tokens (Ok made) → AreTokens tokens (Ok others)
      → IsSyntax made externals → IsSyntax others more → Elaborates made externals one → Elaborates others more other → (others ≡ made) × (more ≡ externals) × AreOneOutcome one other
  typings made others externals more one other are again is once types anew =
      let same = same-tokens others made again are in
      let alike : more ≡ externals = one-syntax made more externals (subst (λ these. IsSyntax these more) same once) is in
      (same, alike, one-outcome made externals one other types (subst (λ these. Elaborates made these other) alike (subst (λ these. Elaborates these more other) same anew)))

  not-typed : (made others : List CToken) (externals : List External) (refusal : Refusal) → AreTokens tokens (Ok made) → AreTokens tokens (Ok others) → IsSyntax made externals
      → Refuses others (stop.Refused refusal) → ⊥
  not-typed made others externals refusal are again is refused =
      not-refused made externals refused.0 is (subst (λ these. IsRefusedAt these refused.0) (same-tokens others made again are) refused.1)

  -- ---- what is read is not refused

  read-or-refused : (layers : Layers) (refusal : Refusal) → HasLayers tokens (Ok layers) → HasLayers tokens (Err (stop.Refused refusal)) → ⊥
  read-or-refused layers refusal has (inl none) = not-both layers.tokens refusal has.0 none
  read-or-refused layers refusal has (inr (made, are, inl refused)) = not-typed layers.tokens made (map view.external layers.syntax) refusal has.0 are has.1 refused
  read-or-refused layers refusal has (inr (made, are, inr (syntax, is, types))) =
      (typings layers.tokens made (map view.external layers.syntax) (map view.external syntax) (Ok (layers.core, layers.types)) (Err (stop.Refused refusal)) has.0 are has.1 is has.2 types).2

  no-limit : (limit : Limit) → HasLayers tokens (Err (stop.Limit limit)) → ⊥
  no-limit limit (inl none) = none
  no-limit limit (inr (made, are, inl refused)) = refused
  no-limit limit (inr (made, are, inr (syntax, is, types))) = types

  no-fault : (file : ℕ) → HasLayers tokens (Err (stop.ReadFault file)) → ⊥
  no-fault file (inl none) = none
  no-fault file (inr (made, are, inl refused)) = refused
  no-fault file (inr (made, are, inr (syntax, is, types))) = types

  -- ---- a refusal is one

  same-stops : (one other : Refusal) → ◌≡◌ {A = Result (List CToken) Refusal} (Err one) (Err other) → stop.Refused other ≡ stop.Refused one
  same-stops one other same = cc

  abbrev IsRefusalOf : Refusal → Option CToken → Type 0
  IsRefusalOf refusal found = MatchOption found ⊥ (λ token. refusal ≡ record { number = 16; detail = 0; place = token.place })

  one-token : (found : Option CToken) (one other : Refusal) → IsRefusalOf one found → IsRefusalOf other found → other ≡ one
  one-token None one other first second = absurd first
  one-token (Some token) one other first second = second ∙ sym first

  refused-once : (made : List CToken) (one other : Refusal) → Refuses made (stop.Refused one) → Refuses made (stop.Refused other) → other ≡ one
  refused-once made one other first second =
      let place = one-place made second.0 first.0 second.1 first.1 in
      one-token (slice_get made first.0) one other first.2 (subst (λ at. IsRefusalOf other (slice_get made at)) place second.2)

  one-refusal : (one other : Refusal) → HasLayers tokens (Err (stop.Refused one)) → HasLayers tokens (Err (stop.Refused other)) → stop.Refused other ≡ stop.Refused one
  one-refusal one other (inl first) (inl second) = same-stops one other (sym first ∙ second)
  one-refusal one other (inl first) (inr (made, are, rest)) = absurd (not-both made one are first)
  one-refusal one other (inr (made, are, rest)) (inl second) = absurd (not-both made other are second)
  one-refusal one other (inr (made, are, inl first)) (inr (others, again, inl second)) =
      ap stop.Refused (refused-once made one other first (subst (λ these. Refuses these (stop.Refused other)) (same-tokens others made again are) second))
  one-refusal one other (inr (made, are, inl first)) (inr (others, again, inr (syntax, is, types))) = absurd (not-typed others made (map view.external syntax) one again are is first)
  one-refusal one other (inr (made, are, inr (syntax, is, types))) (inr (others, again, inl second)) = absurd (not-typed made others (map view.external syntax) other are again is second)
  one-refusal one other (inr (made, are, inr (syntax, is, types))) (inr (others, again, inr (more, once, anew))) =
      (typings made others (map view.external syntax) (map view.external more) (Err (stop.Refused one)) (Err (stop.Refused other)) are again is once types anew).2

  -- ---- the answers

  pub one-layers : (one other : Result Layers Stop) → HasLayers tokens one → HasLayers tokens other → AreOneLayers one other
  one-layers (Ok one) (Ok other) first second =
      typings one.tokens other.tokens (map view.external one.syntax) (map view.external other.syntax) (Ok (one.core, one.types)) (Ok (other.core, other.types))
      first.0 second.0 first.1 second.1 first.2 second.2
  one-layers (Ok one) (Err stop.Memory) first second = tt
  one-layers (Ok one) (Err (stop.Refused refusal)) first second = read-or-refused one refusal first second
  one-layers (Ok one) (Err (stop.Limit limit)) first second = no-limit limit second
  one-layers (Ok one) (Err (stop.ReadFault file)) first second = no-fault file second
  one-layers (Err stop.Memory) other first second = tt
  one-layers (Err (stop.Refused refusal)) (Ok other) first second = read-or-refused other refusal second first
  one-layers (Err (stop.Refused refusal)) (Err stop.Memory) first second = tt
  one-layers (Err (stop.Refused refusal)) (Err (stop.Refused again)) first second = one-refusal refusal again first second
  one-layers (Err (stop.Refused refusal)) (Err (stop.Limit limit)) first second = absurd (no-limit limit second)
  one-layers (Err (stop.Refused refusal)) (Err (stop.ReadFault file)) first second = absurd (no-fault file second)
  one-layers (Err (stop.Limit limit)) other first second = absurd (no-limit limit first)
  one-layers (Err (stop.ReadFault file)) other first second = absurd (no-fault file first)
