-- The chains of events that are done, with one more in front of them.
use Rattle.std.proofs.Common.{◌≡◌, ℕ, ◌+◌, Bool, List, [], ◌∷◌, ◌++◌, length, reverse, Option, Some, None, refl, sym, ap, ap₂, subst, ◌∙◌, append_assoc}
use Rattle.std.specs.Prelude.{bytes_eq}
use Rattle.std.specs.Option.{option_map_or}
use Rattle.std.specs.FinMap as finite
use Rattle.std.proofs.lemmas.List.{reverse-append}
use Rattle.dm_token.specs.declared.unit.UnitTokens.{UnitTokens}
use Rattle.dm_name_map.specs.Numbers.{Numbers}
use Rattle.dm_mentions.specs.declared.events.Event.{Event}
use Rattle.dm_mentions.specs.Mentions.{name_of, is_name, first_from, first_named, nexts, AreChains}
use Rattle.dm_mentions.proofs.PositionLemmas.{Finds, finds-nothing, finds-named, finds-unnamed, left-and-done, place-of-last}

abbrev pub named : UnitTokens → List ℕ → Event → Bool
named pp name event = is_name name (name_of pp event)

pub nexts-more : (pp : UnitTokens) (at : ℕ) (event : Event) (behind : List Event)
    → nexts pp at (event ∷ behind) ≡ first_named pp (at + 1) (name_of pp event) behind ∷ nexts pp (at + 1) behind
unfolding nexts
nexts-more pp at event behind = refl

pub nexts-nothing : (pp : UnitTokens) (at : ℕ) → nexts pp at [] ≡ []
unfolding nexts
nexts-nothing pp at = refl

pub no-chains : (pp : UnitTokens) (at : ℕ) (first : Numbers) (next : List (Option ℕ)) → first ≡ finite.empty → next ≡ [] → AreChains pp at [] first (reverse next)
no-chains pp at first next empty none = (finds-nothing (named pp) at first empty, ap reverse none ∙ sym (nexts-nothing pp at))

module _ (pp : UnitTokens) (left before behind all : List Event) (last : Event) (first : Numbers) (next more : List (Option ℕ))
    (is : left ≡ before ++ last ∷ []) (both : left ++ behind ≡ all) (chains : AreChains pp (length left) behind first (reverse next)) where
  there : AreChains pp (length before + 1) behind first (reverse next)
  there = subst (λ n. AreChains pp n behind first (reverse next)) (place-of-last left before last is) chains

  -- what stands behind it stands first in its list
  one-more : (found : Option ℕ) → found ≡ first_named pp (length before + 1) (name_of pp last) behind → more ≡ next ++ found ∷ [] → reverse more ≡ nexts pp (length before) (last ∷ behind)
  one-more found e grows =
      ap reverse grows ∙ reverse-append next (found ∷ []) ∙ ap₂ (λ x xs. x ∷ xs) e there.1
      ∙ sym (nexts-more pp (length before) last behind)

  pub chains-unnamed : name_of pp last ≡ None → more ≡ next ++ None ∷ []
      → (done : List Event) × (before ++ done ≡ all) × AreChains pp (length before) done first (reverse more)
  chains-unnamed none grows = (
    last ∷ behind,
    left-and-done left before behind all last is both,
    (
      finds-unnamed (named pp) (length before) last behind first (λ other. ap (is_name other) none) there.0,
      one-more None (sym (ap (λ name. first_named pp (length before + 1) name behind) none)) grows,
    ),
  )

  pub chains-named : (name : List ℕ) (new : Numbers) (found : Option ℕ) → name_of pp last ≡ Some name → found ≡ finite.get first name → more ≡ next ++ found ∷ []
      → new ≡ finite.insert first name (length before)
      → (done : List Event) × (before ++ done ≡ all) × AreChains pp (length before) done new (reverse more)
  chains-named name new found some e grows inserted = (
    last ∷ behind,
    left-and-done left before behind all last is both,
    (
      subst (Finds (named pp) (length before) (last ∷ behind)) (sym inserted)
          (finds-named (named pp) (length before) last behind name first (λ other. ap (is_name other) some) there.0),
      one-more found (e ∙ there.0 name ∙ sym (ap (λ known. first_named pp (length before + 1) known behind) some)) grows,
    ),
  )
