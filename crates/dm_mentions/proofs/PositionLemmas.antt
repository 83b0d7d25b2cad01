-- Positions of names in lists that grow at the front.
use Rattle.std.proofs.Common.{◌≡◌, ℕ, ◌+◌, Bool, true, false, cond, List, [], ◌∷◌, ◌++◌, length, Option, Some, None, refl, sym, ap, subst, append_assoc, ◌∙◌}
use Rattle.std.specs.Prelude.{bytes_eq}
use Rattle.std.specs.List.{position_from}
use Rattle.std.specs.Ordering.{nat_cmp}
use Rattle.std.specs.Cmp.Lexicographic.{slice_cmp, texts_ties}
use Rattle.std.specs.FinMap as finite
use Rattle.std.proofs.lemmas.Cmp.{nat_list_cmp_total}
use Rattle.std.proofs.lemmas.List.{length-append}
use Rattle.dm_name_map.specs.Numbers.{Numbers}

-- a map has the first position of each name among things from a position on
abbrev pub Finds : {A : Type 0} → (List ℕ → A → Bool) → ℕ → List A → Numbers → Type 0
Finds names at things map = (name : List ℕ) → finite.get map name ≡ position_from (names name) at things

pub finds-nothing : {A : Type 0} (names : List ℕ → A → Bool) (at : ℕ) (map : Numbers) → map ≡ finite.empty → Finds names at [] map
finds-nothing names at map empty = λ name. ap (λ (m : Numbers). finite.get m name) empty ∙ finite.get-empty {X = ℕ} (slice_cmp nat_cmp) name

-- one more thing in front of others, which has a name
pub finds-named : {A : Type 0} (names : List ℕ → A → Bool) (at : ℕ) (thing : A) (things : List A) (name : List ℕ) (map : Numbers)
    → ((other : List ℕ) → names other thing ≡ bytes_eq other name) → Finds names (at + 1) things map → Finds names at (thing ∷ things) (finite.insert map name at)
finds-named names at thing things name map named finds = λ q.
    finite.get-insert nat_list_cmp_total map name at q
    ∙ ap (λ b. cond b (Some at) (finite.get map q)) (sym (texts_ties q name))
    ∙ ap (λ b. cond b (Some at) (finite.get map q)) (sym (named q))
    ∙ ap (λ found. cond (names q thing) (Some at) found) (finds q)

-- or none
pub finds-unnamed : {A : Type 0} (names : List ℕ → A → Bool) (at : ℕ) (thing : A) (things : List A) (map : Numbers)
    → ((other : List ℕ) → names other thing ≡ false) → Finds names (at + 1) things map → Finds names at (thing ∷ things) map
finds-unnamed names at thing things map unnamed finds = λ q. finds q ∙ sym (ap (λ b. cond b (Some at) (position_from (names q) (at + 1) things)) (unnamed q))

-- ---- the last of those that are left

-- where the last is taken, it stands before those that are done
pub left-and-done : {A : Type 0} (left before behind all : List A) (last : A) → left ≡ before ++ last ∷ [] → left ++ behind ≡ all → before ++ last ∷ behind ≡ all
left-and-done left before behind all last is both = sym (append_assoc before (last ∷ []) behind) ∙ ap (λ front. front ++ behind) (sym is) ∙ both

pub place-of-last : {A : Type 0} (left before : List A) (last : A) → left ≡ before ++ last ∷ [] → length left ≡ length before + 1
place-of-last left before last is = ap length is ∙ length-append before (last ∷ [])

module _ {A : Type 0} (names : List ℕ → A → Bool) (left before behind all : List A) (last : A) (map : Numbers) (is : left ≡ before ++ last ∷ []) (both : left ++ behind ≡ all) (finds : Finds names (length left) behind map) where
  there : Finds names (length before + 1) behind map
  there = subst (λ n. Finds names n behind map) (place-of-last left before last is) finds

  pub last-named : (name : List ℕ) (new : Numbers) → ((other : List ℕ) → names other last ≡ bytes_eq other name) → new ≡ finite.insert map name (length before)
      → (done : List A) × (before ++ done ≡ all) × Finds names (length before) done new
  last-named name new named e = (
    last ∷ behind,
    left-and-done left before behind all last is both,
    subst (Finds names (length before) (last ∷ behind)) (sym e) (finds-named names (length before) last behind name map named there),
  )

  pub last-unnamed : ((other : List ℕ) → names other last ≡ false) → (done : List A) × (before ++ done ≡ all) × Finds names (length before) done map
  last-unnamed unnamed = (last ∷ behind, left-and-done left before behind all last is both, finds-unnamed names (length before) last behind map unnamed there)
