-- How many external declarations end before tokens, with one more declaration.
use Rattle.std.proofs.Common.{◌≡◌, ℕ, zero, suc, ◌+◌, ◌-◌, ◌<◌, ◌≤◌, Bool, true, false, cond, ◌==◌, nat_le, ◌⊎◌, inl, inr, add-zero, get_or, List, [], ◌∷◌, ◌++◌, length, replicate, refl, sym, ap, ◌∙◌, arith, length-append}
use Rattle.std.specs.List.{prefix_len}
use Rattle.std.proofs.lemmas.Bool.{eqb-true, eq-eqb, cond-true, cond-false, cases_lt, le-leb, leb-true}
use Rattle.std.proofs.lemmas.List.{get_or_append_left, get_or_past, get_or-replicate, length-replicate}
use Rattle.std.proofs.Math.Seq.{get_or-append_right}
use Rattle.std.proofs.lemmas.List.Folds.{prefix_len-append}
use Rattle.dm_tree.specs.declared.unit.CoreExternal.{CoreExternal}
use Rattle.dm_rules.specs.Places.{ends_before, externals_before, AreBefore}

-- what is known of the numbers that are kept: each is that of a declaration
pub record Kept (externals : List CoreExternal) (before : List ℕ) : Type 0 where
  pub are : AreBefore externals before
  pub few : (at d : ℕ) → at < length before → get_or before at d < length externals

pub nothing-kept : Kept [] []
nothing-kept = record { are = λ at. refl; few = λ at d inside. absurd (omega (arith, inside)) }

same-inside : (xs : List ℕ) (i d e : ℕ) → i < length xs → get_or xs i d ≡ get_or xs i e
same-inside [] i d e inside = absurd (omega (arith, inside))
same-inside (x ∷ xs) zero d e inside = refl
same-inside (x ∷ xs) (suc i) d e inside = same-inside xs i d e (omega (arith, inside))

above : (a b : ℕ) → b < a → nat_le a b ≡ false
above a b less = by (nat_le a b) refl
  where
    by : (c : Bool) → nat_le a b ≡ c → nat_le a b ≡ false
    by true is = let low = leb-true a b is in absurd (omega (arith, less, low))
    by false is = is

-- the test of the declaration behind those that end before a token all
module _ (externals : List CoreExternal) (one : CoreExternal) (at : ℕ) where
  same-before : externals_before externals at < length externals → externals_before (externals ++ one ∷ []) at ≡ externals_before externals at
  same-before few =
      prefix_len-append (ends_before at) externals (one ∷ [])
      ∙ cond-false (externals_before externals at == length externals) (length externals + prefix_len (ends_before at) (one ∷ [])) (externals_before externals at) (differ (externals_before externals at == length externals) refl)
    where
      differ : (b : Bool) → (externals_before externals at == length externals) ≡ b → (externals_before externals at == length externals) ≡ false
      differ true is = let same = eqb-true (externals_before externals at) (length externals) is in absurd (omega (arith, few, same))
      differ false is = is

  all-before : externals_before externals at ≡ length externals → externals_before (externals ++ one ∷ []) at ≡ length externals + cond (nat_le one.span.after at) 1 0
  all-before all =
      prefix_len-append (ends_before at) externals (one ∷ [])
      ∙ cond-true (externals_before externals at == length externals) (length externals + prefix_len (ends_before at) (one ∷ [])) (externals_before externals at) (eq-eqb (externals_before externals at) (length externals) all)
      ∙ by (nat_le one.span.after at)
    where
      by : (b : Bool) → length externals + cond b 1 0 ≡ length externals + cond b 1 0
      by b = refl

module _ (externals : List CoreExternal) (before : List ℕ) (one : CoreExternal) (kept : Kept externals before) where
  abbrev n : ℕ
  n = length externals

  count : length (externals ++ one ∷ []) ≡ n + 1
  count = length-append externals (one ∷ [])

  -- a token before the end of one of the others
  early : (at d : ℕ) → at < length before → get_or before at d ≡ externals_before (externals ++ one ∷ []) at
  early at d inside =
      let same : get_or before at d ≡ externals_before externals at = same-inside before at d n inside ∙ kept.are at in
      same ∙ sym (same-before externals one at (omega (arith, same, kept.few at d inside)))

  -- a token behind all of them
  late : (at : ℕ) → length before ≤ at → externals_before (externals ++ one ∷ []) at ≡ n + cond (nat_le one.span.after at) 1 0
  late at outside = all-before externals one at (sym (kept.are at) ∙ get_or_past before at n outside)

  pub same-kept : one.span.after ≤ length before → Kept (externals ++ one ∷ []) before
  same-kept ends = record {
    are = λ at. elim (cases_lt at (length before)) [
      | inl inside ↦ early at (length (externals ++ one ∷ [])) inside
      | inr outside ↦
          get_or_past before at (length (externals ++ one ∷ [])) outside ∙ count
          ∙ sym (late at outside ∙ ap (λ b. n + cond b 1 0) (le-leb one.span.after at (omega (arith, ends, outside))))
    ];
    few = λ at d inside. let less = kept.few at d inside in omega (arith, less, count);
  }

  abbrev more : List ℕ
  more = replicate (one.span.after - length before) n

  pub more-kept : length before < one.span.after → Kept (externals ++ one ∷ []) (before ++ more)
  more-kept longer = record {
    are = λ at. elim (cases_lt at (length before)) [
      | inl inside ↦
          let d = length (externals ++ one ∷ []) in
          get_or_append_left before more d at inside ∙ early at d inside
      | inr outside ↦ behind at outside (cases_lt at one.span.after)
    ];
    few = λ at d inside. elim (cases_lt at (length before)) [
      | inl within ↦ let less = kept.few at d within in omega (arith, less, count, get_or_append_left before more d at within)
      | inr outside ↦
          let size = length-append before more in
          let long = length-replicate (one.span.after - length before) n in
          omega (arith, count, added at d outside (omega (arith, inside, size, long)))
    ];
  }
    where
      added : (at d : ℕ) → length before ≤ at → at < one.span.after → get_or (before ++ more) at d ≡ n
      added at d outside inside =
          get_or-append_right before more at d outside ∙ get_or-replicate (one.span.after - length before) (at - length before) n d (omega (arith, outside, inside))

      behind : (at : ℕ) → length before ≤ at → (at < one.span.after) ⊎ (one.span.after ≤ at)
          → get_or (before ++ more) at (length (externals ++ one ∷ [])) ≡ externals_before (externals ++ one ∷ []) at
      behind at outside (inl inside) =
          added at (length (externals ++ one ∷ [])) outside inside ∙ sym (add-zero n)
          ∙ sym (late at outside ∙ ap (λ b. n + cond b 1 0) (above one.span.after at inside))
      behind at outside (inr ends) =
          get_or_past (before ++ more) at (length (externals ++ one ∷ [])) (omega (arith, ends, outside, length-append before more, length-replicate (one.span.after - length before) n))
          ∙ count ∙ sym (late at outside ∙ ap (λ b. n + cond b 1 0) (le-leb one.span.after at ends))
