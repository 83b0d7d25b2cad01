-- How far the tokens of a run come.
use Rattle.std.proofs.Common.{◌≡◌, ℕ, zero, suc, ◌+◌, ◌-◌, ◌<◌, ◌≤◌, max, Bool, true, false, ◌&&◌, nat_lt, nat_le, List, [], ◌∷◌, ◌++◌, length, get_or, Option, Some, None, slice_get, unwrap_or, length-append, zero-add, refl, sym, ap, subst, ◌∙◌, arith}
use Rattle.std.specs.List.{position_from}
use Rattle.std.specs.List.Sorted.{IsPartitionedBy, IsPartitionPoint}
use Rattle.std.proofs.lemmas.Bool.{ltb-true, ltb-false, lt-ltb, le-ltb, leb-true, leb-false, le-leb, false≢true}
use Rattle.std.proofs.lemmas.List.{get_or_append_left, get_or-append_right}
use Rattle.dm_token.specs.declared.expansion.Definition.{Definition}
use Rattle.dm_token.specs.declared.expansion.Expansion.{Expansion}
use Rattle.dm_token.specs.declared.expansion.Mark.{Mark}
use Rattle.dm_token.specs.declared.place.Span.{Span}
use Rattle.dm_token.specs.declared.token.CToken.{CToken}
use Rattle.dm_runs.specs.Beginnings.{begins}
use Rattle.dm_runs.specs.Extents.{IsSpanUnder}
use Rattle.dm_runs.specs.Reaches.{IsReached, NoneReached, AreReachedBy, AreReached}
use Rattle.dm_runs.specs.Runs.{is_later, is_behind, part_by, would_stand}
use Rattle.dm_runs.proofs.ItemLemmas.{some-same}
use Rattle.dm_runs.proofs.PartLemmas.{position-none}
use Rattle.dm_runs.proofs.StandLemmas.{position-at}

module _ (later : ℕ → CToken → Bool) (tokens : List CToken) where
  -- of the tokens before a position the last part is this
  pub record Reached (first position last : ℕ) (reach : List ℕ) : Type 0 where
    pub none : (at : ℕ) → last ≤ at → NoneReached later tokens position at
    pub some : (at : ℕ) → at < last → IsReached later tokens position at
    pub count : first + length reach ≡ position
    pub all : AreReachedBy later tokens first reach

  pub reach-nothing : (first : ℕ) → ((at : ℕ) → NoneReached later tokens first at) → Reached first first 0 []
  reach-nothing first before = record {
    none = λ at le. before at;
    some = λ at lt. absurd (omega (arith, lt));
    count = omega arith;
    all = record { low = λ k at d lt le. absurd (omega (arith, lt)); high = λ k at d lt more. absurd (omega (arith, lt)) };
  }

  further : (one more at : ℕ) → one ≤ more → IsReached later tokens one at → IsReached later tokens more at
  further one more at le is = record { position = is.position; token = is.token; within = omega (arith, le, is.within); there = is.there; passes = is.passes }

  module _ (first position last part : ℕ) (reach : List ℕ) (token : CToken) (so_far : Reached first position last reach) (is : slice_get tokens position ≡ Some token)
      (passes : (at : ℕ) → later at token ≡ nat_lt at part) where
    none-now : (at : ℕ) → max part last ≤ at → NoneReached later tokens (position + 1) at
    none-now at le j other lt got = by (nat_lt j position) refl
      where
        by : (b : Bool) → nat_lt j position ≡ b → later at other ≡ false
        by true e = so_far.none at (omega (arith, le)) j other (ltb-true j position e) got
        by false e =
            let high : position ≤ j = ltb-false j position e in
            let same : j ≡ position = omega (arith, lt, high) in
            ap (later at) (some-same other token (sym got ∙ (ap (slice_get tokens) same ∙ is))) ∙ (passes at ∙ le-ltb at part (omega (arith, le)))

    some-now : (at : ℕ) → at < max part last → IsReached later tokens (position + 1) at
    some-now at lt = by (nat_lt at part) refl
      where
        by : (b : Bool) → nat_lt at part ≡ b → IsReached later tokens (position + 1) at
        by true e = record { position = position; token = token; within = omega arith; there = is; passes = passes at ∙ e }
        by false e =
            let low : part ≤ at = ltb-false at part e in
            further position (position + 1) at (omega arith) (so_far.some at (omega (arith, lt, low)))

    abbrev longer : List ℕ
    longer = reach ++ max part last ∷ []

    old-entry : (k d : ℕ) → k < length reach → get_or longer k d ≡ get_or reach k d
    old-entry k d lt = get_or_append_left reach (max part last ∷ []) d k lt

    new-entry : (k d : ℕ) → k ≡ length reach → get_or longer k d ≡ max part last
    new-entry k d same =
        get_or-append_right reach (max part last ∷ []) (length reach) k d refl (omega (arith, same))
        ∙ ap (λ n. get_or (max part last ∷ []) n d) (let none : k - length reach ≡ 0 = omega (arith, same) in none)

    low-now : (k at d : ℕ) → k < length longer → get_or longer k d ≤ at → NoneReached later tokens (first + k + 1) at
    low-now k at d lt le = by (nat_lt k (length reach)) refl
      where
        by : (b : Bool) → nat_lt k (length reach) ≡ b → NoneReached later tokens (first + k + 1) at
        by true e =
            let inside : k < length reach = ltb-true k (length reach) e in
            so_far.all.low k at d inside (omega (arith, le, old-entry k d inside))
        by false e = λ j other less got.
            let high : length reach ≤ k = ltb-false k (length reach) e in
            let same : k ≡ length reach = omega (arith, high, lt, length-append reach (max part last ∷ [])) in
            none-now at (omega (arith, le, new-entry k d same)) j other (omega (arith, less, same, so_far.count)) got

    high-now : (k at d : ℕ) → k < length longer → at < get_or longer k d → IsReached later tokens (first + k + 1) at
    high-now k at d lt more = by (nat_lt k (length reach)) refl
      where
        by : (b : Bool) → nat_lt k (length reach) ≡ b → IsReached later tokens (first + k + 1) at
        by true e =
            let inside : k < length reach = ltb-true k (length reach) e in
            so_far.all.high k at d inside (omega (arith, more, old-entry k d inside))
        by false e =
            let high : length reach ≤ k = ltb-false k (length reach) e in
            let same : k ≡ length reach = omega (arith, high, lt, length-append reach (max part last ∷ [])) in
            further (position + 1) (first + k + 1) at (omega (arith, same, so_far.count)) (some-now at (omega (arith, more, new-entry k d same)))

    reach-step : Reached first (position + 1) (max part last) longer
    reach-step = record {
      none = none-now;
      some = some-now;
      count = omega (arith, so_far.count, length-append reach (max part last ∷ []));
      all = record { low = low-now; high = high-now };
    }

  -- the same with the names that a step gives to what it makes
  pub reach-next : (first position last part : ℕ) (reach : List ℕ) (token : CToken) → Reached first position last reach → slice_get tokens position ≡ Some token
      → ((at : ℕ) → nat_lt at part ≡ later at token) → (most : ℕ) → most ≡ max part last → (more : List ℕ) → more ≡ reach ++ most ∷ [] → (next : ℕ) → next ≡ position + 1 → Reached first next most more
  reach-next first position last part reach token so_far is passes most same more grown next one =
      subst (λ n. Reached first n most more) (sym one)
      (subst (Reached first (position + 1) most) (sym grown)
      (subst (λ n. Reached first (position + 1) n (reach ++ n ∷ [])) (sym same) (reach-step first position last part reach token so_far is (λ at. sym (passes at)))))

  -- ---- where the search ends

  -- each reaches at least as far as those before it
  pub reach-parts : (first at : ℕ) (reach : List ℕ) → AreReachedBy later tokens first reach → IsPartitionedBy (λ part. nat_le part at) reach
  reach-parts first at reach are i j d le inside passes = by (nat_le (get_or reach i d) at) refl
    where
      by : (b : Bool) → nat_le (get_or reach i d) at ≡ b → nat_le (get_or reach i d) at ≡ true
      by true e = e
      by false e =
          let some = are.high i at d (omega (arith, le, inside)) (leb-false (get_or reach i d) at e) in
          let none = are.low j at d inside (leb-true (get_or reach j d) at passes) in
          absurd (false≢true (sym (none some.position some.token (omega (arith, some.within, le)) some.there) ∙ some.passes))

  -- the first token that comes of a later part, or none up to the end
  pub first-reached : (first at : ℕ) (reach : List ℕ) (count : ℕ) → AreReachedBy later tokens first reach → count < length reach
      → IsPartitionPoint (λ part. nat_le part at ≡ true) (λ part. nat_le part at ≡ false) reach count
      → ((j : ℕ) (token : CToken) → j < first → slice_get tokens j ≡ Some token → later at token ≡ false)
      → position_from (later at) 0 tokens ≡ Some (first + count)
  first-reached first at reach count are inside point before =
      let some = are.high count at 0 inside (leb-false (get_or reach count 0) at (point.1 count 0 (omega arith) inside)) in
      let here : some.position ≡ first + count = exactly some in
      position-at (later at) 0 tokens (first + count) some.token (ap (slice_get tokens) (sym here) ∙ some.there) some.passes none-before ∙ ap Some (zero-add (first + count))
    where
      none-before : (j : ℕ) (token : CToken) → j < first + count → slice_get tokens j ≡ Some token → later at token ≡ false
      none-before j token lt got = by count refl
        where
          by : (n : ℕ) → n ≡ count → later at token ≡ false
          by zero same = before j token (omega (arith, lt, same)) got
          by (suc n) same =
              are.low n at 0 (omega (arith, same, inside)) (leb-true (get_or reach n 0) at (point.0 n 0 (omega arith) (omega (arith, same)))) j token (omega (arith, lt, same)) got

      exactly : (some : IsReached later tokens (first + count + 1) at) → some.position ≡ first + count
      exactly some = by (nat_lt some.position (first + count)) refl
        where
          by : (b : Bool) → nat_lt some.position (first + count) ≡ b → some.position ≡ first + count
          by true e = absurd (false≢true (sym (none-before some.position some.token (ltb-true some.position (first + count) e) some.there) ∙ some.passes))
          by false e = let high : first + count ≤ some.position = ltb-false some.position (first + count) e in omega (arith, high, some.within)

  pub none-reached : (first at : ℕ) (reach : List ℕ) → AreReachedBy later tokens first reach
      → IsPartitionPoint (λ part. nat_le part at ≡ true) (λ part. nat_le part at ≡ false) reach (length reach)
      → ((j : ℕ) (token : CToken) → j < first → slice_get tokens j ≡ Some token → later at token ≡ false)
      → (j : ℕ) (token : CToken) → j < first + length reach → slice_get tokens j ≡ Some token → later at token ≡ false
  none-reached first at reach are point before j token lt got = by (length reach) refl
    where
      by : (n : ℕ) → n ≡ length reach → later at token ≡ false
      by zero same = before j token (omega (arith, lt, same)) got
      by (suc n) same =
          are.low n at 0 (omega (arith, same)) (leb-true (get_or reach n 0) at (point.0 n 0 (omega arith) (omega (arith, same)))) j token (omega (arith, lt, same)) got

module _ (expansions : List Expansion) (tokens : List CToken) (definition : Definition) (prefix : List Mark) (run : Span) (at : ℕ) (under : IsSpanUnder prefix tokens run) where
  abbrev later : ℕ → CToken → Bool
  later = is_later expansions definition prefix

  -- outside of the span of a run no token comes of a later part
  pub none-outside : (j : ℕ) (token : CToken) → slice_get tokens j ≡ Some token → ((run.first ≤ j) × (j < run.after) → ⊥) → later at token ≡ false
  none-outside j token got outside = by (begins prefix token.trail) refl
    where
      by : (b : Bool) → begins prefix token.trail ≡ b → later at token ≡ false
      by true e = absurd (outside (under.only j token got e))
      by false e = ap (λ b. b && is_behind at (part_by expansions definition token.place (slice_get token.trail (length prefix)))) e

  pub none-before : (j : ℕ) (token : CToken) → j < run.first → slice_get tokens j ≡ Some token → later at token ≡ false
  none-before j token lt got = none-outside j token got (λ inside. let low = inside.0 in omega (arith, lt, low))

  module _ (reach : List ℕ) (count : ℕ) (long : run.first + length reach ≡ run.after) (are : AreReached expansions tokens definition prefix run reach) (bound : count ≤ length reach)
      (point : IsPartitionPoint (λ part. nat_le part at ≡ true) (λ part. nat_le part at ≡ false) reach count) where
    none-at-all : count ≡ length reach → (j : ℕ) (token : CToken) → slice_get tokens j ≡ Some token → later at token ≡ false
    none-at-all whole j token got = which (nat_lt j run.after) refl
      where
        which : (b : Bool) → nat_lt j run.after ≡ b → later at token ≡ false
        which true f =
            let lt : j < run.after = ltb-true j run.after f in
            none-reached (is_later expansions definition prefix) tokens run.first at reach are
            (subst (IsPartitionPoint (λ part. nat_le part at ≡ true) (λ part. nat_le part at ≡ false) reach) whole point) none-before j token (omega (arith, lt, long)) got
        which false f =
            none-outside j token got (λ inside. let high : run.after ≤ j = ltb-false j run.after f in let low = inside.1 in omega (arith, high, low))

    -- so that is where an occurrence would stand
    pub stands-there : run.first + count ≡ would_stand expansions tokens definition prefix run.after at
    stands-there = by (nat_lt count (length reach)) refl
      where
        by : (b : Bool) → nat_lt count (length reach) ≡ b → run.first + count ≡ would_stand expansions tokens definition prefix run.after at
        by true e =
            sym (ap (λ found. unwrap_or found run.after)
            (first-reached (is_later expansions definition prefix) tokens run.first at reach count are (ltb-true count (length reach) e) point none-before))
        by false e =
            let end : length reach ≤ count = ltb-false count (length reach) e in
            let whole : count ≡ length reach = omega (arith, end, bound) in
            let last : run.first + count ≡ run.after = omega (arith, whole, long) in
            last ∙ sym (ap (λ found. unwrap_or found run.after) (position-none (later at) 0 tokens (λ j token got. none-at-all whole j token got)))
