-- The occurrences of runs stand inside them, and apart.
--     runs_apart      in all runs of a definition
use Rattle.std.specs.Prelude.{◌≡◌, refl, ℕ, zero, suc, ◌+◌, ◌<◌, ◌≤◌, ◌⊎◌, Bool, true, false, List, [], ◌∷◌, ◌++◌, map, length, Option, Some, None, slice_get, unwrap_or, ◌-◌, if◌then◌else◌}
use Rattle.std.specs.List.{AllByRecursion, flat_map, position_from}
use Rattle.std.proofs.Common.{ap, sym, ◌∙◌, subst, arith, inl, inr}
use Rattle.std.proofs.lemmas.Bool.{true≢false, and_parts, and_from, eqb-true, eq-eqb}
use Rattle.dm_token.specs.declared.place.Span.{Span}
use Rattle.dm_token.specs.declared.expansion.Definition.{Definition}
use Rattle.dm_token.specs.declared.expansion.Expansion.{Expansion}
use Rattle.dm_token.specs.declared.expansion.Mark.{Mark}
use Rattle.dm_token.specs.declared.expansion.Mark.TheVariants.{Argument as argument}
use Rattle.dm_token.specs.declared.token.CToken.{CToken}
use Rattle.dm_token.specs.declared.token.Token.{Token}
use Rattle.dm_token.specs.declared.unit.UnitTokens.{UnitTokens}
use Rattle.dm_runs.specs.declared.run.Occurrence.{Occurrence}
use Rattle.dm_runs.specs.Beginnings.{begins, met, last_mark}
use Rattle.dm_runs.specs.Names.{named_in}
use Rattle.dm_runs.specs.Runs.{expanded, first_part, is_at, is_behind, is_empty, is_later, occurrence_in, part_by, part_named, run_if, run_of, runs_of, would_stand}
use Rattle.dm_runs.specs.Spans.{empty_at, span_of, tokens_under}
use Rattle.dm_runs.proofs.SpanLemmas.{Filled}
use Rattle.dm_apart.specs.Apart.{AreBeside, HasPartsApart, IsBeside, IsWithin}
use Rattle.dm_apart.proofs.NameLemmas.{Pairs, named_apart}
use Rattle.dm_apart.proofs.SpanLemmas.{Stands, none, scattered, filled, span_stands, begins_shorter, step_is}

-- ---- numbers

below_or : (a b : ℕ) → (a < b) ⊎ (b ≤ a)
below_or zero zero = inr (omega arith)
below_or zero (suc b) = inl (omega arith)
below_or (suc a) zero = inr (omega arith)
below_or (suc a) (suc b) = by (below_or a b)
  where
    by : (a < b) ⊎ (b ≤ a) → (suc a < suc b) ⊎ (suc b ≤ suc a)
    by (inl h) = inl (omega (arith, h))
    by (inr h) = inr (omega (arith, h))

some_at : {A : Type 0} (xs : List A) (k : ℕ) → k < length xs → (x : A) × (slice_get xs k ≡ Some x)
some_at [] k h = absurd (omega (arith, h))
some_at (x ∷ xs) zero h = (x, refl)
some_at (x ∷ xs) (suc k) h = some_at xs k (omega (arith, h))

-- ---- the first item that passes

record Found {A : Type 0} (test : A → Bool) (from : ℕ) (xs : List A) (k : ℕ) : Type 0 where
  place : ℕ
  item : A
  at : k ≡ from + place
  is : slice_get xs place ≡ Some item
  passes : test item ≡ true
  before : (j : ℕ) (x : A) → j < place → slice_get xs j ≡ Some x → test x ≡ true → ⊥

some_same : {A : Type 0} (x y : A) → Some x ≡ Some y → x ≡ y
some_same x y e = cc

none_some : {A : Type 0} (x : A) → None ≡ Some x → ⊥
none_some x e = cc

found_at : {A : Type 0} (test : A → Bool) (from : ℕ) (xs : List A) (k : ℕ) → position_from test from xs ≡ Some k → Found test from xs k
found_at test from [] k e = absurd (none_some k e)
found_at test from (x ∷ xs) k e = by_test (test x) refl e (found_at test (from + 1) xs k)
  where
    later : test x ≡ false → Found test (from + 1) xs k → Found test from (x ∷ xs) k
    later fails it = let at = it.at in record { place = suc it.place; item = it.item; at = omega (arith, at); is = it.is; passes = it.passes; before = earlier }
      where
        earlier : (j : ℕ) (y : _) → j < suc it.place → slice_get (x ∷ xs) j ≡ Some y → test y ≡ true → ⊥
        earlier zero y less same passes = true≢false (sym passes ∙ ap test (sym (some_same x y same)) ∙ fails)
        earlier (suc j) y less same passes = it.before j y (omega (arith, less)) same passes

    by_test : (b : Bool) → test x ≡ b → (if b then Some from else position_from test (from + 1) xs) ≡ Some k → (position_from test (from + 1) xs ≡ Some k → Found test (from + 1) xs k)
        → Found test from (x ∷ xs) k
    by_test true is f rest = let same = some_same from k f in record { place = 0; item = x; at = omega (arith, same); is = refl; passes = is; before = λ j y less. absurd (omega (arith, less)) }
    by_test false is f rest = later is (rest f)

-- ---- one run

module _ (expansions : List Expansion) (tokens : List CToken) (definition : Definition) (prefix : List Mark) (run : Span) where
  -- an occurrence by its parameter, its number and the part of the replacement list that it is
  abbrev way_of : ℕ → ℕ → List Mark
  way_of parameter occurrence = prefix ++ argument parameter occurrence ∷ []

  abbrev later : ℕ → CToken → Bool
  later part token = is_later expansions definition prefix part token

  abbrev stand_at : ℕ → ℕ
  stand_at part = would_stand expansions tokens definition prefix run.after part

  -- a token of an occurrence is one of the run
  of_run : (p o : ℕ) (token : CToken) → begins (way_of p o) token.trail ≡ true → begins prefix token.trail ≡ true
  of_run p o token longer = begins_shorter prefix (argument p o) token.trail longer

  -- and of no other occurrence
  of_no_other : (p o q k : ℕ) → (p ≡ q → o ≡ k → ⊥) → (token : CToken) → begins (way_of p o) token.trail ≡ true → begins (way_of q k) token.trail ≡ true → ⊥
  of_no_other p o q k apart token first second =
      let same = some_same (argument p o) (argument q k) (sym (step_is prefix (argument p o) token.trail first) ∙ step_is prefix (argument q k) token.trail second) in
      apart (by_parameter same) (by_occurrence same)
    where
      by_parameter : argument p o ≡ argument q k → p ≡ q
      by_parameter e = cc

      by_occurrence : argument p o ≡ argument q k → o ≡ k
      by_occurrence e = cc

  -- where one would stand, or behind the run
  abbrev IsWould : ℕ → ℕ → Type 0
  IsWould part at = (at ≡ run.after) ⊎ Found (later part) 0 tokens at

  would : (part : ℕ) → IsWould part (stand_at part)
  would part = by_found (position_from (later part) 0 tokens) refl
    where
      by_found : (o : Option ℕ) → position_from (later part) 0 tokens ≡ o → IsWould part (unwrap_or o run.after)
      by_found None e = inl refl
      by_found (Some k) e = inr (found_at (later part) 0 tokens k e)

  -- what stands in all tokens
  token_at : (way : List Mark) (span : Span) → Filled way tokens span → (k : ℕ) → span.first ≤ k → k < span.after
      → (token : CToken) × (slice_get tokens k ≡ Some token) × (begins way token.trail ≡ true)
  token_at way span full k low high =
      let found = some_at tokens k (let in_all = full.within in omega (arith, high, in_all)) in
      (found.0, found.1, full.under.all k found.0 found.1 low high)

  module _ (full : Filled prefix tokens run) (some : run.first < run.after) where
    inside : (k : ℕ) (token : CToken) → slice_get tokens k ≡ Some token → begins prefix token.trail ≡ true → (run.first ≤ k) × (k < run.after)
    inside k token is of = full.under.only k token is of

    at_behind : (part : ℕ) (at : ℕ) → IsWould part at → (run.first ≤ at) × (at ≤ run.after)
    at_behind part at (inl same) = (omega (arith, some, same), omega (arith, same))
    at_behind part at (inr found) =
        let here = and_parts (begins prefix found.item.trail) (is_behind part (part_by expansions definition found.item.place (slice_get found.item.trail (length prefix)))) found.passes in
        let both = inside found.place found.item found.is here.0 in
        let low = both.0 in
        let high = both.1 in
        let place = found.at in
        (omega (arith, low, place), omega (arith, high, place))

    within : (p o part at : ℕ) → IsWould part at → (span : Span) → Stands (way_of p o) tokens at span → IsWithin run span
    within p o part at where_it span (none e) =
        let first = ap (λ (s : Span). s.first) e in
        let after = ap (λ (s : Span). s.after) e in
        let both = at_behind part at where_it in
        let low = both.0 in
        let high = both.1 in
        (omega (arith, low, first), omega (arith, first, after), omega (arith, high, after))
    within p o part at where_it span (scattered m token e is of) =
        let first = ap (λ (s : Span). s.first) e in
        let after = ap (λ (s : Span). s.after) e in
        let both = inside m token is (of_run p o token of) in
        let low = both.0 in
        let high = both.1 in
        (omega (arith, low, first), omega (arith, first, after), omega (arith, high, after))
    within p o part at where_it span (filled more own) =
        let first = token_at (way_of p o) span own span.first (omega arith) more in
        let last = token_at (way_of p o) span own (span.after - 1) (omega (arith, more)) (omega (arith, more)) in
        let low = (inside span.first first.0 first.1 (of_run p o first.0 first.2)).0 in
        let high = (inside (span.after - 1) last.0 last.1 (of_run p o last.0 last.2)).1 in
        (low, omega (arith, more), omega (arith, more, high))

    -- ---- two occurrences

    -- one with tokens, and an empty one, which isn't between two of them
    outside : (p o : ℕ) (span : Span) → span.first < span.after → Filled (way_of p o) tokens span → (part at : ℕ) → IsWould part at → (at ≤ span.first) ⊎ (span.after ≤ at)
    outside p o span more own part at (inl same) =
        let high = (within p o part at (inl same) span (filled more own)).2 in inr (omega (arith, high, same))
    outside p o span more own part at (inr found) = by_low (below_or span.first at) (below_or at span.after)
      where
        by_low : (span.first < at) ⊎ (at ≤ span.first) → (at < span.after) ⊎ (span.after ≤ at) → (at ≤ span.first) ⊎ (span.after ≤ at)
        by_low (inr low) high = inl low
        by_low (inl low) (inr high) = inr high
        by_low (inl low) (inl high) =
            let place = found.at in
            let here = token_at (way_of p o) span own at (omega (arith, low)) high in
            let before = token_at (way_of p o) span own (at - 1) (omega (arith, low)) (omega (arith, high)) in
            let same : here.0 ≡ found.item = some_same here.0 found.item (sym here.1 ∙ ap (slice_get tokens) (omega (arith, place)) ∙ found.is) in
            let step = step_is prefix (argument p o) in
            let passes : later part here.0 ≡ true = ap (later part) same ∙ found.passes in
            let behind = (and_parts (begins prefix here.0.trail) (is_behind part (part_by expansions definition here.0.place (slice_get here.0.trail (length prefix)))) passes).1 in
            let told : is_behind part (part_named (named_in definition) p o) ≡ true =
            ap (λ (m : Option Mark). is_behind part (part_by expansions definition here.0.place m)) (sym (step here.0.trail here.2)) ∙ behind in
            absurd (found.before (at - 1) before.0 (omega (arith, low, place)) before.1
            (and_from (begins prefix before.0.trail) (is_behind part (part_by expansions definition before.0.place (slice_get before.0.trail (length prefix)))) (of_run p o before.0 before.2)
            (ap (λ (m : Option Mark). is_behind part (part_by expansions definition before.0.place m)) (step before.0.trail before.2) ∙ told)))

    empties : (one other : Span) (m n : ℕ) → one ≡ empty_at m → other ≡ empty_at n → IsBeside one other
    empties one other m n e k =
        let a = ap (λ (s : Span). s.first) e in
        let b = ap (λ (s : Span). s.after) e in
        let c = ap (λ (s : Span). s.first) k in
        let d = ap (λ (s : Span). s.after) k in
        by_order a b c d (below_or m n)
      where
        by_order : one.first ≡ m → one.after ≡ m → other.first ≡ n → other.after ≡ n → (m < n) ⊎ (n ≤ m) → IsBeside one other
        by_order a b c d (inl h) = inl (omega (arith, b, c, h))
        by_order a b c d (inr h) = inr (omega (arith, a, d, h))

    empty_beside : (span other : Span) (n : ℕ) → other ≡ empty_at n → (n ≤ span.first) ⊎ (span.after ≤ n) → IsBeside span other
    empty_beside span other n e (inl h) = let d = ap (λ (s : Span). s.after) e in inr (omega (arith, d, h))
    empty_beside span other n e (inr h) = let c = ap (λ (s : Span). s.first) e in inl (omega (arith, c, h))

    swapped : (one other : Span) → IsBeside one other → IsBeside other one
    swapped one other (inl h) = inr h
    swapped one other (inr h) = inl h

    -- a token of one isn't in the other
    scattered_beside : (p o q k : ℕ) → (p ≡ q → o ≡ k → ⊥) → (span : Span) → span.first < span.after → Filled (way_of p o) tokens span → (m : ℕ) (token : CToken)
        → slice_get tokens m ≡ Some token → begins (way_of q k) token.trail ≡ true → (m ≤ span.first) ⊎ (span.after ≤ m)
    scattered_beside p o q k apart span more own m token is of = by_low (below_or m span.first) (below_or m span.after)
      where
        by_low : (m < span.first) ⊎ (span.first ≤ m) → (m < span.after) ⊎ (span.after ≤ m) → (m ≤ span.first) ⊎ (span.after ≤ m)
        by_low (inl low) high = inl (omega (arith, low))
        by_low (inr low) (inr high) = inr high
        by_low (inr low) (inl high) = absurd (of_no_other p o q k apart token (own.under.all m token is low high) of)

    both_filled : (p o q k : ℕ) → (p ≡ q → o ≡ k → ⊥) → (one other : Span) → one.first < one.after → Filled (way_of p o) tokens one → other.first < other.after
        → Filled (way_of q k) tokens other → one.first ≤ other.first → IsBeside one other
    both_filled p o q k apart one other more own further its order =
        let it = token_at (way_of q k) other its other.first (omega arith) further in
        by_place it (scattered_beside p o q k apart one more own other.first it.0 it.1 it.2)
      where
        by_place : (token : CToken) × (slice_get tokens other.first ≡ Some token) × (begins (way_of q k) token.trail ≡ true) → (other.first ≤ one.first) ⊎ (one.after ≤ other.first) → IsBeside one other
        by_place it (inr high) = inl high
        by_place it (inl low) = absurd (of_no_other p o q k apart it.0 (own.under.all other.first it.0 it.1 order (omega (arith, low, more))) it.2)

    filled_beside : (p o q k : ℕ) → (p ≡ q → o ≡ k → ⊥) → (one other : Span) → one.first < one.after → Filled (way_of p o) tokens one → other.first < other.after
        → Filled (way_of q k) tokens other → IsBeside one other
    filled_beside p o q k apart one other more own further its = by_order (below_or one.first other.first)
      where
        by_order : (one.first < other.first) ⊎ (other.first ≤ one.first) → IsBeside one other
        by_order (inl h) = both_filled p o q k apart one other more own further its (omega (arith, h))
        by_order (inr h) = swapped other one (both_filled q k p o (λ e f. apart (sym e) (sym f)) other one further its more own h)

    beside : (p o q k : ℕ) → (p ≡ q → o ≡ k → ⊥) → (first second at to : ℕ) → IsWould first at → IsWould second to → (one other : Span)
        → Stands (way_of p o) tokens at one → Stands (way_of q k) tokens to other → IsBeside one other
    beside p o q k apart first second at to here there one other (none e) (none f) = empties one other at to e f
    beside p o q k apart first second at to here there one other (none e) (scattered m token f is of) = empties one other at m e f
    beside p o q k apart first second at to here there one other (none e) (filled more own) =
        swapped other one (empty_beside other one at e (outside q k other more own first at here))
    beside p o q k apart first second at to here there one other (scattered n token e is of) (none f) = empties one other n to e f
    beside p o q k apart first second at to here there one other (scattered n token e is of) (scattered m second_token f is_it of_it) = empties one other n m e f
    beside p o q k apart first second at to here there one other (scattered n token e is of) (filled more own) =
        swapped other one (empty_beside other one n e (scattered_beside q k p o (λ a b. apart (sym a) (sym b)) other more own n token is of))
    beside p o q k apart first second at to here there one other (filled more own) (none f) = empty_beside one other to f (outside p o one more own second to there)
    beside p o q k apart first second at to here there one other (filled more own) (scattered m token f is of) =
        empty_beside one other m f (scattered_beside p o q k apart one more own m token is of)
    beside p o q k apart first second at to here there one other (filled more own) (filled further its) = filled_beside p o q k apart one other more own further its

-- ---- runs

all_mapped : {A B : Type 0} (P : B → Type 0) (f : A → B) (items : List A) → AllByRecursion (λ x. P (f x)) items → AllByRecursion P (map f items)
all_mapped P f [] h = tt
all_mapped P f (x ∷ items) h = (h.0, all_mapped P f items h.1)

all_given : {A : Type 0} (P Q : A → Type 0) → ((x : A) → P x → Q x) → (items : List A) → AllByRecursion P items → AllByRecursion Q items
all_given P Q f [] h = tt
all_given P Q f (x ∷ items) h = (f x h.0, all_given P Q f items h.1)

all_of : {A : Type 0} (P : A → Type 0) → ((x : A) → P x) → (items : List A) → AllByRecursion P items
all_of P f [] = tt
all_of P f (x ∷ items) = (f x, all_of P f items)

all_beside : {A : Type 0} (span : A → Span) (R : A → A → Type 0) → ((x y : A) → R x y → IsBeside (span x) (span y)) → (items : List A) → Pairs items R → AreBeside (map span items)
all_beside span R f [] h = tt
all_beside span R f (x ∷ items) h = (all_mapped (IsBeside (span x)) span items (all_given (R x) (λ y. IsBeside (span x) (span y)) (f x) items h.0), all_beside span R f items h.1)

map_twice : {A B C : Type 0} (f : A → B) (g : B → C) (items : List A) → map g (map f items) ≡ map (λ x. g (f x)) items
map_twice f g [] = refl
map_twice f g (x ∷ items) = ap (λ ys. g (f x) ∷ ys) (map_twice f g items)

module _ (expansions : List Expansion) (tokens : List CToken) (definition : Definition) (prefix : List Mark) (elsewhere : ℕ) where
  abbrev run_span : Span
  run_span = span_of elsewhere (tokens_under prefix tokens)

  abbrev Parts : List Span → Type 0
  Parts spans = AllByRecursion (IsWithin run_span) spans × AreBeside spans

  all_inside : is_empty run_span ≡ false → run_span.first < run_span.after → Filled prefix tokens run_span
      → Parts (map (λ named. (occurrence_in expansions tokens definition prefix run_span named).span) (named_in definition))
  all_inside some more full = (
    all_mapped (IsWithin run_span) _ (named_in definition) (all_of _ (λ named.
        subst (λ (b : Bool). IsWithin run_span (if b then run_span else span_of (would_stand expansions tokens definition prefix run_span.after named.at)
        (tokens_under (prefix ++ argument named.parameter named.occurrence ∷ []) tokens))) (sym some)
        (within expansions tokens definition prefix run_span full more named.parameter named.occurrence named.at (would_stand expansions tokens definition prefix run_span.after named.at)
        (would expansions tokens definition prefix run_span named.at) (_)
        (span_stands (prefix ++ argument named.parameter named.occurrence ∷ []) tokens (would_stand expansions tokens definition prefix run_span.after named.at)))) (named_in definition)),
    all_beside _ _ (λ named other apart.
        subst (λ (b : Bool). IsBeside (if b then run_span else span_of (would_stand expansions tokens definition prefix run_span.after named.at)
        (tokens_under (prefix ++ argument named.parameter named.occurrence ∷ []) tokens)) (if b then run_span else span_of (would_stand expansions tokens definition prefix run_span.after other.at)
        (tokens_under (prefix ++ argument other.parameter other.occurrence ∷ []) tokens))) (sym some)
        (beside expansions tokens definition prefix run_span full more named.parameter named.occurrence other.parameter other.occurrence apart named.at other.at
        (would_stand expansions tokens definition prefix run_span.after named.at) (would_stand expansions tokens definition prefix run_span.after other.at)
        (would expansions tokens definition prefix run_span named.at) (would expansions tokens definition prefix run_span other.at) (_) (_)
        (span_stands (prefix ++ argument named.parameter named.occurrence ∷ []) tokens (would_stand expansions tokens definition prefix run_span.after named.at))
        (span_stands (prefix ++ argument other.parameter other.occurrence ∷ []) tokens (would_stand expansions tokens definition prefix run_span.after other.at)))) (named_in definition)
        (named_apart definition),
  )

  -- in an empty run all are where the run is
  all_empty : is_empty run_span ≡ true → run_span.first ≡ run_span.after
      → Parts (map (λ named. (occurrence_in expansions tokens definition prefix run_span named).span) (named_in definition))
  all_empty empty same = (
    all_mapped (IsWithin run_span) _ (named_in definition) (all_of _ (λ named.
        subst (λ (b : Bool). IsWithin run_span (if b then run_span else span_of (would_stand expansions tokens definition prefix run_span.after named.at)
        (tokens_under (prefix ++ argument named.parameter named.occurrence ∷ []) tokens))) (sym empty) (omega arith, omega (arith, same), omega arith)) (named_in definition)),
    all_beside _ _ (λ named other apart.
        subst (λ (b : Bool). IsBeside (if b then run_span else span_of (would_stand expansions tokens definition prefix run_span.after named.at)
        (tokens_under (prefix ++ argument named.parameter named.occurrence ∷ []) tokens)) (if b then run_span else span_of (would_stand expansions tokens definition prefix run_span.after other.at)
        (tokens_under (prefix ++ argument other.parameter other.occurrence ∷ []) tokens))) (sym empty) (inl (omega (arith, same)))) (named_in definition) (named_apart definition),
  )

  parts_apart : Parts (map (λ named. (occurrence_in expansions tokens definition prefix run_span named).span) (named_in definition))
  parts_apart = by_empty (is_empty run_span) refl (span_stands prefix tokens elsewhere)
    where
      no_empty : is_empty run_span ≡ false → (n : ℕ) → run_span ≡ empty_at n → ⊥
      no_empty some n e =
          let first = ap (λ (s : Span). s.first) e in
          let after = ap (λ (s : Span). s.after) e in
          true≢false (sym (eq-eqb run_span.first run_span.after (omega (arith, first, after))) ∙ some)

      by_empty : (b : Bool) → is_empty run_span ≡ b → Stands prefix tokens elsewhere run_span
          → Parts (map (λ named. (occurrence_in expansions tokens definition prefix run_span named).span) (named_in definition))
      by_empty true is stands = all_empty is (eqb-true run_span.first run_span.after is)
      by_empty false is (none e) = absurd (no_empty is elsewhere e)
      by_empty false is (scattered m token e at of) = absurd (no_empty is m e)
      by_empty false is (filled more full) = all_inside is more full

one_apart : (pp : UnitTokens) (tokens : List CToken) (definition : Definition) (prefix : List Mark) → HasPartsApart (run_of pp tokens definition prefix)
one_apart pp tokens definition prefix =
    let span = span_of (first_part pp.tokens prefix) (tokens_under prefix tokens) in
    subst (λ (spans : List Span). AllByRecursion (IsWithin span) spans × AreBeside spans)
    (sym (map_twice (occurrence_in pp.expansions tokens definition prefix span) (λ (one : Occurrence). one.span) (named_in definition)))
    (parts_apart pp.expansions tokens definition prefix (first_part pp.tokens prefix))

if_apart : (pp : UnitTokens) (tokens : List CToken) (file hash : ℕ) (prefix : List Mark) (o : Option Definition) → AllByRecursion HasPartsApart (run_if pp tokens file hash prefix o)
if_apart pp tokens file hash prefix None = tt
if_apart pp tokens file hash prefix (Some definition) = by_place (is_at file hash definition)
  where
    by_place : (b : Bool) → AllByRecursion HasPartsApart (if b then run_of pp tokens definition prefix ∷ [] else [])
    by_place true = (one_apart pp tokens definition prefix, tt)
    by_place false = tt

all_append : {A : Type 0} (P : A → Type 0) (front back : List A) → AllByRecursion P front → AllByRecursion P back → AllByRecursion P (front ++ back)
all_append P [] back h k = k
all_append P (x ∷ front) back h k = (h.0, all_append P front back h.1 k)

all_flat : {A B : Type 0} (Q : B → Type 0) (g : A → List B) → ((x : A) → AllByRecursion Q (g x)) → (xs : List A) → AllByRecursion Q (flat_map g xs)
all_flat Q g each [] = tt
all_flat Q g each (x ∷ xs) = all_append Q (g x) (flat_map g xs) (each x) (all_flat Q g each xs)

pub runs_apart : (pp : UnitTokens) (tokens : List CToken) (file hash : ℕ) → AllByRecursion HasPartsApart (runs_of pp tokens file hash)
runs_apart pp tokens file hash =
    all_flat HasPartsApart (λ trail. run_if pp tokens file hash trail (expanded pp.read (last_mark trail)))
    (λ trail. if_apart pp tokens file hash trail (expanded pp.read (last_mark trail))) (met (map (λ (token : Token). token.trail) pp.tokens))
