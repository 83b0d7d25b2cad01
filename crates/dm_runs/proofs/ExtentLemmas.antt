-- One more token extends the extents of the beginnings of its trail.
use Rattle.std.proofs.Common.{◌≡◌, ◌≢◌, ℕ, zero, suc, ◌+◌, ◌-◌, ◌<◌, ◌≤◌, Bool, true, false, cond, ◌&&◌, ◌⊎◌, inl, inr, List, [], ◌∷◌, ◌++◌, length, map, take, Option, Some, None, slice_get, get_or, set, replicate, nat_lt, refl, sym, ap, ◌∙◌, subst, arith, fold, append_assoc, add-one, add-zero, zero-add}
use Rattle.std.specs.List.{list_any, flat_map}
use Rattle.std.specs.Option.{option_map}
use Rattle.std.proofs.lemmas.Bool.{lt-ltb, le-ltb, ltb-true, ltb-false, false≢true}
use Rattle.std.proofs.lemmas.Option.{slice_get_within, slice_get-map, get_or_from_slice_get}
use Rattle.std.proofs.lemmas.List.{append-nil, length-take, length-map, length-append, take_more, take_all, map-append}
use Rattle.std.proofs.lemmas.List.Sums.{fold_push, fold-append}
use Rattle.std.proofs.lemmas.Grind.{flat_map-append}
use Rattle.std.proofs.lemmas.Simd.{splat_is_map}
use Rattle.std.proofs.Math.Seq.{take-length}
use Rattle.dm_token.specs.declared.expansion.Mark.{Mark}
use Rattle.dm_token.specs.declared.token.CToken.{CToken}
use Rattle.dm_token.specs.Equal.{equal}
use Rattle.dm_runs.specs.declared.extents.Extent.{Extent}
use Rattle.dm_runs.specs.Beginnings.{begins, beginnings_of, once_more}
use Rattle.dm_runs.specs.Extents.{extended, extended_at, extent_of}
use Rattle.dm_runs.specs.Spans.{positions, tokens_under}
use Rattle.dm_runs.specs.Trees.{AreNumbers}
use Rattle.dm_runs.proofs.ItemLemmas.{some-same, any-at}
use Rattle.dm_runs.proofs.BeginningLemmas.{map-push}
use Rattle.dm_runs.proofs.GrowthLemmas.{Grown, grown, Covers, covers-step, begins-length, begins-take, take-begins}

-- f and g agree on the items of a list
pub map-same : {A B : Type 0} (f g : A → B) (xs : List A) → ((k : ℕ) (x : A) → slice_get xs k ≡ Some x → f x ≡ g x) → map f xs ≡ map g xs
map-same f g [] same = refl
map-same f g (x ∷ xs) same =
    let head : f x ≡ g x = same 0 x refl in
    let rest : map f xs ≡ map g xs = map-same f g xs (λ k y is. same (suc k) y is) in
    cc

-- one item is seen otherwise
set-map : {A B : Type 0} (f g : A → B) (xs : List A) (k : ℕ) (x : A) (v : B) → slice_get xs k ≡ Some x → g x ≡ v
    → ((j : ℕ) (y : A) → slice_get xs j ≡ Some y → (j ≡ k → ⊥) → f y ≡ g y) → set (map f xs) k v ≡ map g xs
set-map f g [] k x v is here others = cc
set-map f g (y ∷ xs) zero x v is here others =
    let head : v ≡ g y = sym here ∙ ap g (sym (some-same y x is)) in
    let rest : map f xs ≡ map g xs = map-same f g xs (λ j z at. others (suc j) z at (λ e. omega (arith, e))) in
    cc
set-map f g (y ∷ xs) (suc k) x v is here others =
    let head : f y ≡ g y = others 0 y refl (λ e. omega (arith, e)) in
    let rest : set (map f xs) k v ≡ map g xs = set-map f g xs k x v is here (λ j z at apart. others (suc j) z at (λ e. apart (omega (arith, e)))) in
    cc

-- those of the first i marks, and no longer ones
abbrev so_far : (List Mark → Option Extent) → List Mark → ℕ → ℕ → List Mark → Option Extent
so_far f t n i p = cond (begins p t && nat_lt (length p) i) (extended (f p) n) (f p)

and-false : (b : Bool) → (b && false) ≡ false
and-false true = refl
and-false false = refl

below : (m i : ℕ) → (m ≡ i → ⊥) → i ≤ m → i + 1 ≤ m
below m i apart le = omega (arith, le, apart)

nat_lt-other : (m i : ℕ) → (m ≡ i → ⊥) → nat_lt m (i + 1) ≡ nat_lt m i
nat_lt-other m i apart =
    elim (nat_lt m i) as (λ b. nat_lt m i ≡ b → nat_lt m (i + 1) ≡ b) [
      | true ↦ λ e. lt-ltb m (i + 1) (omega (arith, ltb-true m i e))
      | false ↦ λ e. le-ltb m (i + 1) (below m i apart (ltb-false m i e))
    ] refl

module _ (found : List (List Mark)) (apart : (i j : ℕ) (trail : List Mark) → slice_get found i ≡ Some trail → slice_get found j ≡ Some trail → i ≡ j)
    (f : List Mark → Option Extent) (t : List Mark) (n : ℕ) (numbers : List ℕ) (are : AreNumbers found t numbers) where
  same-other : (i : ℕ) (k : ℕ) → slice_get found k ≡ Some (take i t) → (j : ℕ) (p : List Mark) → slice_get found j ≡ Some p → (j ≡ k → ⊥) → so_far f t n i p ≡ so_far f t n (i + 1) p
  same-other i k known j p is other =
      elim (begins p t) as (λ b. begins p t ≡ b → cond (b && nat_lt (length p) i) (extended (f p) n) (f p) ≡ cond (b && nat_lt (length p) (i + 1)) (extended (f p) n) (f p)) [
        | true ↦ λ e. ap (λ b. cond b (extended (f p) n) (f p)) (sym (nat_lt-other (length p) i (λ l. other (apart j k p is (known ∙ ap Some (sym (begins-take p t e ∙ ap (λ m. take m t) l)))))))
        | false ↦ λ e. refl
      ] refl

  here-before : (i : ℕ) → i ≤ length t → so_far f t n i (take i t) ≡ f (take i t)
  here-before i le =
      let no : nat_lt (length (take i t)) i ≡ false = le-ltb (length (take i t)) i (omega (arith, length-take i t)) in
      ap (λ b. cond (begins (take i t) t && b) (extended (f (take i t)) n) (f (take i t))) no
      ∙ ap (λ b. cond b (extended (f (take i t)) n) (f (take i t))) (and-false (begins (take i t) t))

  here-after : (i : ℕ) → i ≤ length t → so_far f t n (i + 1) (take i t) ≡ extended (f (take i t)) n
  here-after i le =
      let yes : nat_lt (length (take i t)) (i + 1) ≡ true = lt-ltb (length (take i t)) (i + 1) (omega (arith, length-take i t)) in
      ap (λ b. cond (b && nat_lt (length (take i t)) (i + 1)) (extended (f (take i t)) n) (f (take i t))) (take-begins (take i t) t i le refl)
      ∙ ap (λ b. cond b (extended (f (take i t)) n) (f (take i t))) yes

  extended-up-to : (i : ℕ) → i ≤ length numbers → fold (extended_at n) (map f found) (take i numbers) ≡ map (so_far f t n i) found
  extended-up-to zero le = map-same f (so_far f t n 0) found (λ k p is.
      sym (ap (λ b. cond (begins p t && b) (extended (f p) n) (f p)) (le-ltb (length p) 0 (omega arith)) ∙ ap (λ b. cond b (extended (f p) n) (f p)) (and-false (begins p t))))
  extended-up-to (suc i) le =
      let k = get_or numbers i 0 in
      let inside : i < length numbers = omega (arith, le) in
      let low : i ≤ length t = omega (arith, inside, are.counted) in
      let known = are.known i inside in
      let old : get_or (map (so_far f t n i) found) k None ≡ f (take i t) =
      get_or_from_slice_get (map (so_far f t n i) found) k (f (take i t)) None (slice_get-map (so_far f t n i) found k ∙ ap (option_map (so_far f t n i)) known ∙ ap Some (here-before i low)) in
      ap (fold (extended_at n) (map f found)) (ap (λ m. take m numbers) (sym (add-one i)) ∙ take_more numbers i 0 inside)
      ∙ fold_push (extended_at n) (map f found) (take i numbers) k
      ∙ ap (λ es. extended_at n es k) (extended-up-to i (omega (arith, le)))
      ∙ ap (λ e. set (map (so_far f t n i) found) k (extended e n)) old
      ∙ set-map (so_far f t n i) (so_far f t n (i + 1)) found k (take i t) (extended (f (take i t)) n) known (here-after i low) (same-other i k known)
      ∙ ap (λ m. map (so_far f t n m) found) (add-one i)

  pub extended-all : fold (extended_at n) (map f found) numbers ≡ map (λ p. cond (begins p t) (extended (f p) n) (f p)) found
  extended-all =
      ap (fold (extended_at n) (map f found)) (sym (take-length numbers)) ∙ extended-up-to (length numbers) (omega arith)
      ∙ map-same (so_far f t n (length numbers)) (λ p. cond (begins p t) (extended (f p) n) (f p)) found
      (λ k p is. elim (begins p t) as (λ b. begins p t ≡ b → cond (b && nat_lt (length p) (length numbers)) (extended (f p) n) (f p) ≡ cond b (extended (f p) n) (f p)) [
        | true ↦ λ e. ap (λ b. cond b (extended (f p) n) (f p)) (lt-ltb (length p) (length numbers) (omega (arith, begins-length p t e, are.counted)))
        | false ↦ λ e. refl
      ] refl)

-- ---- positions

cons-cond : (b : Bool) (n : ℕ) (xs ys : List ℕ) → n ∷ cond b xs ys ≡ cond b (n ∷ xs) (n ∷ ys)
cons-cond true n xs ys = refl
cons-cond false n xs ys = refl

pub positions-push : {A : Type 0} (test : A → Bool) (n : ℕ) (xs : List A) (x : A) → positions test n (xs ++ x ∷ []) ≡ cond (test x) (positions test n xs ++ (n + length xs) ∷ []) (positions test n xs)
positions-push test n [] x = ap (λ m. cond (test x) (m ∷ []) []) (sym (add-zero n))
positions-push test n (y ∷ xs) x =
    let more : positions test (suc n) (xs ++ x ∷ []) ≡ cond (test x) (positions test (suc n) xs ++ (n + suc (length xs)) ∷ []) (positions test (suc n) xs) =
    positions-push test (suc n) xs x ∙ ap (λ m. cond (test x) (positions test (suc n) xs ++ m ∷ []) (positions test (suc n) xs)) (omega arith) in
    elim (test y) as (λ b. cond b (n ∷ positions test (suc n) (xs ++ x ∷ [])) (positions test (suc n) (xs ++ x ∷ []))
    ≡ cond (test x) (cond b (n ∷ positions test (suc n) xs) (positions test (suc n) xs) ++ (n + suc (length xs)) ∷ []) (cond b (n ∷ positions test (suc n) xs) (positions test (suc n) xs))) [
      | true ↦ ap (λ ps. n ∷ ps) more ∙ cons-cond (test x) n (positions test (suc n) xs ++ (n + suc (length xs)) ∷ []) (positions test (suc n) xs)
      | false ↦ more
    ]

pub positions-none : {A : Type 0} (test : A → Bool) (n : ℕ) (xs : List A) → ((k : ℕ) (x : A) → slice_get xs k ≡ Some x → test x ≡ false) → positions test n xs ≡ []
positions-none test n [] none = refl
positions-none test n (x ∷ xs) none =
    ap (λ b. cond b (n ∷ positions test (suc n) xs) (positions test (suc n) xs)) (none 0 x refl) ∙ positions-none test (suc n) xs (λ k y is. none (suc k) y is)

abbrev pub extent_in : List CToken → List Mark → Option Extent
extent_in tokens p = extent_of (tokens_under p tokens)

pub extent-push : (tokens : List CToken) (token : CToken) (p : List Mark)
    → cond (begins p token.trail) (extended (extent_in tokens p) (length tokens)) (extent_in tokens p) ≡ extent_in (tokens ++ token ∷ []) p
extent-push tokens token p =
    let test : CToken → Bool = λ (one : CToken). begins p one.trail in
    elim (begins p token.trail) as (λ b. begins p token.trail ≡ b → cond b (extended (extent_in tokens p) (length tokens)) (extent_in tokens p) ≡ extent_in (tokens ++ token ∷ []) p) [
      | true ↦ λ e. sym (ap extent_of (positions-push test 0 tokens token ∙ ap (λ b. cond b (positions test 0 tokens ++ (0 + length tokens) ∷ []) (positions test 0 tokens)) e ∙ ap (λ n. positions test 0 tokens ++ n ∷ []) (zero-add (length tokens)))
          ∙ fold_push extended None (positions test 0 tokens) (length tokens))
      | false ↦ λ e. sym (ap extent_of (positions-push test 0 tokens token ∙ ap (λ b. cond b (positions test 0 tokens ++ (0 + length tokens) ∷ []) (positions test 0 tokens)) e))
    ] refl

abbrev pub trails_of : List CToken → List (List Mark)
trails_of tokens = map (λ (token : CToken). token.trail) tokens

-- what isn't covered has no tokens
pub extent-absent : (found : List (List Mark)) (tokens : List CToken) → Covers found (trails_of tokens) → (p : List Mark) → list_any (equal p) found ≡ false → extent_in tokens p ≡ None
extent-absent found tokens covers p absent =
    ap extent_of (positions-none (λ (one : CToken). begins p one.trail) 0 tokens (λ k token is.
    elim (begins p token.trail) as (λ b. begins p token.trail ≡ b → b ≡ false) [
      | true ↦ λ e. absurd (false≢true (sym absent ∙ covers p k token.trail (slice_get-map (λ (one : CToken). one.trail) tokens k ∙ ap (option_map (λ (one : CToken). one.trail)) is) e))
      | false ↦ λ e. refl
    ] refl))

-- ---- a longer list

pub filled : {B : Type 0} (found ps whole : List (List Mark)) (f g : List Mark → B) (v : B) → Grown found ps whole
    → ((k : ℕ) (p : List Mark) → slice_get found k ≡ Some p → f p ≡ g p) → ((p : List Mark) → list_any (equal p) found ≡ false → list_any (equal p) ps ≡ true → g p ≡ v)
    → take (length whole) (map f found) ++ replicate (length whole - length (map f found)) v ≡ map g whole
filled found ps whole f g v grown old new =
    let news = grown.news in
    let count : length whole ≡ length found + length news = ap length grown.is ∙ length-append found news in
    let front : take (length whole) (map f found) ≡ map f found = take_all (length whole) (map f found) (omega (arith, count, length-map found f)) in
    let rest : length whole - length (map f found) ≡ length news = omega (arith, count, length-map found f) in
    ap (λ xs. xs ++ replicate (length whole - length (map f found)) v) front
    ∙ ap (λ m. map f found ++ replicate m v) rest
    ∙ ap (λ xs. map f found ++ xs) (splat_is_map news (length news) v refl ∙ map-same (λ p. v) g news (λ k p is. sym (new p (grown.fresh k p is) (grown.from k p is))))
    ∙ ap (λ xs. xs ++ map g news) (map-same f g found old)
    ∙ sym (map-append g found news)
    ∙ ap (map g) (sym grown.is)

-- what is put behind found beginnings
pub flat-fold : {A : Type 0} (f : A → List (List Mark)) (before : List (List Mark)) (xs : List A) (x : A)
    → fold once_more (fold once_more before (flat_map f xs)) (f x) ≡ fold once_more before (flat_map f (xs ++ x ∷ []))
flat-fold f before xs x =
    sym (ap (fold once_more before) (flat_map-append f xs (x ∷ []) ∙ ap (λ ys. flat_map f xs ++ ys) (append-nil (f x))) ∙ fold-append once_more before (flat_map f xs) (f x))

pub root-is-there : (found : List (List Mark)) → slice_get found 0 ≡ Some [] → list_any (equal []) found ≡ true
root-is-there found root = any-at (equal []) found 0 [] root refl

pub extents-step : (found whole : List (List Mark)) (tokens : List CToken) (token : CToken) (numbers : List ℕ)
    → ((i j : ℕ) (trail : List Mark) → slice_get whole i ≡ Some trail → slice_get whole j ≡ Some trail → i ≡ j)
    → whole ≡ fold once_more found (beginnings_of token.trail) → Covers found (trails_of tokens) → AreNumbers whole token.trail numbers
    → fold (extended_at (length tokens)) (take (length whole) (map (extent_in tokens) found) ++ replicate (length whole - length (map (extent_in tokens) found)) None) numbers
    ≡ map (extent_in (tokens ++ token ∷ [])) whole
extents-step found whole tokens token numbers apart is covers are =
    ap (λ es. fold (extended_at (length tokens)) es numbers)
    (filled found (beginnings_of token.trail) whole (extent_in tokens) (extent_in tokens) None (subst (Grown found (beginnings_of token.trail)) (sym is) (grown found (beginnings_of token.trail)))
    (λ k p at. refl) (λ p absent from. extent-absent found tokens covers p absent))
    ∙ extended-all whole apart (extent_in tokens) token.trail (length tokens) numbers are
    ∙ map-same _ _ whole (λ k p at. extent-push tokens token p)

pub covers-more : (found whole : List (List Mark)) (tokens : List CToken) (token : CToken) → slice_get found 0 ≡ Some [] → whole ≡ fold once_more found (beginnings_of token.trail)
    → Covers found (trails_of tokens) → Covers whole (trails_of (tokens ++ token ∷ []))
covers-more found whole tokens token root is covers =
    subst (λ w. Covers w (trails_of (tokens ++ token ∷ []))) (sym is)
    (subst (Covers (fold once_more found (beginnings_of token.trail))) (sym (map-push (λ (one : CToken). one.trail) tokens token))
    (covers-step found (trails_of tokens) token.trail (root-is-there found root) covers))
