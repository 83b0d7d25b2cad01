-- Lists by directives.
use Rattle.std.proofs.Common.{◌≡◌, ℕ, zero, suc, ◌+◌, ◌<◌, ◌≤◌, Bool, true, false, not, cond, ◌&&◌, List, [], ◌∷◌, ◌++◌, length, Option, Some, None, slice_get, get_or, set, refl, sym, ap, ◌∙◌, subst, arith, add-zero, length-append}
use Rattle.std.specs.Prelude.{find}
use Rattle.std.specs.Bool.{◌==◌}
use Rattle.std.specs.List.{list_any, position_or_len}
use Rattle.std.proofs.lemmas.Bool.{and_parts, and_from, eqb-true, eq-eqb, false≢true, cond-true, cond-false}
use Rattle.std.proofs.lemmas.List.{append-nil, get_or_append_left, get_or_past, get_or-set_same, get_or-set_other}
use Rattle.std.proofs.lemmas.List.Folds.{find_at, position_or_len_push}
use Rattle.std.proofs.lemmas.List.Sums.{prefix_len-le-length}
use Rattle.std.proofs.lemmas.Option.{slice_get-get_or}
use Rattle.dm_runs.specs.declared.by_directive.Directive.{Directive}
use Rattle.dm_runs.specs.Listings.{same, listed}
use Rattle.dm_runs.proofs.ItemLemmas.{some-same}

pub same-directive : (a b : Directive) → same a b ≡ true → a ≡ b
same-directive a b e =
    let parts = and_parts (a.file == b.file) (a.hash == b.hash) e in
    let files : a.file ≡ b.file = eqb-true a.file b.file parts.0 in
    let hashes : a.hash ≡ b.hash = eqb-true a.hash b.hash parts.1 in
    ap (λ (f : ℕ). let d : Directive = record { file = f; hash = a.hash } in d) files ∙ ap (λ (h : ℕ). let d : Directive = record { file = b.file; hash = h } in d) hashes

pub directive-itself : (a : Directive) → same a a ≡ true
directive-itself a = and_from (a.file == a.file) (a.hash == a.hash) (eq-eqb a.file a.file refl) (eq-eqb a.hash a.hash refl)

find-passes : {A : Type 0} (test : A → Bool) (xs : List A) (x : A) → find test xs ≡ Some x → test x ≡ true
find-passes test [] x e = cc
find-passes test (y ∷ xs) x e =
    elim (test y) as (λ b. test y ≡ b → cond b (Some y) (find test xs) ≡ Some x → test x ≡ true) [
      | true ↦ λ is f. ap test (sym (some-same y x f)) ∙ is
      | false ↦ λ is f. find-passes test xs x f
    ] refl e

-- the item at the first position passes
at-position : {A : Type 0} (test : A → Bool) (xs : List A) (x : A) → slice_get xs (position_or_len test xs) ≡ Some x → test x ≡ true
at-position test xs x is = find-passes test xs x (find_at test xs ∙ is)

position-low : {A : Type 0} (test : A → Bool) (xs : List A) → position_or_len test xs ≤ length xs
position-low test xs = prefix_len-le-length (λ x. not (test x)) xs

apart : (a b : ℕ) → (a == b) ≡ false → (a ≡ b → ⊥)
apart a b e same_number = false≢true (sym e ∙ eq-eqb a b same_number)

behind-all : {A : Type 0} (lists : List (List A)) (i : ℕ) → length lists ≤ i → get_or (lists ++ [] ∷ []) i [] ≡ []
behind-all [] zero le = refl
behind-all [] (suc i) le = get_or_past ([] ∷ []) (suc i) [] (omega arith)
behind-all (x ∷ lists) zero le = absurd (omega (arith, le))
behind-all (x ∷ lists) (suc i) le = behind-all lists i (omega (arith, le))

-- an empty list for one more directive
pub listed-push : {A : Type 0} (directives : List Directive) (lists : List (List A)) (one q : Directive) → length lists ≡ length directives
    → get_or (lists ++ [] ∷ []) (position_or_len (same q) (directives ++ one ∷ [])) [] ≡ get_or lists (position_or_len (same q) directives) []
listed-push directives lists one q even =
    let place = position_or_len (same q) directives in
    let low : place ≤ length directives = position-low (same q) directives in
    ap (λ i. get_or (lists ++ [] ∷ []) i []) (position_or_len_push (same q) directives one)
    ∙ elim (place == length directives) as (λ b. (place == length directives) ≡ b → get_or (lists ++ [] ∷ []) (cond b (length directives + cond (same q one) 0 1) place) [] ≡ get_or lists place []) [
      | true ↦ λ e.
          let at : place ≡ length directives = eqb-true place (length directives) e in
          behind-all lists (length directives + cond (same q one) 0 1) (omega (arith, even)) ∙ sym (get_or_past lists place [] (omega (arith, even, at)))
      | false ↦ λ e.
          get_or_append_left lists ([] ∷ []) [] place (omega (arith, even, low, apart place (length directives) e))
    ] refl

position-kept : (directives : List Directive) (one : Directive) → position_or_len (same one) (directives ++ one ∷ []) ≡ position_or_len (same one) directives
position-kept directives one =
    let place = position_or_len (same one) directives in
    position_or_len_push (same one) directives one
    ∙ elim (place == length directives) as (λ b. (place == length directives) ≡ b → cond b (length directives + cond (same one one) 0 1) place ≡ place) [
      | true ↦ λ e. ap (λ b. length directives + cond b 0 1) (directive-itself one) ∙ add-zero (length directives) ∙ sym (eqb-true place (length directives) e)
      | false ↦ λ e. refl
    ] refl

-- the same items, and a place for a directive
pub record Placed {A : Type 0} (directives more : List Directive) (lists longer : List (List A)) (one : Directive) : Type 0 where
  pub even : length longer ≡ length more
  pub kept : (q : Directive) → get_or longer (position_or_len (same q) more) [] ≡ get_or lists (position_or_len (same q) directives) []
  pub first : position_or_len (same one) more ≡ position_or_len (same one) directives

pub placed-new : {A : Type 0} (directives more : List Directive) (lists longer : List (List A)) (one : Directive) → length lists ≡ length directives
    → list_any (same one) directives ≡ false → more ≡ cond (list_any (same one) directives) directives (directives ++ one ∷ []) → longer ≡ lists ++ [] ∷ [] → Placed directives more lists longer one
placed-new directives more lists longer one even absent is pushed =
    let ending : more ≡ directives ++ one ∷ [] = is ∙ cond-false (list_any (same one) directives) directives (directives ++ one ∷ []) absent in
    record {
      even = ap length pushed ∙ length-append lists ([] ∷ []) ∙ ap (λ n. n + 1) even ∙ sym (ap length ending ∙ length-append directives (one ∷ []));
      kept = λ q. ap (λ (ds : List Directive). get_or longer (position_or_len (same q) ds) []) ending
          ∙ ap (λ ls. get_or ls (position_or_len (same q) (directives ++ one ∷ [])) []) pushed ∙ listed-push directives lists one q even;
      first = ap (position_or_len (same one)) ending ∙ position-kept directives one;
    }

pub placed-old : {A : Type 0} (directives more : List Directive) (lists longer : List (List A)) (one : Directive) → length lists ≡ length directives
    → list_any (same one) directives ≡ true → more ≡ cond (list_any (same one) directives) directives (directives ++ one ∷ []) → longer ≡ lists → Placed directives more lists longer one
placed-old directives more lists longer one even present is equal =
    let ending : more ≡ directives = is ∙ cond-true (list_any (same one) directives) directives (directives ++ one ∷ []) present in
    record {
      even = ap length equal ∙ even ∙ sym (ap length ending);
      kept = λ q. ap (λ (ds : List Directive). get_or longer (position_or_len (same q) ds) []) ending ∙ ap (λ ls. get_or ls (position_or_len (same q) directives) []) equal;
      first = ap (position_or_len (same one)) ending;
    }

elsewhere : (directives : List Directive) (one q : Directive) → same q one ≡ false → position_or_len (same one) directives < length directives
    → position_or_len (same q) directives ≡ position_or_len (same one) directives → ⊥
elsewhere directives one q differ inside here =
    let c = position_or_len (same one) directives in
    let x = get_or directives c one in
    let at : slice_get directives c ≡ Some x = slice_get-get_or directives c one inside in
    let first : one ≡ x = same-directive one x (at-position (same one) directives x at) in
    let second : q ≡ x = same-directive q x (at-position (same q) directives x (ap (slice_get directives) here ∙ at)) in
    false≢true (sym differ ∙ ap (same q) (first ∙ sym second) ∙ directive-itself q)

-- one more item
pub listed-set : {A : Type 0} (directives : List Directive) (lists : List (List A)) (one q : Directive) (item : A) → length lists ≡ length directives → position_or_len (same one) directives < length directives
    → get_or (set lists (position_or_len (same one) directives) (get_or lists (position_or_len (same one) directives) [] ++ item ∷ [])) (position_or_len (same q) directives) []
    ≡ get_or lists (position_or_len (same q) directives) [] ++ cond (same q one) (item ∷ []) []
listed-set directives lists one q item even inside =
    let c = position_or_len (same one) directives in
    let place = position_or_len (same q) directives in
    let v = get_or lists c [] ++ item ∷ [] in
    elim (same q one) as (λ b. same q one ≡ b → get_or (set lists c v) place [] ≡ get_or lists place [] ++ cond b (item ∷ []) []) [
      | true ↦ λ e.
          let here : place ≡ c = ap (λ d. position_or_len (same d) directives) (same-directive q one e) in
          ap (λ i. get_or (set lists c v) i []) here ∙ get_or-set_same lists c v [] (omega (arith, even, inside)) ∙ ap (λ i. get_or lists i [] ++ item ∷ []) (sym here)
      | false ↦ λ e.
          get_or-set_other lists c place v [] (λ here. elsewhere directives one q e inside here) ∙ sym (append-nil (get_or lists place []))
    ] refl
