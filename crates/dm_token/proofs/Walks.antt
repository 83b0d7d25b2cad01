-- The walk of `common` from the inner ends of two trails to their outer ends.
use Rattle.std.proofs.Common.{◌≡◌, ◌≢◌, ◌≤◌, List, [], ◌∷◌, ◌++◌, length, sym, ◌∙◌, ap, subst, arith, append_assoc, length-append}
use Rattle.std.proofs.lemmas.List.{append-nil}
use Rattle.dm_token.specs.Prefixes.{IsPrefix, IsLongestCommonPrefix}
use Rattle.dm_token.proofs.PrefixLemmas.{IsPrefix-shorter, IsPrefix-nested, without_items}

-- What holds of two lists, of what is left of each, and of the longest common beginning as far as is known. Behind what
-- is left, the same items stand in both up to the end of that beginning.
pub record IsWalked {A : Type 0} (first second left right common : List A) : Type 0 where
  pub level : length left ≡ length right
  pub between : List A
  pub mine : common ≡ left ++ between
  pub theirs : IsPrefix (right ++ between) second
  pub within : IsPrefix common first
  pub longest : (shared : List A) → IsPrefix shared first → IsPrefix shared second → length shared ≤ length common

-- one more item that is the same in both
pub IsWalked-same : {A : Type 0} (first second left right common xs ys : List A) (x y : A) → IsWalked first second left right common → left ≡ xs ++ x ∷ [] → right ≡ ys ++ y ∷ [] → x ≡ y → IsWalked first second xs ys common
IsWalked-same first second left right common xs ys x y walked e f same = record {
  level = omega (arith, walked.level, ap length e, ap length f, length-append xs (x ∷ []), length-append ys (y ∷ []));
  between = x ∷ walked.between;
  mine = walked.mine ∙ (ap (λ front. front ++ walked.between) e ∙ append_assoc xs (x ∷ []) walked.between);
  theirs = (walked.theirs.0, walked.theirs.1 ∙ ap (λ front. front ++ walked.theirs.0) (ap (λ front. front ++ walked.between) (f ∙ ap (λ z. ys ++ z ∷ []) (sym same)) ∙ append_assoc ys (x ∷ []) walked.between));
  within = walked.within;
  longest = walked.longest;
}

-- what both lists begin with ends before two items that differ
before : {A : Type 0} (xs ys shared r s t u : List A) (x y : A) → shared ++ r ≡ xs ++ x ∷ s → shared ++ u ≡ ys ++ y ∷ t → length xs ≡ length ys → x ≢ y → length shared ≤ length xs
before xs ys [] r s t u x y e f h apart = omega arith
before [] [] (a ∷ shared) r s t u x y e f h apart = absurd (apart cc)
before [] (b ∷ ys) (a ∷ shared) r s t u x y e f h apart = absurd (omega arith)
before (c ∷ xs) [] (a ∷ shared) r s t u x y e f h apart = absurd (omega arith)
before (c ∷ xs) (b ∷ ys) (a ∷ shared) r s t u x y e f h apart =
    let first : shared ++ r ≡ xs ++ x ∷ s = cc in
    let second : shared ++ u ≡ ys ++ y ∷ t = cc in
    let inner : length shared ≤ length xs = before xs ys shared r s t u x y first second (omega arith) apart in
    omega arith

-- one more item that differs
pub IsWalked-apart : {A : Type 0} (first second left right common xs ys : List A) (x y : A) → IsWalked first second left right common → left ≡ xs ++ x ∷ [] → right ≡ ys ++ y ∷ [] → x ≢ y → IsWalked first second xs ys xs
IsWalked-apart {A} first second left right common xs ys x y walked e f apart =
    let level : length xs ≡ length ys = omega (arith, walked.level, ap length e, ap length f, length-append xs (x ∷ []), length-append ys (y ∷ [])) in
    let more : IsPrefix (xs ++ x ∷ walked.between) first = subst (λ (front : List A). IsPrefix front first) (walked.mine ∙ (ap (λ front. front ++ walked.between) e ∙ append_assoc xs (x ∷ []) walked.between)) walked.within in
    let other : IsPrefix (ys ++ y ∷ walked.between) second = subst (λ (front : List A). IsPrefix front second) (ap (λ front. front ++ walked.between) f ∙ append_assoc ys (y ∷ []) walked.between) walked.theirs in
    record {
      level = level;
      between = [];
      mine = sym (append-nil xs);
      theirs = subst (λ (front : List A). IsPrefix front second) (sym (append-nil ys)) (IsPrefix-shorter ys (y ∷ walked.between) second other);
      within = IsPrefix-shorter xs (x ∷ walked.between) first more;
      longest = λ shared (r, p) (u, q).
          before xs ys shared r (walked.between ++ more.0) (walked.between ++ other.0) u x y
          (sym p ∙ (more.1 ∙ append_assoc xs (x ∷ walked.between) more.0))
          (sym q ∙ (other.1 ∙ append_assoc ys (y ∷ walked.between) other.0))
          level apart;
    }

-- the walk has come to the outer end of both
pub IsWalked-end : {A : Type 0} (first second left right common : List A) → IsWalked first second left right common → left ≡ [] → IsLongestCommonPrefix first second common
IsWalked-end {A} first second left right common walked none =
    let all : common ≡ walked.between = walked.mine ∙ ap (λ front. front ++ walked.between) none in
    let rest : right ≡ [] = without_items right (omega (arith, walked.level, ap length none)) in
    let theirs : IsPrefix common second = subst (λ (front : List A). IsPrefix front second) (ap (λ front. front ++ walked.between) rest ∙ sym all) walked.theirs in
    (walked.within, theirs, λ shared p q. IsPrefix-nested shared common first p walked.within (walked.longest shared p q))
