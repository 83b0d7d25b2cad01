-- The first of some things that passes a test, by its position.
use Rattle.std.proofs.Common.{◌≡◌, ℕ, suc, ◌+◌, ◌-◌, ◌<◌, ◌≤◌, Bool, true, false, cond, List, [], ◌∷◌, find, length, drop, get_or, Option, Some, None, slice_get, refl, sym, ap, ◌∙◌, arith}
use Rattle.std.specs.Prelude.{filter}
use Rattle.std.specs.List.{position_from}

-- it stands at a position, which is counted from another one
pub record IsFirst {A : Type 0} (test : A → Bool) (from : ℕ) (things : List A) (at : ℕ) : Type 0 where
  pub behind : from ≤ at
  pub inside : at - from < length things
  pub thing : A
  pub there : slice_get things (at - from) ≡ Some thing
  pub passes : test thing ≡ true
  pub found : find test things ≡ Some thing
  pub filtered : filter test things ≡ thing ∷ filter test (drop (suc (at - from)) things)

module _ {A : Type 0} (test : A → Bool) (from : ℕ) (thing : A) (things : List A) (at : ℕ) where
  first-here : test thing ≡ true → from ≡ at → IsFirst test from (thing ∷ things) at
  first-here is same =
      let zero : at - from ≡ 0 = omega (arith, same) in record {
        behind = omega (arith, same);
        inside = omega (arith, same);
        thing = thing;
        there = ap (slice_get (thing ∷ things)) zero;
        passes = is;
        found = ap (λ b. cond b (Some thing) (find test things)) is;
        filtered = ap (λ b. cond b (thing ∷ filter test things) (filter test things)) is ∙ sym (ap (λ n. thing ∷ filter test (drop (suc n) (thing ∷ things))) zero);
      }

  first-behind : test thing ≡ false → IsFirst test (from + 1) things at → IsFirst test from (thing ∷ things) at
  first-behind is first =
      let more : at - from ≡ suc (at - (from + 1)) = omega (arith, first.behind) in record {
        behind = omega (arith, first.behind);
        inside = omega (arith, first.behind, first.inside);
        thing = first.thing;
        there = ap (slice_get (thing ∷ things)) more ∙ first.there;
        passes = first.passes;
        found = ap (λ b. cond b (Some thing) (find test things)) is ∙ first.found;
        filtered = ap (λ b. cond b (thing ∷ filter test things) (filter test things)) is ∙ first.filtered
            ∙ sym (ap (λ n. first.thing ∷ filter test (drop (suc n) (thing ∷ things))) more);
      }

pub first-at : {A : Type 0} (test : A → Bool) (from : ℕ) (things : List A) (at : ℕ) → position_from test from things ≡ Some at → IsFirst test from things at
first-at test from [] at is = cc
first-at test from (thing ∷ things) at is = by_test (test thing) refl (λ later. first-at test (from + 1) things at later)
  where
    by_test : (b : Bool) → test thing ≡ b → (position_from test (from + 1) things ≡ Some at → IsFirst test (from + 1) things at) → IsFirst test from (thing ∷ things) at
    by_test true e behind = first-here test from thing things at e (cc (ap (λ b. cond b (Some from) (position_from test (from + 1) things)) (sym e) ∙ is))
    by_test false e behind = first-behind test from thing things at e (behind (ap (λ b. cond b (Some from) (position_from test (from + 1) things)) (sym e) ∙ is))

-- none passes
pub record NonePasses {A : Type 0} (test : A → Bool) (things : List A) : Type 0 where
  pub found : find test things ≡ None
  pub filtered : filter test things ≡ []

pub none-there : {A : Type 0} (test : A → Bool) (from : ℕ) (things : List A) → position_from test from things ≡ None → NonePasses test things
none-there test from [] is = record { found = refl; filtered = refl }
none-there test from (thing ∷ things) is = by_test (test thing) refl (λ later. none-there test (from + 1) things later)
  where
    by_test : (b : Bool) → test thing ≡ b → (position_from test (from + 1) things ≡ None → NonePasses test things) → NonePasses test (thing ∷ things)
    by_test true e behind = cc (ap (λ b. cond b (Some from) (position_from test (from + 1) things)) (sym e) ∙ is)
    by_test false e behind =
        let rest = behind (ap (λ b. cond b (Some from) (position_from test (from + 1) things)) (sym e) ∙ is) in record {
          found = ap (λ b. cond b (Some thing) (find test things)) e ∙ rest.found;
          filtered = ap (λ b. cond b (thing ∷ filter test things) (filter test things)) e ∙ rest.filtered;
        }
