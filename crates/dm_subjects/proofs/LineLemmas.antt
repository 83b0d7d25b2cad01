-- Newlines up to an offset.
use Rattle.std.proofs.Common.{◌≡◌, ◌↔◌, ◌<◌, ◌≤◌, ◌⊎◌, inl, inr, ℕ, zero, suc, ◌+◌, ◌==◌, Bool, true, false, List, [], ◌∷◌, take, Option, Some, None, IfSome, IfNone, slice_get, refl, sym, ap, ◌∙◌, arith, cond}
use Rattle.std.proofs.lemmas.List.Sums.{sum_by-cons}
use Rattle.std.proofs.lemmas.Bool.{cases_lt}
use Rattle.dm_token.specs.Places.{newline, newlines}
use Rattle.dm_subjects.specs.Newlines.{starts_from}

-- one byte more
pub newlines-cons : (byte : ℕ) (bytes : List ℕ) → newlines (byte ∷ bytes) ≡ cond (byte == newline) 1 0 + newlines bytes
newlines-cons byte bytes = sum_by-cons (λ (one : ℕ). cond (one == newline) 1 0) byte bytes

-- further on there are no fewer
pub fewer : (bytes : List ℕ) (a b : ℕ) → a ≤ b → newlines (take a bytes) ≤ newlines (take b bytes)
fewer bytes zero b le = omega arith
fewer bytes (suc a) zero le = absurd (omega (arith, le))
fewer [] (suc a) (suc b) le = omega arith
fewer (byte ∷ bytes) (suc a) (suc b) le =
    let rest = fewer bytes a b (omega (arith, le)) in
    let here = newlines-cons byte (take a bytes) in
    let there = newlines-cons byte (take b bytes) in
    omega (arith, rest, here, there)

-- An offset is at or behind the first one with so many newlines before it, just where there are so many before it.
abbrev pub IsFirstBehind : List ℕ → ℕ → ℕ → Type 0
IsFirstBehind bytes count from = (offset : ℕ) → (from ≤ offset) ↔ (count ≤ newlines (take offset bytes))

abbrev pub FewBefore : List ℕ → ℕ → ℕ → Type 0
FewBefore bytes count at = (offset : ℕ) → offset < at → newlines (take offset bytes) < count

pub first-behind : (bytes : List ℕ) (count at : ℕ) → newlines (take at bytes) ≡ count → FewBefore bytes count at → IsFirstBehind bytes count at
first-behind bytes count at are few offset = (λ le. let more = fewer bytes at offset le in omega (arith, are, more), λ enough. by enough (cases_lt offset at))
  where
    by : count ≤ newlines (take offset bytes) → (offset < at) ⊎ (at ≤ offset) → at ≤ offset
    by enough (inl less) = let short = few offset less in absurd (omega (arith, short, enough))
    by enough (inr past) = past

-- ---- where lines begin

module _ (at byte : ℕ) (bytes : List ℕ) where
  step : (b : Bool) → (byte == newline) ≡ b → (o : ℕ) → newlines (byte ∷ take o bytes) ≡ cond b 1 0 + newlines (take o bytes)
  step b e o = newlines-cons byte (take o bytes) ∙ ap (λ c. cond c 1 0 + newlines (take o bytes)) e

  here : (byte == newline) ≡ true → (from : ℕ) → at + 1 ≡ from → (offset : ℕ) → (from ≤ at + offset) ↔ (1 ≤ newlines (take offset (byte ∷ bytes)))
  here e from is zero = (λ le. absurd (omega (arith, is, le)), λ le. absurd (omega (arith, le)))
  here e from is (suc o) = let count = step true e o in (λ le. omega (arith, count), λ le. omega (arith, is))

  later : (b : Bool) → (byte == newline) ≡ b → (n from : ℕ) → ((o : ℕ) → (from ≤ (at + 1) + o) ↔ (suc n ≤ newlines (take o bytes)))
      → (offset : ℕ) → (from ≤ at + offset) ↔ (suc n + cond b 1 0 ≤ newlines (take offset (byte ∷ bytes)))
  later b e n from rest zero =
      (λ le. let few = (rest 0).0 (omega (arith, le)) in absurd (omega (arith, few)), λ le. absurd (omega (arith, le)))
  later b e n from rest (suc o) =
      let count = step b e o in
      (λ le. let more = (rest o).0 (omega (arith, le)) in omega (arith, more, count), λ le. let up = (rest o).1 (omega (arith, le, count)) in omega (arith, up))

  abbrev behind_by : Bool → List ℕ
  behind_by b = cond b ((at + 1) ∷ starts_from (at + 1) bytes) (starts_from (at + 1) bytes)

  begun : (b : Bool) → (byte == newline) ≡ b → (k from : ℕ) → slice_get (behind_by b) k ≡ Some from
      → ((n : ℕ) → slice_get (starts_from (at + 1) bytes) n ≡ Some from → (o : ℕ) → (from ≤ (at + 1) + o) ↔ (suc n ≤ newlines (take o bytes)))
      → (offset : ℕ) → (from ≤ at + offset) ↔ (suc k ≤ newlines (take offset (byte ∷ bytes)))
  begun true e zero from there rest offset = here e from (let same : Some (at + 1) ≡ Some from = there in cc same) offset
  begun true e (suc k) from there rest offset =
      let both = later true e k from (rest k there) offset in (λ le. let more = both.0 le in omega (arith, more), λ le. both.1 (omega (arith, le)))
  begun false e k from there rest offset =
      let both = later false e k from (rest k there) offset in (λ le. let more = both.0 le in omega (arith, more), λ le. both.1 (omega (arith, le)))

  few : (b : Bool) → (byte == newline) ≡ b → (k o : ℕ) → slice_get (behind_by b) k ≡ None
      → ((n : ℕ) → slice_get (starts_from (at + 1) bytes) n ≡ None → newlines (take o bytes) < suc n) → newlines (byte ∷ take o bytes) < suc k
  few true e zero o there rest = absurd (cc there)
  few true e (suc k) o there rest = let less = rest k there in let count = step true e o in omega (arith, less, count)
  few false e k o there rest = let less = rest k there in let count = step false e o in omega (arith, less, count)

-- behind the newline of a number, where there are so many
pub start-behind : (at : ℕ) (bytes : List ℕ) (k from : ℕ) → slice_get (starts_from at bytes) k ≡ Some from
    → (offset : ℕ) → (from ≤ at + offset) ↔ (suc k ≤ newlines (take offset bytes))
start-behind at [] k from there offset = absurd (cc there)
start-behind at (byte ∷ bytes) k from there offset =
    begun at byte bytes (byte == newline) refl k from there (λ n is o. start-behind (at + 1) bytes n from is o) offset

-- where there are not so many
pub none-behind : (at : ℕ) (bytes : List ℕ) (k : ℕ) → slice_get (starts_from at bytes) k ≡ None → (offset : ℕ) → newlines (take offset bytes) < suc k
none-behind at [] k there zero = omega arith
none-behind at [] k there (suc offset) = omega arith
none-behind at (byte ∷ bytes) k there zero = omega arith
none-behind at (byte ∷ bytes) k there (suc o) = few at byte bytes (byte == newline) refl k o there (λ n is. none-behind (at + 1) bytes n is o)

pub start-found : (bytes : List ℕ) (count last : ℕ) (found : Option ℕ) → suc last ≡ count → found ≡ slice_get (starts_from 0 bytes) last
    → IfSome found (λ from. (offset : ℕ) → (from ≤ offset) ↔ (count ≤ newlines (take offset bytes)))
start-found bytes count last None e is = tt
start-found bytes count last (Some from) e is = λ offset.
    let both = start-behind 0 bytes last from (sym is) offset in
    (λ le. let more = both.0 (omega (arith, le)) in omega (arith, more, e), λ le. let up = both.1 (omega (arith, le, e)) in omega (arith, up))

pub start-none : (bytes : List ℕ) (count last : ℕ) (found : Option ℕ) → suc last ≡ count → found ≡ slice_get (starts_from 0 bytes) last
    → IfNone found ((offset : ℕ) → newlines (take offset bytes) < count)
start-none bytes count last None e is = λ offset. let less = none-behind 0 bytes last (sym is) offset in omega (arith, less, e)
start-none bytes count last (Some from) e is = tt
