-- The oldest objects, and the lifetimes that end (6.2.4p2).
use Rattle.std.proofs.Common.{◌≡◌, false, ℕ, zero, suc, ◌-◌, ◌<◌, ◌≤◌, ◌+◌, [], ◌∷◌, ◌++◌, map, length, drop, take, refl, ap, sym, ◌∙◌, arith, length-append, length-drop}
use Rattle.std.proofs.Math.Seq.{drop-nil}
use Rattle.dm_meaning.specs.Memory.{Memory, changed_block, killed}
use Rattle.dm_meaning.specs.Operations.{Objects}
use Rattle.dm_meaning.specs.Statements.{named_since}
use Rattle.dm_frame.specs.Tasks.{kept}

-- all of them, or more than there are
pub kept-all : (n : ℕ) (objects : Objects) → length objects ≤ n → kept n objects ≡ objects
kept-all n objects past = let e : length objects - n ≡ 0 = omega (arith, past) in ap (λ k. drop k objects) e

pub kept-whole : (objects : Objects) → kept (length objects) objects ≡ objects
kept-whole objects = kept-all (length objects) objects (omega arith)

-- without the newest
pub kept-more : (n : ℕ) (entry : ℕ × ℕ) (objects : Objects) → n ≤ length objects → kept n (entry ∷ objects) ≡ kept n objects
kept-more n entry objects within = let e : suc (length objects) - n ≡ suc (length objects - n) = omega (arith, within) in ap (λ k. drop k (entry ∷ objects)) e

pub length-kept : (n : ℕ) (objects : Objects) → n ≤ length objects → length (kept n objects) ≡ n
length-kept n objects within = length-drop (length objects - n) objects ∙ omega (arith, within)

drop-drop : (a b c : ℕ) (objects : Objects) → c ≡ b + a → drop a (drop b objects) ≡ drop c objects
drop-drop a zero c objects e = let same : a ≡ c = omega (arith, e) in ap (λ k. drop k objects) same
drop-drop a (suc b) c [] e = drop-nil a ∙ sym (drop-nil c)
drop-drop a (suc b) zero (entry ∷ objects) e = absurd (omega (arith, e))
drop-drop a (suc b) (suc c) (entry ∷ objects) e = drop-drop a b c objects (omega (arith, e))

-- fewer of fewer
pub kept-kept : (m n : ℕ) (objects : Objects) → m ≤ n → n ≤ length objects → kept m (kept n objects) ≡ kept m objects
kept-kept m n objects less within =
    let count = length-kept n objects within in
    ap (λ k. drop (k - m) (kept n objects)) count
    ∙ drop-drop (n - m) (length objects - n) (length objects - m) objects (omega (arith, less, within))

-- those that were there before
pub kept-append : (newer objects : Objects) (n : ℕ) → n ≤ length objects → kept n (newer ++ objects) ≡ kept n objects
kept-append [] objects n within = refl
kept-append (entry ∷ newer) objects n within =
    let l : length (newer ++ objects) ≡ length newer + length objects = length-append newer objects in
    kept-more n entry (newer ++ objects) (omega (arith, l, within)) ∙ kept-append newer objects n within

-- the newest ends first
pub newest-ends : (n : ℕ) (entry : ℕ × ℕ) (objects : Objects) → n ≤ length objects
    → named_since (kept n (entry ∷ objects)) (entry ∷ objects) ≡ entry.1 ∷ named_since (kept n objects) objects
newest-ends n entry objects within =
    let here = length-kept n (entry ∷ objects) (omega (arith, within)) in
    let there = length-kept n objects within in
    let e : suc (length objects) - length (kept n (entry ∷ objects)) ≡ suc (length objects - length (kept n objects)) = omega (arith, here, there, within) in
    ap (λ k. map (λ (entry : ℕ × ℕ). entry.1) (take k (entry ∷ objects))) e

-- the newest object's lifetime has ended, and those of the others are to
pub ending : (n : ℕ) (entry : ℕ × ℕ) (objects : Objects) (memory : Memory) → n < length (entry ∷ objects)
    → killed (named_since (kept n (entry ∷ objects)) (entry ∷ objects)) memory
    ≡ killed (named_since (kept n objects) objects) (changed_block entry.1 (λ block. record block { alive = false }) memory)
ending n entry objects memory more = ap (λ numbers. killed numbers memory) (newest-ends n entry objects (omega (arith, more)))
