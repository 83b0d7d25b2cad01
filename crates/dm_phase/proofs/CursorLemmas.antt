-- Lemmas on the characters that a cursor passes.
use Rattle.std.proofs.Common.{◌≡◌, ℕ, zero, suc, ◌+◌, ◌<◌, ◌≤◌, inl, inr, List, [], ◌∷◌, length, get_or, take, drop, refl, ap, sym, ◌∙◌, arith, eqb, add-zero, max}
use Rattle.std.proofs.lemmas.Bool.{cases_Bool, ne_eqb}
use Rattle.std.proofs.lemmas.List.{take-append-drop, drop-drop}
use Rattle.dm_phase.specs.declared.Character.{Character}
use Rattle.dm_phase.specs.declared.jump.Jump.{Jump}
use Rattle.dm_phase.specs.Positions.{InOrder, InOrder-behind}
use Rattle.dm_phase.specs.Sparse.{plain, characters_from, IsClear, first_from, behind_jump}

-- a character for each byte
pub length-characters_from : (index at : ℕ) (jumps : List Jump) (bytes : List ℕ) → length (characters_from index at jumps bytes) ≡ length bytes
unfolding characters_from
length-characters_from index at jumps [] = refl
length-characters_from index at [] (byte ∷ bytes) = ap suc (length-characters_from (index + 1) (at + 1) [] bytes)
length-characters_from index at (jump ∷ jumps) (byte ∷ bytes) =
    elim (cases_Bool (eqb index jump.index)) [
      | inl s ↦ rw s (ap suc (length-characters_from (index + 1) (jump.at + jump.width) jumps bytes))
      | inr s ↦ rw s (ap suc (length-characters_from (index + 1) (at + 1) (jump ∷ jumps) bytes))
    ]

-- the next character
pub characters_from-first : (index at : ℕ) (jumps : List Jump) (bytes : List ℕ) → 0 < length bytes →
    let first = first_from index at jumps (get_or bytes 0 0) in
    characters_from index at jumps bytes ≡ first ∷ characters_from (index + 1) (first.at + first.width) (behind_jump index jumps) (drop 1 bytes)
unfolding characters_from first_from behind_jump
characters_from-first index at jumps [] some = absurd (omega arith)
characters_from-first index at [] (byte ∷ bytes) some = refl
characters_from-first index at (jump ∷ jumps) (byte ∷ bytes) some =
    elim (cases_Bool (eqb index jump.index)) [
      | inl s ↦ rw s refl
      | inr s ↦ rw s refl
    ]

-- no jump is at the first of them
clear-not : (index count : ℕ) (jump : Jump) (jumps : List Jump) → IsClear index (suc count) (jump ∷ jumps) → index ≡ jump.index → ⊥
clear-not index count jump jumps (inl below) same = omega arith
clear-not index count jump jumps (inr above) same = omega arith

clear-more : (index count : ℕ) (jumps : List Jump) → IsClear index (suc count) jumps → IsClear (index + 1) count jumps
clear-more index count [] is = tt
clear-more index count (jump ∷ jumps) (inl below) = inl (omega arith)
clear-more index count (jump ∷ jumps) (inr above) = inr (omega arith)

-- the first of them
characters_from-clear : (index at count : ℕ) (jumps : List Jump) (byte : ℕ) (bytes : List ℕ) → IsClear index (suc count) jumps →
    characters_from index at jumps (byte ∷ bytes) ≡ plain byte at ∷ characters_from (index + 1) (at + 1) jumps bytes
unfolding characters_from
characters_from-clear index at count [] byte bytes is = refl
characters_from-clear index at count (jump ∷ jumps) byte bytes is = rw (ne_eqb index jump.index (clear-not index count jump jumps is)) refl

-- what is left behind them
pub characters_from-pass : (count index at : ℕ) (jumps : List Jump) (bytes : List ℕ) → IsClear index count jumps → count ≤ length bytes →
    characters_from (index + count) (at + count) jumps (drop count bytes) ≡ drop count (characters_from index at jumps bytes)
characters_from-pass zero index at jumps bytes is inside = ap (λ n. characters_from n (at + 0) jumps bytes) (add-zero index) ∙ ap (λ n. characters_from index n jumps bytes) (add-zero at)
characters_from-pass (suc count) index at jumps [] is inside = absurd (omega arith)
characters_from-pass (suc count) index at jumps (byte ∷ bytes) is inside =
    let i : index + suc count ≡ index + 1 + count = omega arith in
    let a : at + suc count ≡ at + 1 + count = omega arith in
    ap (λ n. characters_from n (at + suc count) jumps (drop count bytes)) i ∙ ap (λ n. characters_from (index + 1 + count) n jumps (drop count bytes)) a
    ∙ characters_from-pass count (index + 1) (at + 1) jumps bytes (clear-more index count jumps is) (omega arith)
    ∙ sym (ap (drop (suc count)) (characters_from-clear index at count jumps byte bytes is))

-- they end in the file
pub pass-end : (count index at : ℕ) (jumps : List Jump) (bytes : List ℕ) (first end : ℕ) → IsClear index count jumps → 0 < count → count ≤ length bytes →
    InOrder first end (characters_from index at jumps bytes) → at + count ≤ end
pass-end zero index at jumps bytes first end is some inside order = absurd (omega arith)
pass-end (suc count) index at jumps [] first end is some inside order = absurd (omega arith)
pass-end (suc zero) index at jumps (byte ∷ bytes) first end is some inside order =
    let h = rw (characters_from-clear index at zero jumps byte bytes is) at order in omega (arith, h.1)
pass-end (suc (suc count)) index at jumps (byte ∷ bytes) first end is some inside order =
    let h = rw (characters_from-clear index at (suc count) jumps byte bytes is) at order in
    omega (arith, pass-end (suc count) (index + 1) (at + 1) jumps bytes (at + max 1 1) end (clear-more index (suc count) jumps is) (omega arith) (omega arith) h.2)

-- what is left stands in order
pub drop-in_order : (count end : ℕ) (text : List Character) → InOrder 0 end text → InOrder 0 end (drop count text)
drop-in_order count end text order = InOrder-behind 0 end (take count text) (drop count text) (rw (take-append-drop count text) order)

-- passing characters in two parts
pub drop-parts : (text : List Character) (m n total : ℕ) → m + n ≡ total → drop n (drop m text) ≡ drop total text
drop-parts text m n total e = drop-drop n m text ∙ ap (λ k. drop k text) e
