-- Lemmas on texts by their bytes and jumps.
use Rattle.std.proofs.Common.{◌≡◌, ℕ, ◌+◌, true, List, [], ◌∷◌, ◌++◌, length, map, refl, ap, ◌∙◌, arith, eqb, inl, inr, get_or, drop, ◌<◌}
use Rattle.std.proofs.lemmas.Bool.{cases_Bool, false≢true, eqb-true, eq-eqb, ne_eqb}
use Rattle.dm_phase.specs.declared.Character.{Character}
use Rattle.dm_phase.specs.declared.jump.Jump.{Jump}
use Rattle.dm_phase.specs.Phases.{characters_at}
use Rattle.dm_phase.specs.Sparse.{plain, jumped, characters_from, spends}

-- without jumps
characters_from-plain : (index at : ℕ) (bytes : List ℕ) → characters_from index at [] bytes ≡ characters_at at bytes
unfolding characters_from characters_at
characters_from-plain index at [] = refl
characters_from-plain index at (byte ∷ bytes) = ap (λ text. plain byte at ∷ text) (characters_from-plain (index + 1) (at + 1) bytes)

-- bytes that stand where the ones before them end
pub characters_from-append : (index at : ℕ) (jumps : List Jump) (bytes more : List ℕ) (end : ℕ) → spends index at jumps bytes end ≡ true →
    characters_from index at jumps (bytes ++ more) ≡ characters_from index at jumps bytes ++ characters_at end more
unfolding characters_from spends
characters_from-append index at [] [] more end is =
    characters_from-plain index at more ∙ ap (λ n. characters_at n more) (eqb-true at end is)
characters_from-append index at (jump ∷ jumps) [] more end is = absurd (false≢true is)
characters_from-append index at [] (byte ∷ bytes) more end is =
    ap (λ text. plain byte at ∷ text) (characters_from-append (index + 1) (at + 1) [] bytes more end is)
characters_from-append index at (jump ∷ jumps) (byte ∷ bytes) more end is =
    elim (cases_Bool (eqb index jump.index)) [
      | inl e ↦ rw e (ap (λ text. jumped byte jump ∷ text) (characters_from-append (index + 1) (jump.at + jump.width) jumps bytes more end (rw e at is)))
      | inr e ↦ rw e (ap (λ text. plain byte at ∷ text) (characters_from-append (index + 1) (at + 1) (jump ∷ jumps) bytes more end (rw e at is)))
    ]

spends-plain : (index at : ℕ) (bytes : List ℕ) (end : ℕ) → at + length bytes ≡ end → spends index at [] bytes end ≡ true
unfolding spends
spends-plain index at [] end e = eq-eqb at end (omega arith)
spends-plain index at (byte ∷ bytes) end e = spends-plain (index + 1) (at + 1) bytes end (omega arith)

pub spends-append : (index at : ℕ) (jumps : List Jump) (bytes more : List ℕ) (end end' : ℕ) → spends index at jumps bytes end ≡ true → end + length more ≡ end' →
    spends index at jumps (bytes ++ more) end' ≡ true
unfolding spends
spends-append index at [] [] more end end' is e = spends-plain index at more end' (omega (arith, eqb-true at end is, e))
spends-append index at (jump ∷ jumps) [] more end end' is e = absurd (false≢true is)
spends-append index at [] (byte ∷ bytes) more end end' is e = spends-append (index + 1) (at + 1) [] bytes more end end' is e
spends-append index at (jump ∷ jumps) (byte ∷ bytes) more end end' is e =
    elim (cases_Bool (eqb index jump.index)) [
      | inl s ↦ rw s (spends-append (index + 1) (jump.at + jump.width) jumps bytes more end end' (rw s at is) e)
      | inr s ↦ rw s (spends-append (index + 1) (at + 1) (jump ∷ jumps) bytes more end end' (rw s at is) e)
    ]

-- a byte at a jump
pub characters_from-jump : (index at : ℕ) (jumps : List Jump) (bytes : List ℕ) (byte : ℕ) (last : Jump) (end : ℕ) → spends index at jumps bytes end ≡ true → index + length bytes ≡ last.index →
    characters_from index at (jumps ++ last ∷ []) (bytes ++ byte ∷ []) ≡ characters_from index at jumps bytes ++ jumped byte last ∷ []
unfolding characters_from spends
characters_from-jump index at [] [] byte last end is e = rw (eq-eqb index last.index (omega arith)) refl
characters_from-jump index at (jump ∷ jumps) [] byte last end is e = absurd (false≢true is)
characters_from-jump index at [] (b ∷ bytes) byte last end is e =
    rw (ne_eqb index last.index (λ same. omega arith)) (ap (λ text. plain b at ∷ text) (characters_from-jump (index + 1) (at + 1) [] bytes byte last end is (omega arith)))
characters_from-jump index at (jump ∷ jumps) (b ∷ bytes) byte last end is e =
    elim (cases_Bool (eqb index jump.index)) [
      | inl s ↦ rw s (ap (λ text. jumped b jump ∷ text) (characters_from-jump (index + 1) (jump.at + jump.width) jumps bytes byte last end (rw s at is) (omega arith)))
      | inr s ↦ rw s (ap (λ text. plain b at ∷ text) (characters_from-jump (index + 1) (at + 1) (jump ∷ jumps) bytes byte last end (rw s at is) (omega arith)))
    ]

pub spends-jump : (index at : ℕ) (jumps : List Jump) (bytes : List ℕ) (byte : ℕ) (last : Jump) (end : ℕ) → spends index at jumps bytes end ≡ true → index + length bytes ≡ last.index →
    spends index at (jumps ++ last ∷ []) (bytes ++ byte ∷ []) (last.at + last.width) ≡ true
unfolding spends
spends-jump index at [] [] byte last end is e = rw (eq-eqb index last.index (omega arith)) (eq-eqb (last.at + last.width) (last.at + last.width) refl)
spends-jump index at (jump ∷ jumps) [] byte last end is e = absurd (false≢true is)
spends-jump index at [] (b ∷ bytes) byte last end is e =
    rw (ne_eqb index last.index (λ same. omega arith)) (spends-jump (index + 1) (at + 1) [] bytes byte last end is (omega arith))
spends-jump index at (jump ∷ jumps) (b ∷ bytes) byte last end is e =
    elim (cases_Bool (eqb index jump.index)) [
      | inl s ↦ rw s (spends-jump (index + 1) (jump.at + jump.width) jumps bytes byte last end (rw s at is) (omega arith))
      | inr s ↦ rw s (spends-jump (index + 1) (at + 1) (jump ∷ jumps) bytes byte last end (rw s at is) (omega arith))
    ]

-- the bytes of the characters
pub bytes-characters_from : (index at : ℕ) (jumps : List Jump) (bytes : List ℕ) → map (λ (character : Character). character.byte) (characters_from index at jumps bytes) ≡ bytes
unfolding characters_from
bytes-characters_from index at jumps [] = refl
bytes-characters_from index at [] (byte ∷ bytes) = ap (λ b. byte ∷ b) (bytes-characters_from (index + 1) (at + 1) [] bytes)
bytes-characters_from index at (jump ∷ jumps) (byte ∷ bytes) =
    elim (cases_Bool (eqb index jump.index)) [
      | inl s ↦ rw s (ap (λ b. byte ∷ b) (bytes-characters_from (index + 1) (jump.at + jump.width) jumps bytes))
      | inr s ↦ rw s (ap (λ b. byte ∷ b) (bytes-characters_from (index + 1) (at + 1) (jump ∷ jumps) bytes))
    ]

-- characters by the first byte
pub characters_at-first : (at : ℕ) (bytes : List ℕ) → 0 < length bytes → plain (get_or bytes 0 0) at ∷ characters_at (at + 1) (drop 1 bytes) ≡ characters_at at bytes
unfolding characters_at
characters_at-first at [] some = absurd (omega arith)
characters_at-first at (byte ∷ bytes) some = refl

-- no bytes, no characters
pub characters_at-none : (at : ℕ) (bytes : List ℕ) → length bytes ≡ 0 → characters_at at bytes ≡ []
unfolding characters_at
characters_at-none at [] none = refl
characters_at-none at (byte ∷ bytes) none = absurd (omega arith)
