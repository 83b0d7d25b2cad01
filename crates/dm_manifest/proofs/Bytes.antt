-- Tests of bytes, from left to right.
use Rattle.std.proofs.Common.{◌≡◌, ℕ, Bool, true, false, ◌&&◌, ◌||◌, List, [], ◌∷◌, length, arith, refl, sym, ap, ◌∙◌}
use Rattle.std.specs.List.{list_all}
use Rattle.dm_lex.specs.Classes.{is_nondigit, is_word, is_identifier, behind}
use Rattle.dm_manifest.specs.Defines.{somewhere}

-- what doesn't begin here begins later, if somewhere
pub somewhere-later : (test : List ℕ → Bool) (rest : List ℕ) (byte : ℕ) (others : List ℕ) → rest ≡ byte ∷ others → test rest ≡ false → somewhere test rest ≡ somewhere test others
unfolding somewhere
somewhere-later test rest byte others e other = ap (somewhere test) e ∙ ap (λ b. b || somewhere test others) (sym (ap test e) ∙ other)

-- what begins here begins somewhere
pub somewhere-here : (test : List ℕ → Bool) (rest : List ℕ) (byte : ℕ) (others : List ℕ) → rest ≡ byte ∷ others → test rest ≡ true → somewhere test rest ≡ true
unfolding somewhere
somewhere-here test rest byte others e here = ap (somewhere test) e ∙ ap (λ b. b || somewhere test others) (sym (ap test e) ∙ here)

-- nothing begins in no bytes
pub somewhere-none : (test : List ℕ → Bool) (rest : List ℕ) → length rest ≡ 0 → somewhere test rest ≡ false
unfolding somewhere
somewhere-none test [] e = refl
somewhere-none test (byte ∷ others) e = absurd (omega arith)

-- an identifier by its first byte
pub is_identifier-cons : (name : List ℕ) (byte : ℕ) (others : List ℕ) → name ≡ byte ∷ others → is_identifier name ≡ (is_nondigit byte && list_all is_word others)
unfolding is_identifier behind
is_identifier-cons name byte others e = ap is_identifier e

pub is_identifier-empty : (name : List ℕ) → length name ≡ 0 → is_identifier name ≡ false
unfolding is_identifier behind
is_identifier-empty [] e = refl
is_identifier-empty (byte ∷ others) e = absurd (omega arith)
