-- Phases 1 and 2 leave a text as it is that has no trigraph, no end of line and no backslash at its end.
use Rattle.std.proofs.Common.{◌≡◌, ℕ, ◌+◌, Bool, true, false, cond, ◌&&◌, List, [], ◌∷◌, ◌++◌, Option, None, Some, Ok, Err, is_some, eqb, refl, sym, ap, ◌∙◌, true≢false}
use Rattle.std.specs.Prelude.{nat_le, option_map}
use Rattle.std.specs.Option.{option_map_or}
use Rattle.std.proofs.lemmas.Bool.{eqb-true}
use Rattle.dm_token.specs.Bytes.{newline, carriage_return, question_mark, backslash}
use Rattle.dm_phase.specs.declared.Character.{Character}
use Rattle.dm_phase.specs.Phases.{characters_at, without_mark, ended, joined, trigraph, replacement, replaced, spliced, last_splice, after_phase_1, after_phase_2, flat_text}

-- a blank or a visible ASCII character
abbrev pub printable : ℕ → Bool
printable byte = nat_le 32 byte && nat_le byte 126

-- no trigraph begins with these bytes
abbrev pub NoTrigraph : ℕ → ℕ → List ℕ → Type 0
NoTrigraph a b [] = Unit {0}
NoTrigraph a b (c ∷ others) = ((eqb a question_mark && eqb b question_mark) && is_some (replacement c)) ≡ false

-- bytes that stay as they are
abbrev pub Plain : List ℕ → Type 0
Plain [] = ⊥
Plain (a ∷ []) = (printable a ≡ true) × (eqb a backslash ≡ false)
Plain (a ∷ b ∷ others) = (printable a ≡ true) × NoTrigraph a b others × Plain (b ∷ others)

-- a printable byte is none of those that the phases look for
pub printable-other : (byte other : ℕ) → printable byte ≡ true → printable other ≡ false → eqb byte other ≡ false
printable-other byte other is isn't = by (eqb byte other) refl
  where
    by : (b : Bool) → eqb byte other ≡ b → b ≡ false
    by true e = absurd (true≢false (sym is ∙ ap printable (eqb-true byte other e) ∙ isn't))
    by false e = refl

and-left : (a b : Bool) → b ≡ false → (a && b) ≡ false
and-left true b e = e
and-left false b e = refl

-- a byte as a character
abbrev char : ℕ → ℕ → Character
char byte at = record { byte = byte; at = at; width = 1 }

-- THE PHASES

-- the characters of plain bytes before a newline
abbrev pub IsTextOf : ℕ → List ℕ → List Character → Type 0
IsTextOf at bytes text = (end : Character) × (end.byte ≡ newline) × (text ≡ characters_at at bytes ++ end ∷ [])

mark-none : (bytes : List ℕ) → Plain bytes → without_mark (characters_at 0 bytes) ≡ characters_at 0 bytes
unfolding without_mark characters_at
mark-none [] plain = absurd plain
mark-none (a ∷ []) plain = refl
mark-none (a ∷ b ∷ []) plain = refl
mark-none (a ∷ b ∷ c ∷ others) plain = by (eqb a 239) (printable-other a 239 plain.0 refl)
  where
    by : (t : Bool) → t ≡ false → cond ((t && eqb b 187) && eqb c 191) (characters_at 3 others) (characters_at 0 (a ∷ b ∷ c ∷ others)) ≡ characters_at 0 (a ∷ b ∷ c ∷ others)
    by true e = absurd (true≢false e)
    by false e = refl

ended-plain : (at : ℕ) (bytes : List ℕ) → Plain bytes → IsTextOf at bytes (ended (characters_at at bytes))
unfolding ended characters_at
ended-plain at [] plain = absurd plain
ended-plain at (a ∷ []) plain = by (eqb a newline) (printable-other a newline plain.0 refl)
  where
    by : (t : Bool) → t ≡ false → IsTextOf at (a ∷ []) (cond t ((char a at) ∷ []) ((char a at) ∷ (record { byte = newline; at = at + 1; width = 0 }) ∷ []))
    by true e = absurd (true≢false e)
    by false e = (record { byte = newline; at = at + 1; width = 0 }, refl, refl)
ended-plain at (a ∷ b ∷ others) plain =
    let rest = ended-plain (at + 1) (b ∷ others) plain.2 in
    (rest.0, rest.1, ap (λ text. char a at ∷ text) rest.2)

-- no carriage return is among characters
joined-plain : (at : ℕ) (bytes : List ℕ) (end : Character) → Plain bytes → joined (characters_at at bytes ++ end ∷ []) ≡ characters_at at bytes ++ end ∷ []
unfolding joined characters_at
joined-plain at [] end plain = absurd plain
joined-plain at (a ∷ []) end plain = by (eqb a carriage_return) (printable-other a carriage_return plain.0 refl)
  where
    by : (t : Bool) → t ≡ false → cond (t && eqb end.byte newline) ((record { byte = newline; at = at; width = 1 + end.width }) ∷ joined []) ((char a at) ∷ joined (end ∷ [])) ≡ (char a at) ∷ end ∷ []
    by true e = absurd (true≢false e)
    by false e = refl
joined-plain at (a ∷ b ∷ others) end plain = by (eqb a carriage_return) (printable-other a carriage_return plain.0 refl) (joined-plain (at + 1) (b ∷ others) end plain.2)
  where
    by : (t : Bool) → t ≡ false → joined (characters_at (at + 1) (b ∷ others) ++ end ∷ []) ≡ characters_at (at + 1) (b ∷ others) ++ end ∷ []
        → cond (t && eqb b newline) ((record { byte = newline; at = at; width = 1 + 1 }) ∷ joined (characters_at (at + 1 + 1) others ++ end ∷ [])) (char a at ∷ joined (characters_at (at + 1) (b ∷ others) ++ end ∷ []))
        ≡ char a at ∷ (characters_at (at + 1) (b ∷ others) ++ end ∷ [])
    by true e rest = absurd (true≢false e)
    by false e rest = ap (λ text. char a at ∷ text) rest

-- three characters are no trigraph
none-here : (a b c : Character) → ((eqb a.byte question_mark && eqb b.byte question_mark) && is_some (replacement c.byte)) ≡ false → trigraph a b c ≡ None
unfolding trigraph
none-here a b c e = by (eqb a.byte question_mark && eqb b.byte question_mark) (replacement c.byte) e
  where
    by : (t : Bool) (o : Option ℕ) → (t && is_some o) ≡ false → cond t (option_map {U = Character} (λ byte. record { byte = byte; at = a.at; width = a.width + b.width + c.width }) o) None ≡ None
    by true None e = refl
    by true (Some byte) e = absurd (true≢false e)
    by false o e = refl

newline-no : (end : Character) → end.byte ≡ newline → is_some (replacement end.byte) ≡ false
newline-no end e = ap (λ byte. is_some (replacement byte)) e

replaced-more : (a b c : Character) (text : List Character) → trigraph a b c ≡ None → replaced (a ∷ b ∷ c ∷ text) ≡ a ∷ replaced (b ∷ c ∷ text)
unfolding replaced
replaced-more a b c text e = ap (λ o. option_map_or (λ d. d ∷ replaced text) o (a ∷ replaced (b ∷ c ∷ text))) e

replaced-two : (x y : Character) → replaced (x ∷ y ∷ []) ≡ x ∷ y ∷ []
unfolding replaced
replaced-two x y = refl

replaced-plain : (at : ℕ) (bytes : List ℕ) (end : Character) → end.byte ≡ newline → Plain bytes → replaced (characters_at at bytes ++ end ∷ []) ≡ characters_at at bytes ++ end ∷ []
unfolding characters_at
replaced-plain at [] end e plain = absurd plain
replaced-plain at (a ∷ []) end e plain = replaced-two (char a at) end
replaced-plain at (a ∷ b ∷ []) end e plain =
    replaced-more (char a at) (char b (at + 1)) end []
    (none-here (char a at) (char b (at + 1)) end (and-left (eqb a question_mark && eqb b question_mark) _ (newline-no end e)))
    ∙ ap (λ text. char a at ∷ text) (replaced-plain (at + 1) (b ∷ []) end e plain.2)
replaced-plain at (a ∷ b ∷ c ∷ others) end e plain =
    replaced-more (char a at) (char b (at + 1)) (char c (at + 1 + 1)) (characters_at (at + 1 + 1 + 1) others ++ end ∷ [])
    (none-here (char a at) (char b (at + 1)) (char c (at + 1 + 1)) plain.1)
    ∙ ap (λ text. char a at ∷ text) (replaced-plain (at + 1) (b ∷ c ∷ others) end e plain.2)

-- no backslash stands before a newline
splice-none : (at : ℕ) (bytes : List ℕ) (end : Character) → Plain bytes
    → (last_splice (characters_at at bytes ++ end ∷ []) ≡ None) × (spliced (characters_at at bytes ++ end ∷ []) ≡ characters_at at bytes ++ end ∷ [])
unfolding characters_at last_splice spliced
splice-none at [] end plain = absurd plain
splice-none at (a ∷ []) end plain = by (eqb a backslash) plain.1
  where
    by : (t : Bool) → t ≡ false
        → (cond (t && eqb end.byte newline) (Some (char a at)) None ≡ None)
        × (cond (t && eqb end.byte newline) [] ((char a at) ∷ end ∷ []) ≡ (char a at) ∷ end ∷ [])
    by true e = absurd (true≢false e)
    by false e = (refl, refl)
splice-none at (a ∷ b ∷ others) end plain = by (eqb b newline) (printable-other b newline (first others plain.2) refl) (splice-none (at + 1) (b ∷ others) end plain.2)
  where
    first : (rest : List ℕ) → Plain (b ∷ rest) → printable b ≡ true
    first [] p = p.0
    first (c ∷ rest) p = p.0

    more : (others : List ℕ) → last_splice (characters_at (at + 1) (b ∷ others) ++ end ∷ []) ≡ None → last_splice (characters_at at (a ∷ b ∷ others) ++ end ∷ []) ≡ None
    more [] e = e
    more (c ∷ others) e = e

    test : (t : Bool) → spliced (characters_at (at + 1) (b ∷ others) ++ end ∷ []) ≡ characters_at (at + 1) (b ∷ others) ++ end ∷ []
        → cond (t && false) (spliced (characters_at (at + 1 + 1) others ++ end ∷ [])) (char a at ∷ spliced (characters_at (at + 1) (b ∷ others) ++ end ∷ [])) ≡ char a at ∷ (characters_at (at + 1) (b ∷ others) ++ end ∷ [])
    test true e = ap (λ text. char a at ∷ text) e
    test false e = ap (λ text. char a at ∷ text) e

    by : (t : Bool) → t ≡ false → (last_splice (characters_at (at + 1) (b ∷ others) ++ end ∷ []) ≡ None) × (spliced (characters_at (at + 1) (b ∷ others) ++ end ∷ []) ≡ characters_at (at + 1) (b ∷ others) ++ end ∷ [])
        → (last_splice (characters_at at (a ∷ b ∷ others) ++ end ∷ []) ≡ None)
        × (cond (eqb a backslash && t) (spliced (characters_at (at + 1 + 1) others ++ end ∷ [])) (char a at ∷ spliced (characters_at (at + 1) (b ∷ others) ++ end ∷ [])) ≡ char a at ∷ (characters_at (at + 1) (b ∷ others) ++ end ∷ []))
    by true e rest = absurd (true≢false e)
    by false e rest = (more others rest.0, test (eqb a backslash) rest.1)

pub flat-plain : (bytes : List ℕ) → Plain bytes → (end : Character) × (end.byte ≡ newline) × (flat_text bytes ≡ Ok (characters_at 0 bytes ++ end ∷ []))
unfolding flat_text after_phase_1 after_phase_2
flat-plain bytes plain =
    let ends = ended-plain 0 bytes plain in
    let text = characters_at 0 bytes ++ ends.0 ∷ [] in
    let first : after_phase_1 bytes ≡ characters_at 0 bytes ++ ends.0 ∷ [] =
    ap (λ t. replaced (joined (ended t))) (mark-none bytes plain) ∙ ap (λ t. replaced (joined t)) ends.2 ∙ ap replaced (joined-plain 0 bytes ends.0 plain) ∙ replaced-plain 0 bytes ends.0 ends.1 plain in
    let second = splice-none 0 bytes ends.0 plain in
    (ends.0, ends.1, ap after_phase_2 first ∙ ap (λ o. option_map_or Err o (Ok (spliced (characters_at 0 bytes ++ ends.0 ∷ [])))) second.0 ∙ ap Ok second.1)
