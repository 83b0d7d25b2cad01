-- The characters of a text show the bytes at which they stand.
use Rattle.std.proofs.Common.{◌≡◌, ℕ, ◌+◌, ◌<◌, ◌≤◌, Bool, true, false, cond, ◌&&◌, ◌⊎◌, inl, inr, List, [], ◌∷◌, ◌++◌, length, Option, None, Some, IfSome, Result, Ok, Err, get_or, eqb, refl, sym, ap, ◌∙◌, subst, arith, append_assoc, true≢false}
use Rattle.std.specs.Prelude.{option_map}
use Rattle.std.specs.List.{AllByRecursion}
use Rattle.std.specs.Option.{option_map_or}
use Rattle.std.proofs.lemmas.Bool.{cond_both, eqb-true, and_parts}
use Rattle.std.proofs.lemmas.List.{length-append, get_or-append-add}
use Rattle.dm_phase.specs.declared.Character.{Character}
use Rattle.dm_phase.specs.Phases.{newline, carriage_return, question_mark, characters_at, is_mark, without_mark, ended, joined, trigraph, replacement, replaced, is_splice, spliced, last_splice, after_phase_1, after_phase_2, flat_text}

module _ (bytes : List ℕ) where
  -- a character is a newline, or its byte stands in the file, or the first of a trigraph
  abbrev pub Shown : Character → Type 0
  Shown c = (c.byte ≡ newline) ⊎ ((1 ≤ c.width) × (c.at < length bytes) × ((get_or bytes c.at 0 ≡ c.byte) ⊎ (get_or bytes c.at 0 ≡ question_mark)))

  abbrev pub AllShown : List Character → Type 0
  AllShown text = AllByRecursion Shown text

  at-shown : (front rest : List ℕ) → bytes ≡ front ++ rest → AllShown (characters_at (length front) rest)
  unfolding characters_at
  at-shown front [] e = tt
  at-shown front (b ∷ rest) e =
      let long : length bytes ≡ length front + length (b ∷ rest) = ap length e ∙ length-append front (b ∷ rest) in
      let more : length (front ++ b ∷ []) ≡ length front + 1 = length-append front (b ∷ []) in
      let zeroth : length front + 0 ≡ length front = omega arith in
      let here : get_or bytes (length front) 0 ≡ b = ap (λ bs. get_or bs (length front) 0) e ∙ ap (λ n. get_or (front ++ b ∷ rest) n 0) (sym zeroth) ∙ get_or-append-add front (b ∷ rest) 0 0 in (
        inr (omega arith, omega (arith, long), inl here),
        subst (λ n. AllShown (characters_at n rest)) more (at-shown (front ++ b ∷ []) rest (e ∙ sym (append_assoc front (b ∷ []) rest))),
      )

  mark-shown : (text : List Character) → AllShown text → AllShown (without_mark text)
  unfolding without_mark
  mark-shown [] all = tt
  mark-shown (a ∷ []) all = all
  mark-shown (a ∷ b ∷ []) all = all
  mark-shown (a ∷ b ∷ c ∷ text) all = cond_both (is_mark a b c) text (a ∷ b ∷ c ∷ text) AllShown (λ _. all.1.1.1) (λ _. all)

  ended-shown : (text : List Character) → AllShown text → AllShown (ended text)
  unfolding ended
  ended-shown [] all = tt
  ended-shown (c ∷ []) all = cond_both (eqb c.byte newline) (c ∷ []) (c ∷ (record { byte = newline; at = c.at + c.width; width = 0 }) ∷ []) AllShown (λ _. all) (λ _. (all.0, (inl refl, tt)))
  ended-shown (c ∷ d ∷ text) all = (all.0, ended-shown (d ∷ text) all.1)

  joined-shown : (text : List Character) → AllShown text → AllShown (joined text)
  unfolding joined
  joined-shown [] all = tt
  joined-shown (c ∷ []) all = all
  joined-shown (c ∷ d ∷ text) all =
      cond_both (eqb c.byte carriage_return && eqb d.byte newline) ((record { byte = newline; at = c.at; width = c.width + d.width }) ∷ joined text) (c ∷ joined (d ∷ text)) AllShown
      (λ _. (inl refl, joined-shown text all.1.1)) (λ _. (all.0, joined-shown (d ∷ text) all.1))

  -- the first of a trigraph is a question mark
  mark-first : (a b c : Character) (byte : ℕ) → (eqb a.byte question_mark && eqb b.byte question_mark) ≡ true → Shown a → Shown (record { byte = byte; at = a.at; width = a.width + b.width + c.width })
  mark-first a b c byte is (inl line) = absurd (true≢false (sym (ap (λ n. eqb n newline) line) ∙ ap (λ n. eqb n newline) (eqb-true a.byte question_mark (and_parts (eqb a.byte question_mark) (eqb b.byte question_mark) is).0)))
  mark-first a b c byte is (inr shown) =
      let wide = shown.0 in
      inr (omega (arith, wide), shown.1, inr (by shown.2))
    where
      by : (get_or bytes a.at 0 ≡ a.byte) ⊎ (get_or bytes a.at 0 ≡ question_mark) → get_or bytes a.at 0 ≡ question_mark
      by (inl e) = e ∙ eqb-true a.byte question_mark (and_parts (eqb a.byte question_mark) (eqb b.byte question_mark) is).0
      by (inr e) = e

  trigraph-shown : (a b c : Character) → Shown a → IfSome (trigraph a b c) Shown
  unfolding trigraph
  trigraph-shown a b c shown = by (eqb a.byte question_mark && eqb b.byte question_mark) refl (replacement c.byte)
    where
      by : (t : Bool) → (eqb a.byte question_mark && eqb b.byte question_mark) ≡ t → (o : Option ℕ)
          → IfSome (cond t (option_map {U = Character} (λ byte. record { byte = byte; at = a.at; width = a.width + b.width + c.width }) o) None) Shown
      by true e None = tt
      by true e (Some byte) = mark-first a b c byte e shown
      by false e o = tt

  replaced-shown : (text : List Character) → AllShown text → AllShown (replaced text)
  unfolding replaced
  replaced-shown [] all = tt
  replaced-shown (a ∷ []) all = all
  replaced-shown (a ∷ b ∷ []) all = all
  replaced-shown (a ∷ b ∷ c ∷ text) all = by (trigraph a b c) (trigraph-shown a b c all.0) (replaced-shown text all.1.1.1) (replaced-shown (b ∷ c ∷ text) all.1)
    where
      by : (o : Option Character) → IfSome o Shown → AllShown (replaced text) → AllShown (replaced (b ∷ c ∷ text)) → AllShown (option_map_or (λ d. d ∷ replaced text) o (a ∷ replaced (b ∷ c ∷ text)))
      by None some first second = (all.0, second)
      by (Some d) some first second = (some, first)

  spliced-shown : (text : List Character) → AllShown text → AllShown (spliced text)
  unfolding spliced
  spliced-shown [] all = tt
  spliced-shown (c ∷ []) all = all
  spliced-shown (c ∷ d ∷ text) all = cond_both (is_splice c d) (spliced text) (c ∷ spliced (d ∷ text)) AllShown (λ _. spliced-shown text all.1.1) (λ _. (all.0, spliced-shown (d ∷ text) all.1))

  first-shown : AllShown (after_phase_1 bytes)
  unfolding after_phase_1
  first-shown =
      replaced-shown (joined (ended (without_mark (characters_at 0 bytes)))) (joined-shown (ended (without_mark (characters_at 0 bytes)))
      (ended-shown (without_mark (characters_at 0 bytes)) (mark-shown (characters_at 0 bytes) (at-shown [] bytes refl))))

  pub text-shown : (text : List Character) → flat_text bytes ≡ Ok text → AllShown text
  unfolding flat_text after_phase_2
  text-shown text is = by (last_splice (after_phase_1 bytes)) is
    where
      ok-is : (one other : List Character) → ◌≡◌ {A = Result (List Character) Character} (Ok one) (Ok other) → one ≡ other
      ok-is one other e = cc

      no-ok : (c : Character) → ◌≡◌ {A = Result (List Character) Character} (Err c) (Ok text) → ⊥
      no-ok c e = cc

      by : (o : Option Character) → option_map_or Err o (Ok (spliced (after_phase_1 bytes))) ≡ Ok text → AllShown text
      by None e = subst AllShown (ok-is (spliced (after_phase_1 bytes)) text e) (spliced-shown (after_phase_1 bytes) first-shown)
      by (Some c) e = absurd (no-ok c e)
