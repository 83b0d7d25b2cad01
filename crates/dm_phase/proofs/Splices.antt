-- What phase 2 does at the front of a text.
use Rattle.std.proofs.Common.{◌≡◌, ◌<◌, ◌+◌, ℕ, suc, true, false, List, [], ◌∷◌, ◌++◌, length, get_or, Option, Some, None, Result, Ok, Err, refl, sym, ◌∙◌, ap, append_assoc, append-nil, ◌==◌, arith}
use Rattle.std.specs.Option.{option_map_or}
use Rattle.std.proofs.lemmas.Bool.{cond-true, cond-false, eqb-true, and_parts, and_left, and_right}
use Rattle.dm_token.specs.Places.{newline}
use Rattle.dm_phase.specs.declared.Character.{Character}
use Rattle.dm_phase.specs.Phases.{backslash, is_splice, spliced, last_splice, after_phase_2, characters_at}
use Rattle.dm_phase.specs.Front.{is_plain}
use Rattle.dm_phase.specs.Pending.{begins_splice, Splices, behind}
use Rattle.dm_phase.proofs.PlainLemmas.{is_plain-parts}

-- a text behind another behind a third
behind-append : (front text : List Character) (result : Result (List Character) Character) → behind front (behind text result) ≡ behind (front ++ text) result
behind-append front text (Ok others) = ap Ok (sym (append_assoc front text others))
behind-append front text (Err c) = refl

-- nothing before a text
pub behind-none : (result : Result (List Character) Character) → behind [] result ≡ result
behind-none (Ok text) = refl
behind-none (Err c) = refl

-- phase 2 behind a character that stays
kept-made : (c : Character) (o : Option Character) (text : List Character) → option_map_or Err o (Ok (c ∷ text)) ≡ behind (c ∷ []) (option_map_or Err o (Ok text))
kept-made c None text = refl
kept-made c (Some d) text = refl

-- a character that begins no splice stays in the text
spliced-kept : (c d : Character) (text : List Character) → is_splice c d ≡ false → spliced (c ∷ d ∷ text) ≡ c ∷ spliced (d ∷ text)
unfolding spliced
spliced-kept c d text e = cond-false (is_splice c d) _ _ e

-- a splice goes from the text
spliced-deleted : (c d : Character) (text : List Character) → is_splice c d ≡ true → spliced (c ∷ d ∷ text) ≡ spliced text
unfolding spliced
spliced-deleted c d text e = cond-true (is_splice c d) _ _ e

-- a newline begins no splice
last_splice-newline : (d e : Character) (others : List Character) → (d.byte == newline) ≡ true → last_splice (d ∷ e ∷ others) ≡ last_splice (e ∷ others)
unfolding last_splice
last_splice-newline d e [] n = let same : d.byte ≡ newline = eqb-true d.byte newline n in rw same refl
last_splice-newline d e (g ∷ others) n = refl

-- a character that begins no splice stays in what phase 2 gives
after_phase_2-kept : (c : Character) (text : List Character) → begins_splice c text ≡ false → after_phase_2 (c ∷ text) ≡ behind (c ∷ []) (after_phase_2 text)
unfolding after_phase_2 spliced last_splice begins_splice
after_phase_2-kept c [] e = refl
after_phase_2-kept c (d ∷ []) e = rw e refl
after_phase_2-kept c (d ∷ g ∷ others) e =
    ap (λ text. option_map_or Err (last_splice (d ∷ g ∷ others)) (Ok text)) (spliced-kept c d (g ∷ others) e)
    ∙ kept-made c (last_splice (d ∷ g ∷ others)) (spliced (d ∷ g ∷ others))

-- a splice goes where more text follows it
after_phase_2-deleted : (c d : Character) (others : List Character) → is_splice c d ≡ true → (others ≡ [] → ⊥) → after_phase_2 (c ∷ d ∷ others) ≡ after_phase_2 others
unfolding after_phase_2 spliced last_splice
after_phase_2-deleted c d [] s more = absurd (more refl)
after_phase_2-deleted c d (e ∷ others) s more =
    ap (λ text. option_map_or Err (last_splice (d ∷ e ∷ others)) (Ok text)) (spliced-deleted c d (e ∷ others) s)
    ∙ ap (λ last. option_map_or Err last (Ok (spliced (e ∷ others)))) (last_splice-newline d e others (and_parts (c.byte == backslash) (d.byte == newline) s).1)

-- a splice at the end is an error
after_phase_2-refused : (c d : Character) → is_splice c d ≡ true → after_phase_2 (c ∷ d ∷ []) ≡ Err c
unfolding after_phase_2 spliced last_splice
after_phase_2-refused c d s = rw s refl

-- a character that is no backslash begins no splice
pub begins_splice-not : (c : Character) (text : List Character) → (c.byte == backslash) ≡ false → begins_splice c text ≡ false
unfolding begins_splice
begins_splice-not c [] e = refl
begins_splice-not c (d ∷ text) e = and_left (c.byte == backslash) (d.byte == newline) e

-- A character that begins no splice is kept.
pub keeps : (kept kept' text left : List Character) (c : Character) → Splices c text false left → kept' ≡ kept ++ c ∷ [] → behind kept' (after_phase_2 left) ≡ behind kept (after_phase_2 (c ∷ text))
keeps kept kept' text left c splice more =
    rw (more, ← splice.1) (sym (behind-append kept (c ∷ []) (after_phase_2 text)) ∙ ap (behind kept) (sym (after_phase_2-kept c text splice.0)))

-- A splice is passed over where more text follows it.
pub deletes : (kept text left : List Character) (c : Character) → Splices c text true left → (left ≡ [] → ⊥) → behind kept (after_phase_2 left) ≡ behind kept (after_phase_2 (c ∷ text))
deletes kept text left c splice more =
    ap (behind kept) (sym (ap (λ t. after_phase_2 (c ∷ t)) splice.2 ∙ after_phase_2-deleted c splice.0 left splice.1 more))

-- A splice at the end is what is refused.
pub refuses : (text left : List Character) (c : Character) → Splices c text true left → left ≡ [] → after_phase_2 (c ∷ text) ≡ Err c
refuses text left c splice none =
    ap (λ t. after_phase_2 (c ∷ t)) (splice.2 ∙ ap (λ l. splice.0 ∷ l) none) ∙ after_phase_2-refused c splice.0 splice.1

-- At the end what is kept is the text.
pub ends : (kept : List Character) (flat : Result (List Character) Character) → behind kept (after_phase_2 []) ≡ flat → flat ≡ Ok kept
unfolding after_phase_2 last_splice spliced
ends kept flat before = sym before ∙ ap Ok (append-nil kept)

-- Bytes to which nothing happens are kept.
pub runs : (at : ℕ) (run : List ℕ) (others : List Character) → ((k : ℕ) → k < length run → is_plain (get_or run k 0) ≡ true) → after_phase_2 (characters_at at run ++ others) ≡ behind (characters_at at run) (after_phase_2 others)
unfolding characters_at
runs at [] others all = sym (behind-none (after_phase_2 others))
runs at (byte ∷ run) others all =
    let c : Character = record { byte = byte; at = at; width = 1 } in
    after_phase_2-kept c (characters_at (at + 1) run ++ others) (begins_splice-not c _ (is_plain-parts byte (all 0 (omega arith))).2)
    ∙ ap (behind (c ∷ [])) (runs (at + 1) run others (λ k below. all (suc k) (omega arith)))
    ∙ behind-append (c ∷ []) (characters_at (at + 1) run) (after_phase_2 others)

-- Kept bytes to which nothing happens.
pub keeps_run : (kept kept' text left : List Character) (at : ℕ) (run : List ℕ) → ((k : ℕ) → k < length run → is_plain (get_or run k 0) ≡ true) → text ≡ characters_at at run ++ left → kept' ≡ kept ++ characters_at at run →
    behind kept' (after_phase_2 left) ≡ behind kept (after_phase_2 text)
keeps_run kept kept' text left at run all read more =
    rw (more, read) (sym (ap (behind kept) (runs at run left all) ∙ behind-append kept (characters_at at run) (after_phase_2 left)))

-- At the end none begins.
pub begins_splice-none : (c : Character) (text : List Character) → text ≡ [] → begins_splice c text ≡ false
unfolding begins_splice
begins_splice-none c text none = ap (begins_splice c) none

-- Before a character that is no newline none begins.
pub begins_splice-second : (c d : Character) (text others : List Character) → text ≡ d ∷ others → (d.byte == newline) ≡ false → begins_splice c text ≡ false
unfolding begins_splice
begins_splice-second c d text others e second = ap (begins_splice c) e ∙ and_right (c.byte == backslash) (d.byte == newline) second

-- What is refused is refused behind any text.
pub behind-err : (kept : List Character) (result : Result (List Character) Character) (c : Character) → result ≡ Err c → behind kept result ≡ Err c
behind-err kept result c e = ap (behind kept) e
