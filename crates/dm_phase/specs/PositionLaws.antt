-- Where the characters of a flat text stand in the file, and how the text ends.
use Rattle.std.proofs.Common.{◌≡◌, ℕ, ◌+◌, ◌≤◌, max, Bool, true, false, cond, ◌⊎◌, inl, inr, List, [], ◌∷◌, length, Option, Some, None, option_map, Result, Ok, Err, refl, sym, ◌∙◌, ap, subst, arith, ◌==◌, ◌&&◌, if◌then◌else◌}
use Rattle.std.specs.Option.{option_map_or}
use Rattle.std.proofs.lemmas.Bool.{cond_both, eqb-true}
use Rattle.dm_token.specs.Places.{newline}
use Rattle.dm_phase.specs.declared.Character.{Character}
use Rattle.dm_phase.specs.Phases.{carriage_return, question_mark, characters_at, without_mark, ended, joined, trigraph, replacement, replaced, is_splice, spliced, last_splice, after_phase_1, after_phase_2, flat_text}
use Rattle.dm_phase.specs.Positions.{InOrder, EndsInNewline, LastIsNewline, InOrder-weaker, length-in_order}
use Rattle.dm_phase.specs.Answer.{flat_of, unless_refused}

-- what holds of the characters behind each offset holds of them without the mark
without_mark_keeps : (bytes : List ℕ) (P : List Character → Type 0) → ((offset : ℕ) (rest : List ℕ) → offset + length rest ≡ length bytes → P (characters_at offset rest)) → P (without_mark (characters_at 0 bytes))
unfolding without_mark characters_at
without_mark_keeps [] P each = each 0 [] refl
without_mark_keeps (a ∷ []) P each = each 0 (a ∷ []) refl
without_mark_keeps (a ∷ b ∷ []) P each = each 0 (a ∷ b ∷ []) refl
without_mark_keeps (a ∷ b ∷ c ∷ bytes) P each =
    cond_both ((a == 239) && (b == 187) && (c == 191)) (characters_at 3 bytes) (characters_at 0 (a ∷ b ∷ c ∷ bytes)) P
    (λ _. each 3 bytes (omega arith))
    (λ _. each 0 (a ∷ b ∷ c ∷ bytes) (omega arith))

-- bytes stand in order, and so does the newline behind them
ended-in_order : (offset end : ℕ) (bytes : List ℕ) → offset + length bytes ≡ end → InOrder offset end (ended (characters_at offset bytes))
unfolding ended characters_at
ended-in_order offset end [] e = tt
ended-in_order offset end (b ∷ []) e =
    cond_both (b == newline) _ _ (InOrder offset end) (λ _. (omega arith, omega arith, tt)) (λ _. (omega arith, omega arith, (omega arith, omega arith, tt)))
ended-in_order offset end (b ∷ c ∷ bytes) e = (omega arith, omega arith, ended-in_order (offset + 1) end (c ∷ bytes) (omega arith))

-- joining keeps the order
joined-in_order : (first end : ℕ) (text : List Character) → InOrder first end text → InOrder first end (joined text)
unfolding joined
joined-in_order first end [] h = tt
joined-in_order first end (c ∷ []) h = h
joined-in_order first end (c ∷ d ∷ text) h =
    cond_both ((c.byte == carriage_return) && (d.byte == newline)) _ _ (InOrder first end)
    (λ _. (h.0, omega arith, joined-in_order (c.at + max 1 (c.width + d.width)) end text (InOrder-weaker _ (d.at + max 1 d.width) end text (omega arith) h.2.2)))
    (λ _. (h.0, h.1, joined-in_order (c.at + max 1 c.width) end (d ∷ text) h.2))

-- nothing is not something
none_is_not_some : {A : Type 0} (x : A) → None ≡ Some x → ⊥
none_is_not_some x e = cc

-- what an option's map gives, by cases
map_or_keeps : {A B : Type 0} (f : A → B) (o : Option A) (d : B) (P : B → Type 0) → P d → ((x : A) → o ≡ Some x → P (f x)) → P (option_map_or f o d)
map_or_keeps f None d P none some = none
map_or_keeps f (Some x) d P none some = some x refl

-- what an option's map is under a test, where it is something
guarded_some : {A B : Type 0} (test : Bool) (f : A → B) (o : Option A) (y : B) → (if test then option_map f o else None) ≡ Some y → (x : A) × (o ≡ Some x) × (y ≡ f x)
guarded_some false f o y e = absurd (none_is_not_some y e)
guarded_some true f None y e = absurd (none_is_not_some y e)
guarded_some true f (Some x) y e = (x, refl, cc)

-- a trigraph's character is made of the replacement of its third byte
trigraph-some : (c d e f : Character) → trigraph c d e ≡ Some f → (byte : ℕ) × (replacement e.byte ≡ Some byte) × (f ≡ record { byte = byte; at = c.at; width = c.width + d.width + e.width })
unfolding trigraph
trigraph-some c d e f some =
    guarded_some ((c.byte == question_mark) && (d.byte == question_mark)) (λ (byte : ℕ). record { byte = byte; at = c.at; width = c.width + d.width + e.width }) (replacement e.byte) f some

-- it stands where its first character stood, and is as wide as all three
trigraph-place : (c d e f : Character) → trigraph c d e ≡ Some f → (f.at ≡ c.at) × (f.width ≡ c.width + d.width + e.width)
trigraph-place c d e f some =
    let made : (byte : ℕ) × (replacement e.byte ≡ Some byte) × (f ≡ record { byte = byte; at = c.at; width = c.width + d.width + e.width }) = trigraph-some c d e f some in
    (ap (λ (character : Character). character.at) made.2, ap (λ (character : Character). character.width) made.2)

-- trigraphs keep the order
replaced-in_order : (first end : ℕ) (text : List Character) → InOrder first end text → InOrder first end (replaced text)
unfolding replaced
replaced-in_order first end [] h = tt
replaced-in_order first end (c ∷ []) h = h
replaced-in_order first end (c ∷ d ∷ []) h = h
replaced-in_order first end (c ∷ d ∷ e ∷ text) h =
    map_or_keeps (λ f. f ∷ replaced text) (trigraph c d e) (c ∷ replaced (d ∷ e ∷ text)) (InOrder first end)
    (h.0, h.1, replaced-in_order (c.at + max 1 c.width) end (d ∷ e ∷ text) h.2)
    (λ f some. let same : (f.at ≡ c.at) × (f.width ≡ c.width + d.width + e.width) = trigraph-place c d e f some in
    (omega arith, omega arith, replaced-in_order (f.at + max 1 f.width) end text (InOrder-weaker _ (e.at + max 1 e.width) end text (omega arith) h.2.2.2)))

-- splices keep the order
spliced-in_order : (first end : ℕ) (text : List Character) → InOrder first end text → InOrder first end (spliced text)
unfolding spliced
spliced-in_order first end [] h = tt
spliced-in_order first end (c ∷ []) h = h
spliced-in_order first end (c ∷ d ∷ text) h =
    cond_both (is_splice c d) _ _ (InOrder first end)
    (λ _. spliced-in_order first end text (InOrder-weaker first (d.at + max 1 d.width) end text (omega arith) h.2.2))
    (λ _. (h.0, h.1, spliced-in_order (c.at + max 1 c.width) end (d ∷ text) h.2))

-- The text of a file after phase 1 stands in order.
pub after_phase_1-in_order : (bytes : List ℕ) → InOrder 0 (length bytes) (after_phase_1 bytes)
unfolding after_phase_1
after_phase_1-in_order bytes =
    replaced-in_order 0 (length bytes) _ (joined-in_order 0 (length bytes) _
    (without_mark_keeps bytes (λ text. InOrder 0 (length bytes) (ended text))
    (λ offset rest e. InOrder-weaker 0 offset (length bytes) _ (omega arith) (ended-in_order offset (length bytes) rest e))))

-- an error is no answer
err_is_not_ok : {A B : Type 0} (a : A) (y : B) → Err a ≡ Ok y → ⊥
err_is_not_ok a y e = cc

-- what is answered where there is no error
ok_unless : {A B : Type 0} (o : Option A) (x y : B) → option_map_or Err o (Ok x) ≡ Ok y → (o ≡ None) × (y ≡ x)
ok_unless None x y e = (refl, cc)
ok_unless (Some a) x y e = absurd (err_is_not_ok a y e)

-- what phase 2 gives is the text without splices, none of which is the last
after_phase_2-ok : (text flat : List Character) → after_phase_2 text ≡ Ok flat → (last_splice text ≡ None) × (flat ≡ spliced text)
unfolding after_phase_2
after_phase_2-ok text flat e = ok_unless (last_splice text) (spliced text) flat e

-- A flat text stands in order.
pub flat_text-in_order : (bytes : List ℕ) (flat : List Character) → flat_text bytes ≡ Ok flat → InOrder 0 (length bytes) flat
unfolding flat_text
flat_text-in_order bytes flat e =
    rw (after_phase_2-ok (after_phase_1 bytes) flat e).1 (spliced-in_order 0 (length bytes) (after_phase_1 bytes) (after_phase_1-in_order bytes))

-- A flat text has at most one character more than the file has bytes.
pub flat_text-count : (bytes : List ℕ) (flat : List Character) → flat_text bytes ≡ Ok flat → length flat ≤ length bytes + 1
flat_text-count bytes flat e = omega (arith, length-in_order 0 (length bytes) flat (flat_text-in_order bytes flat e))

-- Whether a text isn't empty and ends in a newline.
abbrev IsWhole : List Character → Type 0
IsWhole [] = ⊥
IsWhole (c ∷ text) = LastIsNewline c text

-- a text stays whole behind a further character
IsWhole-cons : (c : Character) (text : List Character) → IsWhole text → IsWhole (c ∷ text)
IsWhole-cons c [] h = absurd h
IsWhole-cons c (d ∷ text) h = h

-- a file with a newline at its end is whole
ended-whole : (offset b : ℕ) (bytes : List ℕ) → IsWhole (ended (characters_at offset (b ∷ bytes)))
unfolding ended characters_at
ended-whole offset b [] = cond_both (b == newline) _ _ IsWhole (λ e. eqb-true b newline e) (λ _. refl)
ended-whole offset b (c ∷ bytes) = IsWhole-cons (record { byte = b; at = offset; width = 1 }) (ended (characters_at (offset + 1) (c ∷ bytes))) (ended-whole (offset + 1) c bytes)

-- joining keeps it whole
joined-whole : (text : List Character) → IsWhole text → IsWhole (joined text)
unfolding joined
joined-whole [] h = h
joined-whole (c ∷ []) h = h
joined-whole (c ∷ d ∷ []) h =
    cond_both ((c.byte == carriage_return) && (d.byte == newline)) _ _ IsWhole (λ _. refl) (λ _. h)
joined-whole (c ∷ d ∷ e ∷ text) h =
    cond_both ((c.byte == carriage_return) && (d.byte == newline)) _ _ IsWhole
    (λ _. IsWhole-cons (record { byte = newline; at = c.at; width = c.width + d.width }) (joined (e ∷ text)) (joined-whole (e ∷ text) h))
    (λ _. IsWhole-cons c (joined (d ∷ e ∷ text)) (joined-whole (d ∷ e ∷ text) h))

-- a newline is no trigraph's third byte
newline-no_third : (byte : ℕ) → replacement newline ≡ Some byte → ⊥
newline-no_third byte e = cc

-- trigraphs keep it whole
replaced-whole : (text : List Character) → IsWhole text → IsWhole (replaced text)
unfolding replaced
replaced-whole [] h = h
replaced-whole (c ∷ []) h = h
replaced-whole (c ∷ d ∷ []) h = h
replaced-whole (c ∷ d ∷ e ∷ []) h =
    map_or_keeps (λ f. f ∷ replaced []) (trigraph c d e) (c ∷ replaced (d ∷ e ∷ [])) IsWhole h
    (λ f some. let made : (byte : ℕ) × (replacement e.byte ≡ Some byte) × (f ≡ record { byte = byte; at = c.at; width = c.width + d.width + e.width }) = trigraph-some c d e f some in
    absurd (newline-no_third made.0 (subst (λ n. replacement n ≡ Some made.0) h made.1)))
replaced-whole (c ∷ d ∷ e ∷ g ∷ text) h =
    map_or_keeps (λ f. f ∷ replaced (g ∷ text)) (trigraph c d e) (c ∷ replaced (d ∷ e ∷ g ∷ text)) IsWhole
    (IsWhole-cons c (replaced (d ∷ e ∷ g ∷ text)) (replaced-whole (d ∷ e ∷ g ∷ text) h))
    (λ f some. IsWhole-cons f (replaced (g ∷ text)) (replaced-whole (g ∷ text) h))

-- where no newline at the end goes, none goes without the first character
last_splice-tail : (c : Character) (text : List Character) → last_splice (c ∷ text) ≡ None → last_splice text ≡ None
unfolding last_splice
last_splice-tail c [] none = refl
last_splice-tail c (d ∷ []) none = refl
last_splice-tail c (d ∷ e ∷ text) none = none

-- splices keep it whole, unless the last newline goes
spliced-whole : (text : List Character) → IsWhole text → last_splice text ≡ None → IsWhole (spliced text)
unfolding spliced last_splice
spliced-whole [] h none = h
spliced-whole (c ∷ []) h none = h
spliced-whole (c ∷ d ∷ []) h none =
    cond_both (is_splice c d) [] (c ∷ d ∷ []) IsWhole
    (λ e. none_is_not_some c (sym (let spliced_away : cond (is_splice c d) (Some c) None ≡ None = none in rw e at spliced_away)))
    (λ _. h)
spliced-whole (c ∷ d ∷ e ∷ text) h none =
    cond_both (is_splice c d) (spliced (e ∷ text)) (c ∷ spliced (d ∷ e ∷ text)) IsWhole
    (λ _. spliced-whole (e ∷ text) h (last_splice-tail d (e ∷ text) none))
    (λ _. IsWhole-cons c (spliced (d ∷ e ∷ text)) (spliced-whole (d ∷ e ∷ text) h none))

-- A whole text ends in a newline.
EndsInNewline-whole : (text : List Character) → IsWhole text → EndsInNewline text
EndsInNewline-whole [] h = tt
EndsInNewline-whole (c ∷ text) h = h

-- what phase 1 makes of bytes is empty or whole
after_phase_1-whole_at : (offset : ℕ) (bytes : List ℕ) → (replaced (joined (ended (characters_at offset bytes))) ≡ []) ⊎ IsWhole (replaced (joined (ended (characters_at offset bytes))))
unfolding characters_at ended joined replaced
after_phase_1-whole_at offset [] = inl refl
after_phase_1-whole_at offset (b ∷ bytes) = inr (replaced-whole (joined (ended (characters_at offset (b ∷ bytes)))) (joined-whole (ended (characters_at offset (b ∷ bytes))) (ended-whole offset b bytes)))

-- The text after phase 1 is empty or whole.
after_phase_1-whole : (bytes : List ℕ) → (after_phase_1 bytes ≡ []) ⊎ IsWhole (after_phase_1 bytes)
unfolding after_phase_1
after_phase_1-whole bytes =
    without_mark_keeps bytes (λ text. (replaced (joined (ended text)) ≡ []) ⊎ IsWhole (replaced (joined (ended text)))) (λ offset rest e. after_phase_1-whole_at offset rest)

-- A flat text that isn't empty ends in a newline.
pub flat_text-ends_in_newline : (bytes : List ℕ) (flat : List Character) → flat_text bytes ≡ Ok flat → EndsInNewline flat
unfolding flat_text spliced
flat_text-ends_in_newline bytes flat e =
    let parts : (last_splice (after_phase_1 bytes) ≡ None) × (flat ≡ spliced (after_phase_1 bytes)) = after_phase_2-ok (after_phase_1 bytes) flat e in
    elim (after_phase_1-whole bytes) [
      | inl empty ↦ subst EndsInNewline (sym (parts.1 ∙ ap spliced empty)) tt
      | inr whole ↦ subst EndsInNewline (sym parts.1) (EndsInNewline-whole (spliced (after_phase_1 bytes)) (spliced-whole (after_phase_1 bytes) whole parts.0))
    ]

-- texts that are answered are equal where the answers are
answered_texts : (file : ℕ) (bytes : List ℕ) (text flat : List Character) → unless_refused file bytes (Ok text) ≡ Ok flat → text ≡ flat
answered_texts file bytes text flat e = cc

-- what is a text is the flat text
text_unless_refused : (file : ℕ) (bytes : List ℕ) (result : Result (List Character) Character) (flat : List Character) → unless_refused file bytes result ≡ Ok flat → result ≡ Ok flat
text_unless_refused file bytes (Ok text) flat e = ap Ok (answered_texts file bytes text flat e)
text_unless_refused file bytes (Err c) flat e = absurd (err_is_not_ok _ flat e)

-- Where a file isn't refused, its text is the flat text of its bytes.
pub flat_of-text : (file : ℕ) (bytes : List ℕ) (flat : List Character) → flat_of file bytes ≡ Ok flat → flat_text bytes ≡ Ok flat
unfolding flat_of
flat_of-text file bytes flat e = text_unless_refused file bytes (flat_text bytes) flat e

-- It stands in order.
pub flat_of-in_order : (file : ℕ) (bytes : List ℕ) (flat : List Character) → flat_of file bytes ≡ Ok flat → InOrder 0 (length bytes) flat
flat_of-in_order file bytes flat e = flat_text-in_order bytes flat (flat_of-text file bytes flat e)
