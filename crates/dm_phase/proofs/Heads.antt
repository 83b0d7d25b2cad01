-- What phase 1 gives at the front of what is left of a file.
use Rattle.std.proofs.Common.{◌≡◌, ℕ, ◌+◌, Bool, true, false, not, List, [], ◌∷◌, drop, Option, Some, None, ◌⊎◌, inl, inr, refl, sym, ◌∙◌, ap, subst, arith, ◌==◌, ◌&&◌, if◌then◌else◌}
use Rattle.std.specs.Option.{option_map_or, is_some}
use Rattle.std.proofs.lemmas.Bool.{cond_both, eqb-true, and_right, cases_Bool, not-true, not-false, both_ways}
use Rattle.dm_token.specs.Places.{newline}
use Rattle.dm_phase.specs.declared.Character.{Character}
use Rattle.dm_phase.specs.Phases.{carriage_return, question_mark, characters_at, without_mark, ended, joined, trigraph, replaced, replacement, after_phase_1}
use Rattle.dm_phase.specs.Front.{mark_length, unread, unread_after_phase_1, front, front_at_question_mark, front_at_carriage_return}

-- what an option's map gives, by cases
map_or_both : {A B : Type 0} (f : A → B) (o : Option A) (d : B) (P : B → Type 0) → (o ≡ None → P d) → ((x : A) → o ≡ Some x → P (f x)) → P (option_map_or f o d)
map_or_both f None d P none some = none refl
map_or_both f (Some x) d P none some = some x refl

-- a character that is no carriage return stays
joined-other : (c : Character) (text : List Character) → (c.byte == carriage_return) ≡ false → joined (c ∷ text) ≡ c ∷ joined text
unfolding joined
joined-other c [] e = refl
joined-other c (d ∷ text) e = rw e refl

-- a carriage return and a newline are joined
joined-pair : (c d : Character) (text : List Character) → ((c.byte == carriage_return) && (d.byte == newline)) ≡ true → joined (c ∷ d ∷ text) ≡ (record { byte = newline; at = c.at; width = c.width + d.width }) ∷ joined text
unfolding joined
joined-pair c d text e = rw e refl

-- a character stays before another with which it isn't joined
joined-apart : (c d : Character) (text : List Character) → ((c.byte == carriage_return) && (d.byte == newline)) ≡ false → joined (c ∷ d ∷ text) ≡ c ∷ joined (d ∷ text)
unfolding joined
joined-apart c d text e = rw e refl

-- a character that is no question mark stays
replaced-other : (c : Character) (text : List Character) → (c.byte == question_mark) ≡ false → replaced (c ∷ text) ≡ c ∷ replaced text
unfolding replaced trigraph
replaced-other c [] e = refl
replaced-other c (d ∷ []) e = refl
replaced-other c (d ∷ e ∷ text) n = rw n refl

-- a character stays where the two behind it don't make a trigraph
replaced-none : (c d e : Character) (text : List Character) → trigraph c d e ≡ None → replaced (c ∷ d ∷ e ∷ text) ≡ c ∷ replaced (d ∷ e ∷ text)
unfolding replaced
replaced-none c d e text n = rw n refl

-- three characters that are a trigraph are replaced
replaced-some : (c d e f : Character) (text : List Character) → trigraph c d e ≡ Some f → replaced (c ∷ d ∷ e ∷ text) ≡ f ∷ replaced text
unfolding replaced
replaced-some c d e f text n = rw n refl

-- behind a question mark, a character that is none stops a trigraph
replaced-second : (c d : Character) (text : List Character) → (d.byte == question_mark) ≡ false → replaced (c ∷ d ∷ text) ≡ c ∷ replaced (d ∷ text)
unfolding replaced trigraph
replaced-second c d [] n = refl
replaced-second c d (e ∷ text) n = rw (and_right (c.byte == question_mark) (d.byte == question_mark) n) refl

-- a byte that isn't the third of a trigraph stops one
replaced-third : (c d e : Character) (text : List Character) → replacement e.byte ≡ None → replaced (c ∷ d ∷ e ∷ text) ≡ c ∷ replaced (d ∷ e ∷ text)
unfolding trigraph
replaced-third c d e text n =
    replaced-none c d e text (rw n (cond_both ((c.byte == question_mark) && (d.byte == question_mark)) None None (λ o. o ≡ None) (λ _. refl) (λ _. refl)))

-- A text begins with a byte, or with a newline.
abbrev Begins : ℕ → List Character → Type 0
Begins b [] = ⊥
Begins b (d ∷ text) = (d.byte ≡ b) ⊎ (d.byte ≡ newline)

-- a joined text begins with its first byte, or with a newline
joined-begins : (c : Character) (text : List Character) → Begins c.byte (joined (c ∷ text))
unfolding joined
joined-begins c [] = inl refl
joined-begins c (d ∷ text) = cond_both ((c.byte == carriage_return) && (d.byte == newline)) _ _ (Begins c.byte) (λ _. inr refl) (λ _. inl refl)

-- a text that begins with no question mark stops a trigraph
replaced-before : (c : Character) (b : ℕ) (text : List Character) → Begins b text → (b == question_mark) ≡ false → replaced (c ∷ text) ≡ c ∷ replaced text
replaced-before c b [] begins n = absurd begins
replaced-before c b (d ∷ text) begins n =
    elim begins [
      | inl e ↦ replaced-second c d text (rw e n)
      | inr e ↦ replaced-second c d text (rw e refl)
    ]

-- nor does one that begins with a byte that isn't the third of a trigraph make one
replaced-before_third : (c d : Character) (b : ℕ) (text : List Character) → Begins b text → replacement b ≡ None → replaced (c ∷ d ∷ text) ≡ c ∷ replaced (d ∷ text)
replaced-before_third c d b [] begins n = absurd begins
replaced-before_third c d b (e ∷ text) begins n =
    elim begins [
      | inl same ↦ replaced-third c d e text (rw same n)
      | inr same ↦ replaced-third c d e text (rw same refl)
    ]

-- the third byte of a trigraph ends no line, and what it stands for is no newline
replacement-ends_no_line : (b r : ℕ) → replacement b ≡ Some r → ((b == carriage_return) ≡ false) × ((b == newline) ≡ false) × ((r == newline) ≡ false)
replacement-ends_no_line b r e = grind arith

-- What the front says of what is left after phase 1.
abbrev Reads : Bool → ℕ → List ℕ → Option (ℕ × ℕ) → Type 0
Reads has_ended offset bytes None = unread_after_phase_1 has_ended offset bytes ≡ []
Reads has_ended offset bytes (Some next) =
    unread_after_phase_1 has_ended offset bytes ≡ (record { byte = next.0; at = offset; width = next.1 }) ∷ unread_after_phase_1 (next.0 == newline) (offset + next.1) (drop next.1 bytes)

-- a byte as a character
abbrev character : ℕ → ℕ → Character
character byte offset = record { byte = byte; at = offset; width = 1 }

-- a trigraph's character
abbrev character_of_three : ℕ → ℕ → Character
character_of_three byte offset = record { byte = byte; at = offset; width = 3 }

-- at a byte that is neither a question mark nor a carriage return
pub reads-other : (has_ended : Bool) (offset a : ℕ) (bytes : List ℕ) → (a == question_mark) ≡ false → (a == carriage_return) ≡ false → Reads has_ended offset (a ∷ bytes) (Some (a, 1))
unfolding unread_after_phase_1 unread
reads-other has_ended offset a bytes q r =
    ap replaced (joined-other (character a offset) _ r) ∙ replaced-other (character a offset) _ q

-- at a carriage return before a newline
reads-end_of_line : (has_ended : Bool) (offset : ℕ) (bytes : List ℕ) → Reads has_ended offset (carriage_return ∷ newline ∷ bytes) (Some (newline, 2))
unfolding unread_after_phase_1 unread
reads-end_of_line has_ended offset bytes =
    let e : offset + 1 + 1 ≡ offset + 2 = omega arith in
    ap replaced (joined-pair (character carriage_return offset) (character newline (offset + 1)) _ refl)
    ∙ replaced-other (record { byte = newline; at = offset; width = 2 }) _ refl
    ∙ ap (λ next. (record { byte = newline; at = offset; width = 2 }) ∷ unread_after_phase_1 true next bytes) e

-- at any carriage return
reads-carriage_return : (has_ended : Bool) (offset : ℕ) (bytes : List ℕ) → Reads has_ended offset (carriage_return ∷ bytes) (Some (front_at_carriage_return bytes))
unfolding unread_after_phase_1 unread joined replaced
reads-carriage_return has_ended offset [] = refl
reads-carriage_return has_ended offset (b ∷ bytes) =
    let At : ℕ × ℕ → Type 0 = λ next. Reads has_ended offset (carriage_return ∷ b ∷ bytes) (Some next) in
    cond_both (b == newline) (newline, 2) (carriage_return, 1) At
    (λ e. let same : newline ≡ b = sym (eqb-true b newline e) in subst (λ n. Reads has_ended offset (carriage_return ∷ n ∷ bytes) (Some (newline, 2))) same (reads-end_of_line has_ended offset bytes))
    (λ e. ap replaced (joined-apart (character carriage_return offset) (character b (offset + 1)) _ e) ∙ replaced-other (character carriage_return offset) _ refl)

-- at a question mark that begins no trigraph
reads-question : (has_ended : Bool) (offset b : ℕ) (bytes : List ℕ) → (b == question_mark) ≡ false → Reads has_ended offset (question_mark ∷ b ∷ bytes) (Some (question_mark, 1))
unfolding unread_after_phase_1 unread
reads-question has_ended offset b bytes e =
    ap replaced (joined-other (character question_mark offset) _ refl)
    ∙ replaced-before (character question_mark offset) b _ (joined-begins (character b (offset + 1)) _) e

-- at two of them and a third byte that belongs to none
reads-two_questions : (has_ended : Bool) (offset c : ℕ) (bytes : List ℕ) → replacement c ≡ None → Reads has_ended offset (question_mark ∷ question_mark ∷ c ∷ bytes) (Some (question_mark, 1))
unfolding unread_after_phase_1 unread
reads-two_questions has_ended offset c bytes e =
    let first : Character = character question_mark offset in
    let second : Character = character question_mark (offset + 1) in
    let third : Character = character c (offset + 1 + 1) in
    let others : List Character = unread (c == newline) (offset + 1 + 1 + 1) bytes in
    ap replaced (joined-other first (second ∷ third ∷ others) refl ∙ ap (λ text. first ∷ text) (joined-other second (third ∷ others) refl))
    ∙ replaced-before_third first second c (joined (third ∷ others)) (joined-begins third others) e
    ∙ ap (λ text. first ∷ replaced text) (sym (joined-other second (third ∷ others) refl))

-- at a trigraph
reads-trigraph : (has_ended : Bool) (offset c r : ℕ) (bytes : List ℕ) → replacement c ≡ Some r → Reads has_ended offset (question_mark ∷ question_mark ∷ c ∷ bytes) (Some (r, 3))
unfolding unread_after_phase_1 unread trigraph
reads-trigraph has_ended offset c r bytes e =
    let first : Character = character question_mark offset in
    let second : Character = character question_mark (offset + 1) in
    let third : Character = character c (offset + 1 + 1) in
    let others : List Character = unread (c == newline) (offset + 1 + 1 + 1) bytes in
    let facts : ((c == carriage_return) ≡ false) × ((c == newline) ≡ false) × ((r == newline) ≡ false) = replacement-ends_no_line c r e in
    let three : trigraph first second third ≡ Some (character_of_three r offset) = rw e refl in
    let ends : offset + 1 + 1 + 1 ≡ offset + 3 = omega arith in
    ap replaced (joined-other first (second ∷ third ∷ others) refl ∙ ap (λ text. first ∷ text) (joined-other second (third ∷ others) refl ∙ ap (λ text. second ∷ text) (joined-other third others facts.0)))
    ∙ replaced-some first second third (character_of_three r offset) (joined others) three
    ∙ ap (λ has_ended'. character_of_three r offset ∷ unread_after_phase_1 has_ended' (offset + 1 + 1 + 1) bytes) (facts.1 ∙ sym facts.2)
    ∙ ap (λ next. character_of_three r offset ∷ unread_after_phase_1 (r == newline) next bytes) ends

-- at any question mark
reads-question_mark : (has_ended : Bool) (offset : ℕ) (bytes : List ℕ) → Reads has_ended offset (question_mark ∷ bytes) (Some (front_at_question_mark bytes))
unfolding unread_after_phase_1 unread joined replaced trigraph
reads-question_mark has_ended offset [] = refl
reads-question_mark has_ended offset (b ∷ []) =
    elim (cases_Bool (b == question_mark)) [
      | inl e ↦ subst (λ n. Reads has_ended offset (question_mark ∷ n ∷ []) (Some (question_mark, 1))) (sym (eqb-true b question_mark e)) refl
      | inr e ↦ reads-question has_ended offset b [] e
    ]
reads-question_mark has_ended offset (b ∷ c ∷ bytes) =
    let At : ℕ × ℕ → Type 0 = λ next. Reads has_ended offset (question_mark ∷ b ∷ c ∷ bytes) (Some next) in
    cond_both (b == question_mark) (option_map_or (λ byte. (byte, 3)) (replacement c) (question_mark, 1)) (question_mark, 1) At
    (λ e. map_or_both (λ byte. (byte, 3)) (replacement c) (question_mark, 1) At
    (λ none. subst (λ n. Reads has_ended offset (question_mark ∷ n ∷ c ∷ bytes) (Some (question_mark, 1))) (sym (eqb-true b question_mark e)) (reads-two_questions has_ended offset c bytes none))
    (λ r some. subst (λ n. Reads has_ended offset (question_mark ∷ n ∷ c ∷ bytes) (Some (r, 3))) (sym (eqb-true b question_mark e)) (reads-trigraph has_ended offset c r bytes some)))
    (λ e. reads-question has_ended offset b (c ∷ bytes) e)

-- The front is what is read.
pub front-reads : (has_ended : Bool) (offset : ℕ) (bytes : List ℕ) → Reads has_ended offset bytes (front has_ended bytes)
unfolding front unread_after_phase_1 unread joined replaced
front-reads true offset [] = refl
front-reads false offset [] = refl
front-reads has_ended offset (a ∷ bytes) =
    let At : ℕ × ℕ → Type 0 = λ next. Reads has_ended offset (a ∷ bytes) (Some next) in
    cond_both (a == question_mark) (front_at_question_mark bytes) (if a == carriage_return then front_at_carriage_return bytes else (a, 1)) At
    (λ e. subst (λ n. Reads has_ended offset (n ∷ bytes) (Some (front_at_question_mark bytes))) (sym (eqb-true a question_mark e)) (reads-question_mark has_ended offset bytes))
    (λ q. cond_both (a == carriage_return) (front_at_carriage_return bytes) (a, 1) At
    (λ e. subst (λ n. Reads has_ended offset (n ∷ bytes) (Some (front_at_carriage_return bytes))) (sym (eqb-true a carriage_return e)) (reads-carriage_return has_ended offset bytes))
    (λ r. reads-other has_ended offset a bytes q r))

-- What is left where the front is empty.
pub unread-none : (has_ended : Bool) (offset : ℕ) (bytes : List ℕ) → front has_ended bytes ≡ None → unread_after_phase_1 has_ended offset bytes ≡ []
unread-none has_ended offset bytes e = subst (Reads has_ended offset bytes) e (front-reads has_ended offset bytes)

-- What is left where it isn't.
pub unread-some : (has_ended : Bool) (offset : ℕ) (bytes : List ℕ) (byte width : ℕ) → front has_ended bytes ≡ Some (byte, width) → unread_after_phase_1 has_ended offset bytes ≡ (record { byte = byte; at = offset; width = width }) ∷ unread_after_phase_1 (byte == newline) (offset + width) (drop width bytes)
unread-some has_ended offset bytes byte width e = subst (Reads has_ended offset bytes) e (front-reads has_ended offset bytes)

-- A text with a newline at its end is what is unread of it.
ended-characters : (has_ended : Bool) (offset byte : ℕ) (bytes : List ℕ) → ended (characters_at offset (byte ∷ bytes)) ≡ unread has_ended offset (byte ∷ bytes)
unfolding ended characters_at unread
ended-characters has_ended offset byte [] = elim (cases_Bool (byte == newline)) [ inl e ↦ rw e refl | inr e ↦ rw e refl ]
ended-characters has_ended offset byte (b ∷ bytes) = ap (λ text. character byte offset ∷ text) (ended-characters (byte == newline) (offset + 1) b bytes)

-- The same where it may be empty.
pub ended-unread : (offset : ℕ) (bytes : List ℕ) → ended (characters_at offset bytes) ≡ unread true offset bytes
unfolding ended characters_at unread
ended-unread offset [] = refl
ended-unread offset (byte ∷ bytes) = ended-characters true offset byte bytes

-- The text behind the mark, if there is one.
pub without_mark-characters : (bytes : List ℕ) → without_mark (characters_at 0 bytes) ≡ characters_at (mark_length bytes) (drop (mark_length bytes) bytes)
unfolding without_mark characters_at mark_length
without_mark-characters [] = refl
without_mark-characters (a ∷ []) = refl
without_mark-characters (a ∷ b ∷ []) = refl
without_mark-characters (a ∷ b ∷ c ∷ bytes) = elim (cases_Bool ((a == 239) && (b == 187) && (c == 191))) [ inl e ↦ rw e refl | inr e ↦ rw e refl ]

-- The whole text is what is unread behind the mark.
pub after_phase_1-unread : (bytes : List ℕ) → after_phase_1 bytes ≡ unread_after_phase_1 true (mark_length bytes) (drop (mark_length bytes) bytes)
unfolding after_phase_1 unread_after_phase_1
after_phase_1-unread bytes =
    ap (λ text. replaced (joined text)) (ap ended (without_mark-characters bytes) ∙ ended-unread _ _)

-- a list with a first element isn't empty
cons_is_not_nil : (c : Character) (text : List Character) → c ∷ text ≡ [] → ⊥
cons_is_not_nil c text e = cc

-- Nothing is left exactly where the front is empty.
left-none_by : (has_ended : Bool) (offset : ℕ) (bytes : List ℕ) (o : Option (ℕ × ℕ)) (none : Bool) → Reads has_ended offset bytes o → is_some o ≡ not none →
    (none ≡ true → unread_after_phase_1 has_ended offset bytes ≡ []) × (unread_after_phase_1 has_ended offset bytes ≡ [] → none ≡ true)
left-none_by has_ended offset bytes None none reads e = (λ _. reads, λ _. not-false none (sym e))
left-none_by has_ended offset bytes (Some next) none reads e =
    (λ is. absurd (both_ways none (not-true none (sym e)) is), λ empty. absurd (cons_is_not_nil _ _ (sym reads ∙ empty)))

pub left-none : (has_ended : Bool) (offset : ℕ) (bytes : List ℕ) (none : Bool) → is_some (front has_ended bytes) ≡ not none →
    (none ≡ true → unread_after_phase_1 has_ended offset bytes ≡ []) × (unread_after_phase_1 has_ended offset bytes ≡ [] → none ≡ true)
left-none has_ended offset bytes none e = left-none_by has_ended offset bytes (front has_ended bytes) none (front-reads has_ended offset bytes) e
