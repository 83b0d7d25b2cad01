-- How long a comment at the front of a text is.
use Rattle.std.proofs.Common.{◌≡◌, ℕ, zero, suc, ◌+◌, ◌<◌, ◌≤◌, true, false, eqb, List, [], ◌∷◌, length, get_or, take, drop, refl, ap, sym, ◌∙◌, subst, arith, inl, inr, length-drop, ◌⊎◌}
use Rattle.std.specs.List.{list_all}
use Rattle.std.proofs.lemmas.List.{at_drop_more}
use Rattle.std.proofs.lemmas.Bool.{false≢true, ne_eqb, cases_Bool, cases_eq, and_from, or_left, or_right, and_left, and_right, false_from_ne_true}
use Rattle.dm_token.specs.Places.{newline}
use Rattle.dm_lex.specs.Classes.{slash, asterisk, behind}
use Rattle.dm_lex.specs.Cuts.{is_within_line, ends_comment, is_block_comment, is_line_comment, is_line_end, is_comment, opens_block, opens_line, IsOpen}
use Rattle.dm_lex.specs.Reach.{closing_comment, run, IsExact, IsLongest, IsCommentLength}
use Rattle.dm_lex.proofs.RunLemmas.{two}
use Rattle.dm_lex.proofs.ReachLemmas.{closing_comment-exact, run-longest}

-- a block comment that doesn't end
unended : (text : List ℕ) (n : ℕ) → closing_comment false text ≡ 0 → n ≤ suc (suc (length text)) → is_block_comment (take n (slash ∷ asterisk ∷ text)) ≡ true → ⊥
unfolding is_block_comment behind
unended text zero none inside ends = false≢true ends
unended text (suc zero) none inside ends = false≢true ends
unended text (suc (suc n)) none inside ends =
    let exact : IsExact (ends_comment false) text (closing_comment false text) = closing_comment-exact false text in
    let only : (n ≡ closing_comment false text) × (0 < n) = exact.only n (omega arith) ends in
    omega arith

open_front : (text : List ℕ) → closing_comment false text ≡ 0 → IsOpen (slash ∷ asterisk ∷ text)
unfolding opens_block behind
open_front text none = (refl, λ n inside. false_from_ne_true _ (unended text n none inside))

block_front : (text : List ℕ) → (closing_comment false text ≡ 0 → ⊥) → IsCommentLength (slash ∷ asterisk ∷ text) (suc (suc (closing_comment false text)))
unfolding is_comment is_block_comment behind
block_front text some =
    let exact : IsExact (ends_comment false) text (closing_comment false text) = closing_comment-exact false text in
    let i : closing_comment false text ≤ length text = exact.inside in
    record {
      inside = omega arith;
      no_block = λ none. absurd (omega arith);
      no_line = λ none. absurd (omega arith);
      is = λ above. or_left _ _ (exact.passed (omega arith));
    }

run-line_end : (text : List ℕ) → is_line_end (drop (run is_within_line text) text) ≡ true
unfolding run is_within_line is_line_end
run-line_end [] = refl
run-line_end (byte ∷ text) =
    elim (cases_Bool (eqb byte newline)) [
      | inl ends ↦ rw ends (rw ends refl)
      | inr goes ↦ rw goes (run-line_end text)
    ]

line_front : (text : List ℕ) → IsCommentLength (slash ∷ slash ∷ text) (suc (suc (run is_within_line text)))
unfolding is_comment is_line_comment behind
line_front text =
    let far : IsLongest (list_all is_within_line) text (run is_within_line text) = run-longest is_within_line text in
    let i : run is_within_line text ≤ length text = far.inside in
    record {
      inside = omega arith;
      no_block = λ none. absurd (omega arith);
      no_line = λ none. absurd (omega arith);
      is = λ above. or_right _ _ (and_from _ _ far.passed (run-line_end text));
    }

no_slash : (byte : ℕ) (text : List ℕ) → (byte ≡ slash → ⊥) → IsCommentLength (byte ∷ text) 0
unfolding opens_block opens_line behind
no_slash byte text apart = record {
  inside = omega arith;
  no_block = λ none. rw (ne_eqb byte slash apart) refl;
  no_line = λ none. rw (ne_eqb byte slash apart) refl;
  is = λ above. absurd (omega arith);
}

no_second : (byte next : ℕ) (text : List ℕ) → (next ≡ slash → ⊥) → (next ≡ asterisk → ⊥) → IsCommentLength (byte ∷ next ∷ text) 0
unfolding opens_block opens_line behind
no_second byte next text apart apart' = record {
  inside = omega arith;
  no_block = λ none. and_right (eqb byte slash) _ (and_left _ true (ne_eqb next asterisk apart'));
  no_line = λ none. and_right (eqb byte slash) _ (and_left _ true (ne_eqb next slash apart));
  is = λ above. absurd (omega arith);
}

alone : (text : List ℕ) → length text ≤ 1 → IsCommentLength text 0
unfolding opens_block opens_line behind
alone [] short = record { inside = omega arith; no_block = λ _. refl; no_line = λ _. refl; is = λ above. absurd (omega arith) }
alone (a ∷ []) short = record {
  inside = omega arith;
  no_block = λ _. and_right (eqb a slash) _ refl;
  no_line = λ _. and_right (eqb a slash) _ refl;
  is = λ above. absurd (omega arith);
}
alone (a ∷ b ∷ text) short = absurd (omega arith)

-- the same at a place of a text
two_at : (text : List ℕ) (i a b : ℕ) → i + 1 < length text → get_or text i 0 ≡ a → get_or text (i + 1) 0 ≡ b → a ∷ b ∷ drop (i + 2) text ≡ drop i text
two_at text i a b inside first second =
    sym (two text i inside ∙ (ap (λ x. x ∷ get_or text (i + 1) 0 ∷ drop (i + 1 + 1) text) first
    ∙ (ap (λ y. a ∷ y ∷ drop (i + 1 + 1) text) second ∙ ap (λ n. a ∷ b ∷ drop n text) (let e : i + 1 + 1 ≡ i + 2 = omega arith in e))))

pub IsCommentLength-alone : (text : List ℕ) (i : ℕ) → length text ≤ i + 1 → IsCommentLength (drop i text) 0
IsCommentLength-alone text i short = alone (drop i text) (omega (arith, length-drop i text))

pub IsCommentLength-no_slash : (text : List ℕ) (i : ℕ) → i < length text → (get_or text i 0 ≡ slash → ⊥) → IsCommentLength (drop i text) 0
IsCommentLength-no_slash text i inside apart =
    subst (λ (t : List ℕ). IsCommentLength t 0) (sym (at_drop_more (λ t. t) text i 0 inside)) (no_slash (get_or text i 0) (drop (i + 1) text) apart)

pub IsCommentLength-no_second : (text : List ℕ) (i : ℕ) → i + 1 < length text → (get_or text (i + 1) 0 ≡ slash → ⊥) → (get_or text (i + 1) 0 ≡ asterisk → ⊥) → IsCommentLength (drop i text) 0
IsCommentLength-no_second text i inside apart apart' =
    subst (λ (t : List ℕ). IsCommentLength t 0) (sym (two text i inside)) (no_second (get_or text i 0) (get_or text (i + 1) 0) (drop (i + 1 + 1) text) apart apart')

pub IsCommentLength-line : (text : List ℕ) (i far : ℕ) → i + 1 < length text → get_or text i 0 ≡ slash → get_or text (i + 1) 0 ≡ slash → far ≡ run is_within_line (drop (i + 2) text) →
    IsCommentLength (drop i text) (2 + far)
IsCommentLength-line text i far inside first second is =
    subst (λ (t : List ℕ). IsCommentLength t (2 + far)) (two_at text i slash slash inside first second)
    (subst (λ n. IsCommentLength (slash ∷ slash ∷ drop (i + 2) text) n) (let e : suc (suc (run is_within_line (drop (i + 2) text))) ≡ 2 + far = omega arith in e)
    (line_front (drop (i + 2) text)))

pub IsCommentLength-block : (text : List ℕ) (i far : ℕ) → i + 1 < length text → get_or text i 0 ≡ slash → get_or text (i + 1) 0 ≡ asterisk → far ≡ closing_comment false (drop (i + 2) text) →
    (far ≡ 0 → ⊥) → IsCommentLength (drop i text) (2 + far)
IsCommentLength-block text i far inside first second is some =
    subst (λ (t : List ℕ). IsCommentLength t (2 + far)) (two_at text i slash asterisk inside first second)
    (subst (λ n. IsCommentLength (slash ∷ asterisk ∷ drop (i + 2) text) n) (let e : suc (suc (closing_comment false (drop (i + 2) text))) ≡ 2 + far = omega arith in e)
    (block_front (drop (i + 2) text) (λ none. some (is ∙ none))))

pub IsOpen-at : (text : List ℕ) (i : ℕ) → i + 1 < length text → get_or text i 0 ≡ slash → get_or text (i + 1) 0 ≡ asterisk → closing_comment false (drop (i + 2) text) ≡ 0 → IsOpen (drop i text)
IsOpen-at text i inside first second none =
    subst (λ (t : List ℕ). IsOpen t) (two_at text i slash asterisk inside first second) (open_front (drop (i + 2) text) none)

-- a comment at the front of a text has a length, or is open
pub comment_decided : (text : List ℕ) → 0 < length text → ((far : ℕ) × IsCommentLength text far) ⊎ IsOpen text
comment_decided [] some = absurd (omega arith)
comment_decided (a ∷ []) some = inl (0, alone (a ∷ []) (omega arith))
comment_decided (a ∷ b ∷ text) some =
    elim (cases_eq a slash) [
      | inr apart ↦ inl (0, no_slash a (b ∷ text) apart)
      | inl first ↦
          elim (cases_eq b slash) [
            | inl second ↦ inl (suc (suc (run is_within_line text)), subst (λ (t : List ℕ). IsCommentLength t (suc (suc (run is_within_line text)))) (sym (ap (λ x. x ∷ b ∷ text) first ∙ ap (λ y. slash ∷ y ∷ text) second)) (line_front text))
            | inr apart ↦
                elim (cases_eq b asterisk) [
                  | inr apart' ↦ inl (0, no_second a b text apart apart')
                  | inl second ↦
                      let is : a ∷ b ∷ text ≡ slash ∷ asterisk ∷ text = ap (λ x. x ∷ b ∷ text) first ∙ ap (λ y. slash ∷ y ∷ text) second in
                      elim (cases_eq (closing_comment false text) 0) [
                        | inl none ↦ inr (subst (λ (t : List ℕ). IsOpen t) (sym is) (open_front text none))
                        | inr far ↦ inl (suc (suc (closing_comment false text)), subst (λ (t : List ℕ). IsCommentLength t (suc (suc (closing_comment false text)))) (sym is) (block_front text far))
                      ]
                ]
          ]
    ]
