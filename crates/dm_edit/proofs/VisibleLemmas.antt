-- Where a definition lies in bytes.
use Rattle.std.proofs.Common.{◌≡◌, ℕ, zero, suc, ◌+◌, ◌-◌, ◌≤◌, ◌<◌, Bool, true, false, cond, IsTrue, IsFalse, List, [], ◌∷◌, ◌++◌, length, take, drop, sym, ap, ◌∙◌, subst, refl, arith, append_assoc, length-append, Some, option_map, slice_get, get_or}
use Rattle.std.specs.List.{list_all, prefix_len}
use Rattle.std.proofs.lemmas.List.{take-append-drop, length-take-le, drop-drop, length-drop, get_or_append_left}
use Rattle.std.proofs.Math.Seq.{get_or-append_right}
use Rattle.std.proofs.lemmas.Option.{get_or_from_slice_get}
use Rattle.std.proofs.lemmas.Bool.{false≢true, cond-true, cond-false, and_from}
use Rattle.dm_token.specs.declared.token.PpToken.{PpToken}
use Rattle.dm_token.specs.declared.expansion.Definition.{Definition}
use Rattle.dm_edit.proofs.CutLemmas.{joined-body, through_body-directive, through-cut, behind-cut, prefix_len-blanks}
use Rattle.dm_edit.specs.Cuts.{is_blank, BeginsVisibly, last_token, Cut, through_body, LiesIn, body_end}

-- behind all blanks at the front stands a visible byte, where there is one
begins-visibly : (bytes : List ℕ) (at : ℕ) → at < length bytes → IsFalse (is_blank (get_or bytes at 0)) → BeginsVisibly (drop (prefix_len is_blank bytes) bytes)
begins-visibly [] at inside visible = absurd (omega arith)
begins-visibly (first ∷ bytes) at inside visible = by (begins-visibly bytes) (is_blank first) refl at inside visible
  where
    by : ((other : ℕ) → other < length bytes → IsFalse (is_blank (get_or bytes other 0)) → BeginsVisibly (drop (prefix_len is_blank bytes) bytes)) → (blank : Bool) → is_blank first ≡ blank → (place : ℕ) → place < length (first ∷ bytes) → IsFalse (is_blank (get_or (first ∷ bytes) place 0)) → BeginsVisibly (drop (prefix_len is_blank (first ∷ bytes)) (first ∷ bytes))
    by others true blank zero within shows = absurd (false≢true (sym shows ∙ blank))
    by others true blank (suc place) within shows =
        let n = prefix_len is_blank bytes in
        let more = cond-true {A = ℕ} (is_blank first) (1 + n) 0 blank in
        subst BeginsVisibly (drop-drop n 1 (first ∷ bytes) ∙ sym (ap (λ (k : ℕ). drop k (first ∷ bytes)) more)) (others place (omega arith) shows)
    by others false blank place within shows =
        let none = cond-false {A = ℕ} (is_blank first) (1 + prefix_len is_blank bytes) 0 blank in
        subst BeginsVisibly (sym (ap (λ (k : ℕ). drop k (first ∷ bytes)) none)) blank

-- those blanks are blank
all-blank : (bytes : List ℕ) → IsTrue (list_all is_blank (take (prefix_len is_blank bytes) bytes))
all-blank [] = refl
all-blank (first ∷ bytes) = by (all-blank bytes) (is_blank first) refl
  where
    by : IsTrue (list_all is_blank (take (prefix_len is_blank bytes) bytes)) → (blank : Bool) → is_blank first ≡ blank → IsTrue (list_all is_blank (take (prefix_len is_blank (first ∷ bytes)) (first ∷ bytes)))
    by others true blank =
        let n = prefix_len is_blank bytes in
        let more : cond (is_blank first) (1 + n) 0 ≡ suc n = cond-true {A = ℕ} (is_blank first) (1 + n) 0 blank ∙ omega arith in
        subst (λ (k : ℕ). list_all is_blank (take k (first ∷ bytes)) ≡ true) (sym more) (and_from (is_blank first) _ blank others)
    by others false blank =
        let none = cond-false {A = ℕ} (is_blank first) (1 + prefix_len is_blank bytes) 0 blank in
        subst (λ (k : ℕ). list_all is_blank (take k (first ∷ bytes)) ≡ true) (sym none) refl

-- the cut round a definition, by its offsets
abbrev cut_at : List ℕ → ℕ → ℕ → ℕ → Cut
cut_at bytes hash head_end end =
    let through = take end bytes in
    let behind = drop head_end through in
    let n = prefix_len is_blank behind in
    record { front = take hash (take head_end through); directive = drop hash (take head_end through); blanks = take n behind; body = drop n behind; rest = drop end bytes }

-- what lies between these offsets is a cut, where not all that stands behind the head is blank
pub lies-between : (bytes : List ℕ) (definition : Definition) (end : ℕ) → body_end definition ≡ Some end → definition.hash ≤ definition.head_end → definition.head_end ≤ end → end ≤ length bytes → BeginsVisibly (cut_at bytes definition.hash definition.head_end end).body → LiesIn bytes definition
lies-between bytes definition end ends head_behind body_behind inside begins =
    let through = take end bytes in
    let head = take definition.head_end through in
    let behind = drop definition.head_end through in
    let rest = drop end bytes in
    let n = prefix_len is_blank behind in
    let cut = cut_at bytes definition.hash definition.head_end end in
    let length_through = length-take-le end bytes inside in
    let length_head = length-take-le definition.head_end through (omega arith) in
    let directive : cut.front ++ cut.directive ≡ head = take-append-drop definition.hash head in
    let body : cut.blanks ++ cut.body ≡ behind = take-append-drop n behind in
    let joined_through : through_body cut ≡ through =
    through_body-directive cut ∙ (ap (λ (text : List ℕ). text ++ (cut.blanks ++ cut.body)) directive ∙ (ap (λ (text : List ℕ). head ++ text) body ∙ take-append-drop definition.head_end through))
    in (
      cut,
      record {
        whole = sym (joined-body cut ∙ (ap (λ (text : List ℕ). text ++ rest) joined_through ∙ take-append-drop end bytes));
        hash = length-take-le definition.hash head (omega arith);
        head_end = ap length directive ∙ length_head;
        all_blank = all-blank behind;
        begins = begins;
        ends = ends ∙ ap (λ (k : ℕ). Some k) (sym (ap length joined_through ∙ length_through));
      },
    )

pub lies-in : (bytes : List ℕ) (definition : Definition) (last : PpToken) (byte : ℕ) → last_token definition.body ≡ Some last → definition.hash ≤ definition.head_end → definition.head_end ≤ last.place.byte → last.place.byte < last.end → last.end ≤ length bytes → slice_get bytes last.place.byte ≡ Some byte → IsFalse (is_blank byte) → LiesIn bytes definition
lies-in bytes definition last byte is_last head_behind body_behind token_behind inside at visible =
    let through = take last.end bytes in
    let head = take definition.head_end through in
    let behind = drop definition.head_end through in
    let rest = drop last.end bytes in
    let length_through = length-take-le last.end bytes inside in
    let length_head = length-take-le definition.head_end through (omega arith) in
    let length_behind = length-drop definition.head_end through in
    let whole : head ++ (behind ++ rest) ≡ bytes =
    sym (append_assoc head behind rest) ∙ (ap (λ (text : List ℕ). text ++ rest) (take-append-drop definition.head_end through) ∙ take-append-drop last.end bytes)
    in
    let place = last.place.byte in
    let shown : get_or behind (place - definition.head_end) 0 ≡ byte =
    sym (get_or_append_left behind rest 0 (place - definition.head_end) (omega arith))
    ∙ (ap (λ (k : ℕ). get_or (behind ++ rest) (place - k) 0) (sym length_head)
    ∙ (sym (get_or-append_right head (behind ++ rest) place 0 (omega arith))
    ∙ (ap (λ (text : List ℕ). get_or text place 0) whole ∙ get_or_from_slice_get bytes place byte 0 at)))
    in
    lies-between bytes definition last.end (ap (option_map (λ (token : PpToken). token.end)) is_last) head_behind (omega arith) inside
    (begins-visibly behind (place - definition.head_end) (omega arith) (ap is_blank shown ∙ visible))

-- where not all bytes are blank, a visible one stands behind the blanks
pub visible-behind : (bytes : List ℕ) → prefix_len is_blank bytes < length bytes → BeginsVisibly (drop (prefix_len is_blank bytes) bytes)
visible-behind [] some = absurd (omega arith)
visible-behind (first ∷ bytes) some = by (visible-behind bytes) (is_blank first) refl
  where
    by : (prefix_len is_blank bytes < length bytes → BeginsVisibly (drop (prefix_len is_blank bytes) bytes)) → (blank : Bool) → is_blank first ≡ blank → BeginsVisibly (drop (prefix_len is_blank (first ∷ bytes)) (first ∷ bytes))
    by others true blank =
        let n = prefix_len is_blank bytes in
        let more = cond-true {A = ℕ} (is_blank first) (1 + n) 0 blank in
        subst BeginsVisibly (drop-drop n 1 (first ∷ bytes) ∙ sym (ap (λ (k : ℕ). drop k (first ∷ bytes)) more)) (others (omega arith))
    by others false blank =
        let none = cond-false {A = ℕ} (is_blank first) (1 + prefix_len is_blank bytes) 0 blank in
        subst BeginsVisibly (sym (ap (λ (k : ℕ). drop k (first ∷ bytes)) none)) blank

-- a text that begins visibly isn't empty
some-length : (body : List ℕ) → BeginsVisibly body → 0 < length body
some-length [] begins = absurd begins
some-length (byte ∷ body) begins = omega arith

-- and so not all that stands behind the head of a definition is blank
pub not-blank : (bytes : List ℕ) (definition : Definition) (end : ℕ) → LiesIn bytes definition → body_end definition ≡ Some end → prefix_len is_blank (drop definition.head_end (take end bytes)) < length (drop definition.head_end (take end bytes))
not-blank bytes definition end lies ends =
    let cut = lies.0 in
    let is_cut = lies.1 in
    let behind : drop definition.head_end (take end bytes) ≡ cut.blanks ++ cut.body =
    ap (drop definition.head_end) (through-cut bytes definition cut end is_cut ends) ∙ behind-cut bytes definition cut is_cut
    in
    let count = prefix_len-blanks cut.blanks cut.body is_cut.all_blank is_cut.begins in
    let size = length-append cut.blanks cut.body in
    let some = some-length cut.body is_cut.begins in
    let holds : prefix_len is_blank (cut.blanks ++ cut.body) < length (cut.blanks ++ cut.body) = omega arith in
    subst (λ (text : List ℕ). prefix_len is_blank text < length text) (sym behind) holds
