-- Lines and columns of the bytes that stay.
use Rattle.std.proofs.Common.{◌≡◌, ℕ, ◌+◌, ◌-◌, ◌≤◌, ◌<◌, Bool, true, false, IsTrue, ◌⊎◌, inl, inr, List, [], ◌∷◌, ◌++◌, length, take, drop, fold, sym, ap, ◌∙◌, subst, refl, arith, append_assoc, length-append, cond, Some, ◌==◌, if◌then◌else◌, slice_range}
use Rattle.std.specs.List.{list_all}
use Rattle.std.proofs.Math.Seq.{take-append-add}
use Rattle.std.proofs.lemmas.List.{take-append-le}
use Rattle.std.proofs.lemmas.List.Sums.{sum_by-append, fold-append}
use Rattle.std.proofs.lemmas.Bool.{eqb-true, false≢true, and_parts, cases_Bool, cond-true, cond-false}
use Rattle.dm_token.specs.Places.{newline, newlines, since_newline, line_at, column_at, place_of}
use Rattle.dm_token.specs.declared.place.Place.{Place}
use Rattle.dm_edit.specs.declared.change.Change.{Change}
use Rattle.dm_edit.specs.Cuts.{is_blank, Cut, before_body, through_body, joined, IsCut, body_end}
use Rattle.dm_edit.specs.Edits.{with_change, before_changed_body, IsEdited, KeepsLines}
use Rattle.dm_edit.specs.Moves.{moved_offset, moved_place}
use Rattle.dm_edit.proofs.CutLemmas.{take-joined, drop-joined, joined-body, through-cut}

-- newlines of two texts together
pub newlines-append : (xs ys : List ℕ) → newlines (xs ++ ys) ≡ newlines xs + newlines ys
newlines-append xs ys = sum_by-append (λ (byte : ℕ). cond (byte == newline) 1 0) xs ys

-- a space or a tab is no newline
newline-blank : (byte : ℕ) → is_blank byte ≡ true → (byte == newline) ≡ false
newline-blank byte blank = at (cases_Bool (byte == newline))
  where
    at : ((byte == newline) ≡ true) ⊎ ((byte == newline) ≡ false) → (byte == newline) ≡ false
    at (inl is) = absurd (false≢true (subst (λ (b : ℕ). is_blank b ≡ true) (eqb-true byte newline is) blank))
    at (inr apart) = apart

newlines-blanks : (blanks : List ℕ) → IsTrue (list_all is_blank blanks) → newlines blanks ≡ 0
newlines-blanks [] all = refl
newlines-blanks (blank ∷ blanks) all =
    let both = and_parts (is_blank blank) (list_all is_blank blanks) all in
    let one : newlines (blank ∷ []) ≡ 0 = ap (λ (n : ℕ). 0 + n) (cond-false {A = ℕ} (blank == newline) 1 0 (newline-blank blank both.0)) in
    let more = newlines-blanks blanks both.1 in
    let all_of_them = newlines-append (blank ∷ []) blanks in
    omega arith

-- the directive holds no newline
newlines-directive : (bytes : List ℕ) (change : Change) (cut : Cut) → IsCut bytes change.definition cut → KeepsLines bytes change → newlines cut.directive ≡ 0
newlines-directive bytes change cut is_cut keeps =
    let size = length-append cut.front cut.directive in
    let hash = is_cut.hash in
    let head_end = is_cut.head_end in
    let behind : drop change.definition.hash bytes ≡ cut.directive ++ (cut.blanks ++ (cut.body ++ cut.rest)) =
    ap (drop change.definition.hash) is_cut.whole ∙ drop-joined cut.front _ change.definition.hash hash
    in
    let directive : slice_range bytes change.definition.hash change.definition.head_end ≡ cut.directive =
    ap (take (change.definition.head_end - change.definition.hash)) behind ∙ take-joined cut.directive _ _ (omega arith)
    in
    sym (ap newlines directive) ∙ keeps.directive

-- what is added and taken away before the body, and before the rest
newlines-before_body : (bytes : List ℕ) (change : Change) (cut : Cut) → IsCut bytes change.definition cut → KeepsLines bytes change → newlines (before_changed_body cut change) ≡ newlines (before_body cut)
newlines-before_body bytes change cut is_cut keeps =
    let directive = newlines-directive bytes change cut is_cut keeps in
    let blanks = newlines-blanks cut.blanks is_cut.all_blank in
    let head = keeps.head in
    let old = newlines-append cut.front (cut.directive ++ cut.blanks) in
    let dropped = newlines-append cut.directive cut.blanks in
    let new = newlines-append cut.front change.head in
    omega arith

-- what ends with the tail
abbrev pub through_changed : Cut → Change → List ℕ
through_changed cut change = cut.front ++ (change.head ++ (cut.body ++ change.tail))

pub with_change-rest : (cut : Cut) (change : Change) → with_change cut change ≡ through_changed cut change ++ cut.rest
with_change-rest cut change = simp append_assoc refl

newlines-through : (bytes : List ℕ) (change : Change) (cut : Cut) → IsCut bytes change.definition cut → KeepsLines bytes change → newlines (through_changed cut change) ≡ newlines (through_body cut)
newlines-through bytes change cut is_cut keeps =
    let before = newlines-before_body bytes change cut is_cut keeps in
    let tail = keeps.tail in
    let old : newlines (through_body cut) ≡ newlines (before_body cut) + newlines cut.body =
    ap newlines (let e : through_body cut ≡ before_body cut ++ cut.body = simp append_assoc refl in e) ∙ newlines-append (before_body cut) cut.body
    in
    let new : newlines (through_changed cut change) ≡ newlines (before_changed_body cut change) + newlines (cut.body ++ change.tail) =
    ap newlines (let e : through_changed cut change ≡ before_changed_body cut change ++ (cut.body ++ change.tail) = simp append_assoc refl in e) ∙ newlines-append (before_changed_body cut change) (cut.body ++ change.tail)
    in
    let added = newlines-append cut.body change.tail in
    omega arith

-- before the definition the same bytes stand
take-before : (bytes edited : List ℕ) (change : Change) (offset : ℕ) → IsEdited bytes change edited → offset ≤ change.definition.hash → take offset edited ≡ take offset bytes
take-before bytes edited change offset is_edited before =
    let cut = is_edited.0 in
    let is_cut = is_edited.1 in
    let size = is_cut.hash in
    let inside : offset ≤ length cut.front = omega arith in
    ap (take offset) is_edited.2 ∙ (take-append-le offset cut.front _ inside ∙ sym (ap (take offset) is_cut.whole ∙ take-append-le offset cut.front _ inside))

pub line_at-before : (bytes edited : List ℕ) (change : Change) (offset : ℕ) → IsEdited bytes change edited → offset ≤ change.definition.hash → line_at edited offset ≡ line_at bytes offset
line_at-before bytes edited change offset is_edited before = ap (λ (front : List ℕ). 1 + newlines front) (take-before bytes edited change offset is_edited before)

abbrev place_by : ℕ → ℕ → List ℕ → Place
place_by file offset front = record { file = file; byte = offset; line = 1 + newlines front; column = 1 + since_newline front }

pub place_of-before : (file : ℕ) (bytes edited : List ℕ) (change : Change) (offset : ℕ) → IsEdited bytes change edited → offset ≤ change.definition.hash → place_of file edited offset ≡ place_of file bytes offset
place_of-before file bytes edited change offset is_edited before = ap (place_by file offset) (take-before bytes edited change offset is_edited before)

-- in the body
pub line_at-inside : (bytes : List ℕ) (change : Change) (cut : Cut) (offset : ℕ) → IsCut bytes change.definition cut → KeepsLines bytes change → offset ≤ length cut.body → line_at (with_change cut change) (length (before_changed_body cut change) + offset) ≡ line_at bytes (length (before_body cut) + offset)
line_at-inside bytes change cut offset is_cut keeps inside =
    let same = newlines-before_body bytes change cut is_cut keeps in
    let new_front = before_changed_body cut change in
    let old_front = before_body cut in
    let new : take (length new_front + offset) (with_change cut change) ≡ new_front ++ take offset cut.body =
    ap (take (length new_front + offset)) (let e : with_change cut change ≡ new_front ++ (cut.body ++ (change.tail ++ cut.rest)) = simp append_assoc refl in e) ∙ (take-append-add new_front _ offset ∙ ap (λ (front : List ℕ). new_front ++ front) (take-append-le offset cut.body _ inside))
    in
    let old : take (length old_front + offset) bytes ≡ old_front ++ take offset cut.body =
    ap (take (length old_front + offset)) (is_cut.whole ∙ (let e : joined cut ≡ old_front ++ (cut.body ++ cut.rest) = simp append_assoc refl in e)) ∙ (take-append-add old_front _ offset ∙ ap (λ (front : List ℕ). old_front ++ front) (take-append-le offset cut.body _ inside))
    in
    let new_count = ap newlines new ∙ newlines-append new_front (take offset cut.body) in
    let old_count = ap newlines old ∙ newlines-append old_front (take offset cut.body) in
    omega arith

-- behind the definition the same bytes stand behind what ends with the tail
pub record StandsBehind (bytes edited : List ℕ) (change : Change) (cut : Cut) (offset : ℕ) (more : List ℕ) : Type 0 where
  pub old : take offset bytes ≡ through_body cut ++ more
  pub new : take (moved_offset (length bytes) (length edited) offset) edited ≡ through_changed cut change ++ more

pub stands_behind : (bytes edited : List ℕ) (change : Change) (end offset : ℕ) (is_edited : IsEdited bytes change edited) → body_end change.definition ≡ Some end → end ≤ offset → StandsBehind bytes edited change is_edited.0 offset (take (offset - end) is_edited.0.rest)
stands_behind bytes edited change end offset is_edited ends behind =
    let cut = is_edited.0 in
    let is_cut = is_edited.1 in
    let counted : Some (length (through_body cut)) ≡ Some end = sym is_cut.ends ∙ ends in
    let size : length (through_body cut) ≡ end = cc in
    let whole = is_cut.whole ∙ joined-body cut in
    let whole_new = is_edited.2 ∙ with_change-rest cut change in
    let length_old = ap length whole ∙ length-append (through_body cut) cut.rest in
    let length_new = ap length whole_new ∙ length-append (through_changed cut change) cut.rest in
    let at_old : offset ≡ length (through_body cut) + (offset - end) = omega arith in
    let at_new : moved_offset (length bytes) (length edited) offset ≡ length (through_changed cut change) + (offset - end) = omega arith in
    record {
      old = ap (λ (n : ℕ). take n bytes) at_old ∙ (ap (take (length (through_body cut) + (offset - end))) whole ∙ take-append-add (through_body cut) cut.rest (offset - end));
      new = ap (λ (n : ℕ). take n edited) at_new ∙ (ap (take (length (through_changed cut change) + (offset - end))) whole_new ∙ take-append-add (through_changed cut change) cut.rest (offset - end));
    }

pub line_at-behind : (bytes edited : List ℕ) (change : Change) (end offset : ℕ) → IsEdited bytes change edited → KeepsLines bytes change → body_end change.definition ≡ Some end → end ≤ offset → line_at edited (moved_offset (length bytes) (length edited) offset) ≡ line_at bytes offset
line_at-behind bytes edited change end offset is_edited keeps ends behind =
    let cut = is_edited.0 in
    let more = take (offset - end) cut.rest in
    let stands = stands_behind bytes edited change end offset is_edited ends behind in
    let same = newlines-through bytes change cut is_edited.1 keeps in
    let new = ap newlines stands.new ∙ newlines-append (through_changed cut change) more in
    let old = ap newlines stands.old ∙ newlines-append (through_body cut) more in
    omega arith

-- one byte more
abbrev next_count : ℕ → ℕ → ℕ
next_count count byte = if byte == newline then 0 else count + 1

-- what stands before a newline doesn't matter to columns behind it
fold-newline : (more : List ℕ) (a b : ℕ) → 0 < newlines more → fold next_count a more ≡ fold next_count b more
fold-newline [] a b some = absurd (omega arith)
fold-newline (byte ∷ more) a b some = at (fold-newline more) (byte == newline) refl
  where
    at : ((c d : ℕ) → 0 < newlines more → fold next_count c more ≡ fold next_count d more) → (is : Bool) → (byte == newline) ≡ is → fold next_count (next_count a byte) more ≡ fold next_count (next_count b byte) more
    at others true is = ap (λ (n : ℕ). fold next_count n more) (cond-true (byte == newline) 0 (a + 1) is ∙ sym (cond-true (byte == newline) 0 (b + 1) is))
    at others false is =
        let one : newlines (byte ∷ []) ≡ 0 = ap (λ (n : ℕ). 0 + n) (cond-false {A = ℕ} (byte == newline) 1 0 is) in
        let both = newlines-append (byte ∷ []) more in
        others _ _ (omega arith)

since_newline-append : (xs ys more : List ℕ) → 0 < newlines more → since_newline (xs ++ more) ≡ since_newline (ys ++ more)
since_newline-append xs ys more some =
    fold-append next_count 0 xs more ∙ (fold-newline more _ _ some ∙ sym (fold-append next_count 0 ys more))

pub place_of-behind : (file : ℕ) (bytes edited : List ℕ) (change : Change) (end offset : ℕ) → IsEdited bytes change edited → KeepsLines bytes change → body_end change.definition ≡ Some end → end ≤ offset → line_at bytes end < line_at bytes offset → place_of file edited (moved_offset (length bytes) (length edited) offset) ≡ moved_place (length bytes) (length edited) (place_of file bytes offset)
place_of-behind file bytes edited change end offset is_edited keeps ends behind later =
    let cut = is_edited.0 in
    let more = take (offset - end) cut.rest in
    let moved = moved_offset (length bytes) (length edited) offset in
    let stands = stands_behind bytes edited change end offset is_edited ends behind in
    let lines = line_at-behind bytes edited change end offset is_edited keeps ends behind in
    let old = ap newlines stands.old ∙ newlines-append (through_body cut) more in
    let at_end = ap newlines (through-cut bytes change.definition cut end is_edited.1 ends) in
    let some : 0 < newlines more = omega arith in
    let columns : column_at edited moved ≡ column_at bytes offset =
    ap (λ (front : List ℕ). 1 + since_newline front) stands.new ∙ (ap (λ (n : ℕ). 1 + n) (since_newline-append (through_changed cut change) (through_body cut) more some) ∙ sym (ap (λ (front : List ℕ). 1 + since_newline front) stands.old))
    in
    let by : ℕ → ℕ → Place = λ line column. record { file = file; byte = moved; line = line; column = column } in
    ap (λ (line : ℕ). by line (column_at edited moved)) lines ∙ ap (by (line_at bytes offset)) columns
