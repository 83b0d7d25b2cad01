-- Two edits of one file, in either order.
use Rattle.std.proofs.Common.{◌≡◌, ℕ, ◌-◌, ◌≤◌, List, ◌++◌, length, take, drop, map, sym, ap, ◌∙◌, refl, arith, append_assoc, length-append, Option, Some, None, option_map, slice_get}
use Rattle.std.proofs.lemmas.List.{take-append-le, drop-append-le, take-append-drop, length-map}
use Rattle.std.proofs.lemmas.Option.{slice_get-map}
use Rattle.dm_token.specs.declared.token.PpToken.{PpToken}
use Rattle.dm_token.specs.declared.expansion.Definition.{Definition}
use Rattle.dm_edit.specs.declared.change.Change.{Change}
use Rattle.std.specs.List.{prefix_len}
use Rattle.dm_edit.specs.Cuts.{Cut, is_blank, through_body, joined, IsCut, body_end, last_token}
use Rattle.dm_edit.specs.Edits.{with_change, IsEdited}
use Rattle.dm_edit.specs.Moves.{moved_offset, moved_token, moved_definition, moved_change, EndsBefore}
use Rattle.dm_edit.proofs.CutLemmas.{take-joined, drop-joined, joined-body, front-cut, through-cut, rest-cut, behind-cut, body-cut}
use Rattle.dm_edit.proofs.LineLemmas.{through_changed, with_change-rest}

-- the text of an edit is one
pub with_change-only : (bytes : List ℕ) (change : Change) (cut other : Cut) → IsCut bytes change.definition cut → IsCut bytes change.definition other → with_change cut change ≡ with_change other change
with_change-only bytes change cut other is_cut is_other =
    let definition = change.definition in
    let front : cut.front ≡ other.front = sym (front-cut bytes definition cut is_cut) ∙ front-cut bytes definition other is_other in
    let through : through_body cut ≡ through_body other = sym (through-cut bytes definition cut _ is_cut is_other.ends) ∙ through-cut bytes definition other _ is_other is_other.ends in
    let rest : cut.rest ≡ other.rest = sym (rest-cut bytes definition cut _ is_cut is_other.ends) ∙ rest-cut bytes definition other _ is_other is_other.ends in
    let behind : cut.blanks ++ cut.body ≡ other.blanks ++ other.body = sym (behind-cut bytes definition cut is_cut) ∙ (ap (drop definition.head_end) through ∙ behind-cut bytes definition other is_other) in
    let body : cut.body ≡ other.body =
    sym (body-cut bytes definition cut is_cut) ∙ (ap (λ (text : List ℕ). drop (prefix_len is_blank text) text) behind ∙ body-cut bytes definition other is_other)
    in
    ap (λ (text : List ℕ). text ++ (change.head ++ (cut.body ++ (change.tail ++ cut.rest)))) front
    ∙ (ap (λ (text : List ℕ). other.front ++ (change.head ++ (text ++ (change.tail ++ cut.rest)))) body
    ∙ ap (λ (text : List ℕ). other.front ++ (change.head ++ (other.body ++ (change.tail ++ text)))) rest)

-- the last token of a definition that is moved
end-moved : (before after : ℕ) (token : Option PpToken) (end : ℕ) → option_map (λ (t : PpToken). t.end) token ≡ Some end → option_map (λ (t : PpToken). t.end) (option_map (moved_token before after) token) ≡ Some (moved_offset before after end)
end-moved before after None end is = absurd cc
end-moved before after (Some token) end is = let same : token.end ≡ end = cc in ap (λ (n : ℕ). Some (moved_offset before after n)) same

body_end-moved : (before after end : ℕ) (definition : Definition) → body_end definition ≡ Some end → body_end (moved_definition before after definition) ≡ Some (moved_offset before after end)
body_end-moved before after end definition ends =
    let tokens = definition.body in
    let at =
    ap (λ (n : ℕ). option_map (λ (t : PpToken). t.end) (slice_get (map (moved_token before after) tokens) (n - 1))) (length-map tokens (moved_token before after)) in
    at ∙ (ap (option_map (λ (t : PpToken). t.end)) (slice_get-map (moved_token before after) tokens (length tokens - 1)) ∙ end-moved before after (last_token tokens) end ends)

-- what stands between two definitions, and the definition behind it
abbrev behind_front : Cut → List ℕ
behind_front cut = cut.directive ++ (cut.blanks ++ (cut.body ++ cut.rest))

pub record StandsBetween (first second : Cut) (middle : List ℕ) : Type 0 where
  pub front : second.front ≡ through_body first ++ middle
  pub rest : first.rest ≡ middle ++ behind_front second

stands_between : (first second : Cut) → joined first ≡ joined second → length (through_body first) ≤ length second.front → StandsBetween first second (drop (length (through_body first)) second.front)
stands_between first second same before =
    let n = length (through_body first) in
    let whole : second.front ++ behind_front second ≡ through_body first ++ first.rest = sym same ∙ joined-body first in
    let taken : take n second.front ≡ through_body first = sym (take-append-le n second.front (behind_front second) before) ∙ (ap (take n) whole ∙ take-joined (through_body first) first.rest n refl) in
    let dropped : drop n second.front ++ behind_front second ≡ first.rest = sym (drop-append-le n second.front (behind_front second) before) ∙ (ap (drop n) whole ∙ drop-joined (through_body first) first.rest n refl) in
    record {
      front = sym (take-append-drop n second.front) ∙ ap (λ (text : List ℕ). text ++ drop n second.front) taken;
      rest = sym dropped;
    }

-- the cut round the second definition once the first is edited
abbrev after_first : Cut → Change → List ℕ → Cut → Cut
after_first first change middle second = record second { front = through_changed first change ++ middle }

is_cut-after_first : (bytes once : List ℕ) (change : Change) (definition : Definition) (first second : Cut) (middle : List ℕ) → once ≡ with_change first change → IsCut bytes definition second → StandsBetween first second middle → IsCut once (moved_definition (length bytes) (length once) definition) (after_first first change middle second)
is_cut-after_first bytes once change definition first second middle is_once is_cut between =
    let new = after_first first change middle second in
    let new_front = through_changed first change in
    let whole : once ≡ joined new =
    is_once ∙ (with_change-rest first change ∙ (ap (λ (text : List ℕ). new_front ++ text) between.rest ∙ sym (append_assoc new_front middle (behind_front second))))
    in
    let length_bytes = ap length is_cut.whole ∙ length-append second.front (behind_front second) in
    let length_once = ap length whole ∙ length-append (new_front ++ middle) (behind_front second) in
    let hash = is_cut.hash in
    let head_end = sym is_cut.head_end ∙ length-append second.front second.directive in
    let new_head_end = length-append (new_front ++ middle) second.directive in
    let through = length-append second.front (second.directive ++ (second.blanks ++ second.body)) in
    let new_through = length-append (new_front ++ middle) (second.directive ++ (second.blanks ++ second.body)) in
    let moved_through : moved_offset (length bytes) (length once) (length (through_body second)) ≡ length (through_body new) = omega arith in
    record {
      whole = whole;
      hash = omega arith;
      head_end = omega arith;
      all_blank = is_cut.all_blank;
      begins = is_cut.begins;
      ends = body_end-moved (length bytes) (length once) _ definition is_cut.ends ∙ ap (λ (n : ℕ). Some n) moved_through;
    }

-- the cut round the first definition once the second is edited
abbrev before_second : Cut → List ℕ → Cut
before_second first rest = record first { rest = rest }

is_cut-before_second : (bytes other rest : List ℕ) (definition : Definition) (first : Cut) → IsCut bytes definition first → other ≡ through_body first ++ rest → IsCut other definition (before_second first rest)
is_cut-before_second bytes other rest definition first is_cut is_other = record {
  whole = is_other ∙ sym (joined-body (before_second first rest));
  hash = is_cut.hash;
  head_end = is_cut.head_end;
  all_blank = is_cut.all_blank;
  begins = is_cut.begins;
  ends = is_cut.ends;
}

-- both edits
pub edited-both : (bytes once other : List ℕ) (first second : Change) → EndsBefore first.definition second.definition → IsEdited bytes first once → IsEdited bytes second other → (both : List ℕ) × IsEdited once (moved_change (length bytes) (length once) second) both × IsEdited other first both
edited-both bytes once other first second before is_once is_other =
    let cut = is_once.0 in
    let cut_behind = is_other.0 in
    let ends : Some (length (through_body cut)) ≡ Some before.0 = sym is_once.1.ends ∙ before.1 in
    let end : length (through_body cut) ≡ before.0 = cc in
    let hash = is_other.1.hash in
    let inside = before.2 in
    let middle = drop (length (through_body cut)) cut_behind.front in
    let between = stands_between cut cut_behind (sym is_once.1.whole ∙ is_other.1.whole) (omega arith) in
    let edited = second.head ++ (cut_behind.body ++ (second.tail ++ cut_behind.rest)) in
    let new = after_first cut first middle cut_behind in
    let old = before_second cut (middle ++ edited) in
    let is_new = is_cut-after_first bytes once first second.definition cut cut_behind middle is_once.2 is_other.1 between in
    let whole : other ≡ through_body cut ++ (middle ++ edited) =
    is_other.2 ∙ (ap (λ (text : List ℕ). text ++ edited) between.front ∙ append_assoc (through_body cut) middle edited)
    in
    let is_old = is_cut-before_second bytes other (middle ++ edited) first.definition cut is_once.1 whole in
    let same : (through_changed cut first ++ middle) ++ edited ≡ with_change old first =
    append_assoc (through_changed cut first) middle edited ∙ sym (with_change-rest old first)
    in
    ((through_changed cut first ++ middle) ++ edited, (new, is_new, refl), (old, is_old, same))
