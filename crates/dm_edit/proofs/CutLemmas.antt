-- The parts of a cut, each read off the bytes and the definition.
use Rattle.std.proofs.Common.{◌≡◌, ℕ, ◌+◌, IsTrue, List, [], ◌∷◌, ◌++◌, length, take, drop, sym, ap, ◌∙◌, refl, arith, append_assoc, Some}
use Rattle.std.specs.List.{list_all, prefix_len}
use Rattle.std.proofs.Math.Seq.{take-append_seam, drop-append_seam}
use Rattle.std.proofs.lemmas.Bool.{and_parts, cond-true, cond-false}
use Rattle.dm_token.specs.declared.expansion.Definition.{Definition}
use Rattle.dm_edit.specs.Cuts.{is_blank, BeginsVisibly, Cut, through_body, joined, IsCut, body_end}

-- a list by the length of its front
pub take-joined : (front rest : List ℕ) (n : ℕ) → length front ≡ n → take n (front ++ rest) ≡ front
take-joined front rest n size = ap (λ (k : ℕ). take k (front ++ rest)) (sym size) ∙ take-append_seam front rest

pub drop-joined : (front rest : List ℕ) (n : ℕ) → length front ≡ n → drop n (front ++ rest) ≡ rest
drop-joined front rest n size = ap (λ (k : ℕ). drop k (front ++ rest)) (sym size) ∙ drop-append_seam front rest

-- the whole, cut behind the body
pub joined-body : (cut : Cut) → joined cut ≡ through_body cut ++ cut.rest
joined-body cut = simp append_assoc refl

-- what ends with the body, cut behind the directive
pub through_body-directive : (cut : Cut) → through_body cut ≡ (cut.front ++ cut.directive) ++ (cut.blanks ++ cut.body)
through_body-directive cut = simp append_assoc refl

-- the blanks are all that stand before the body
pub prefix_len-blanks : (blanks body : List ℕ) → IsTrue (list_all is_blank blanks) → BeginsVisibly body → prefix_len is_blank (blanks ++ body) ≡ length blanks
prefix_len-blanks [] [] all begins = absurd begins
prefix_len-blanks [] (byte ∷ body) all begins = cond-false (is_blank byte) _ _ begins
prefix_len-blanks (blank ∷ blanks) body all begins =
    let both = and_parts (is_blank blank) (list_all is_blank blanks) all in
    let more = prefix_len-blanks blanks body both.1 begins in
    let one = cond-true (is_blank blank) (1 + prefix_len is_blank (blanks ++ body)) 0 both.0 in
    omega arith

-- each part that stays
pub front-cut : (bytes : List ℕ) (definition : Definition) (cut : Cut) → IsCut bytes definition cut → take definition.hash bytes ≡ cut.front
front-cut bytes definition cut is_cut = ap (take definition.hash) is_cut.whole ∙ take-joined cut.front _ definition.hash is_cut.hash

pub through-cut : (bytes : List ℕ) (definition : Definition) (cut : Cut) (end : ℕ) → IsCut bytes definition cut → body_end definition ≡ Some end → take end bytes ≡ through_body cut
through-cut bytes definition cut end is_cut ends =
    let size : Some (length (through_body cut)) ≡ Some end = sym is_cut.ends ∙ ends in
    ap (take end) (is_cut.whole ∙ joined-body cut) ∙ take-joined (through_body cut) cut.rest end cc

pub rest-cut : (bytes : List ℕ) (definition : Definition) (cut : Cut) (end : ℕ) → IsCut bytes definition cut → body_end definition ≡ Some end → drop end bytes ≡ cut.rest
rest-cut bytes definition cut end is_cut ends =
    let size : Some (length (through_body cut)) ≡ Some end = sym is_cut.ends ∙ ends in
    ap (drop end) (is_cut.whole ∙ joined-body cut) ∙ drop-joined (through_body cut) cut.rest end cc

-- what stands behind the head, and the body in it
pub behind-cut : (bytes : List ℕ) (definition : Definition) (cut : Cut) → IsCut bytes definition cut → drop definition.head_end (through_body cut) ≡ cut.blanks ++ cut.body
behind-cut bytes definition cut is_cut =
    ap (drop definition.head_end) (through_body-directive cut) ∙ drop-joined (cut.front ++ cut.directive) _ definition.head_end is_cut.head_end

pub body-cut : (bytes : List ℕ) (definition : Definition) (cut : Cut) → IsCut bytes definition cut → drop (prefix_len is_blank (cut.blanks ++ cut.body)) (cut.blanks ++ cut.body) ≡ cut.body
body-cut bytes definition cut is_cut =
    drop-joined cut.blanks cut.body _ (sym (prefix_len-blanks cut.blanks cut.body is_cut.all_blank is_cut.begins))
