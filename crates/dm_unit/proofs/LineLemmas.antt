-- The first part of a file.
use Rattle.std.proofs.Common.{◌≡◌, suc, Bool, true, false, cond, ◌&&◌, List, [], ◌∷◌, take, drop, refl, sym, ap, ◌∙◌, subst}
use Rattle.std.specs.List.{position_or_len}
use Rattle.dm_token.specs.declared.token.PpToken.{PpToken}
use Rattle.dm_macro.specs.Signs.{is_hash}
use Rattle.dm_unit.specs.Lines.{Part, directive, text, is_first, begins_directive, in_first_line, lines_of, with_text, parts_in, parts_of}
use Rattle.dm_unit.specs.Views.{part_of}
use Rattle.dm_unit.proofs.ListLemmas.{position-here, position-later}

-- the first line ends before the next token that is the first of its line
pub first_line : (t : PpToken) (ts : List PpToken) → lines_of (t ∷ ts) ≡ (t ∷ take (position_or_len is_first ts) ts) ∷ lines_of (drop (position_or_len is_first ts) ts)
unfolding lines_of
first_line t [] = refl
first_line t (u ∷ us) = by u.line_first refl (first_line u us)
  where
    by : (b : Bool) → u.line_first ≡ b
        → lines_of (u ∷ us) ≡ (u ∷ take (position_or_len is_first us) us) ∷ lines_of (drop (position_or_len is_first us) us)
        → lines_of (t ∷ u ∷ us) ≡ (t ∷ take (position_or_len is_first (u ∷ us)) (u ∷ us)) ∷ lines_of (drop (position_or_len is_first (u ∷ us)) (u ∷ us))
    by true h next = subst (λ n. lines_of (t ∷ u ∷ us) ≡ (t ∷ take n (u ∷ us)) ∷ lines_of (drop n (u ∷ us))) (sym (position-here is_first u us h))
        (ap (λ b. cond b ((t ∷ []) ∷ lines_of (u ∷ us)) (in_first_line t (lines_of (u ∷ us)))) h)
    by false h next = subst (λ n. lines_of (t ∷ u ∷ us) ≡ (t ∷ take n (u ∷ us)) ∷ lines_of (drop n (u ∷ us))) (sym (position-later is_first u us h))
        (ap (λ b. cond b ((t ∷ []) ∷ lines_of (u ∷ us)) (in_first_line t (lines_of (u ∷ us)))) h ∙ ap (in_first_line t) next)

-- a token more in a text group at the front
onto_text : PpToken → List Part → List Part
onto_text t [] = []
onto_text t (text tokens ∷ parts) = text (t ∷ tokens) ∷ parts
onto_text t (directive start behind ∷ parts) = directive start behind ∷ parts

with_text-cons : (t : PpToken) (line tokens : List PpToken) (parts others : List Part) → with_text line parts ≡ text tokens ∷ others → with_text (t ∷ line) parts ≡ text (t ∷ tokens) ∷ others
unfolding onto_text
with_text-cons t line tokens [] others e = ap (onto_text t) e
with_text-cons t line tokens (text more ∷ parts) others e = ap (onto_text t) e
with_text-cons t line tokens (directive start behind ∷ parts) others e = ap (onto_text t) e

-- the first line, and the parts behind it if it is a line of text
pub record FirstText (t : PpToken) (ts : List PpToken) : Type 0 where
  pub line : List PpToken
  pub lines : List (List PpToken)
  pub cut : lines_of (t ∷ ts) ≡ (t ∷ line) ∷ lines
  pub parts : with_text (t ∷ line) (parts_in lines) ≡ text (t ∷ take (position_or_len begins_directive ts) ts) ∷ parts_of (drop (position_or_len begins_directive ts) ts)

-- behind one more token that begins no line
text-same : (t u : PpToken) (us : List PpToken) → u.line_first ≡ false → FirstText u us → FirstText t (u ∷ us)
unfolding lines_of
text-same t u us first next =
    let later : position_or_len begins_directive (u ∷ us) ≡ suc (position_or_len begins_directive us) = position-later begins_directive u us (ap (λ b. b && is_hash u) first) in
    record {
      line = u ∷ next.line;
      lines = next.lines;
      cut = ap (λ b. cond b ((t ∷ []) ∷ lines_of (u ∷ us)) (in_first_line t (lines_of (u ∷ us)))) first ∙ ap (in_first_line t) next.cut;
      parts = subst (λ m. with_text (t ∷ (u ∷ next.line)) (parts_in next.lines) ≡ text (t ∷ take m (u ∷ us)) ∷ parts_of (drop m (u ∷ us))) (sym later)
          (with_text-cons t (u ∷ next.line) (u ∷ take (position_or_len begins_directive us) us) (parts_in next.lines) (parts_of (drop (position_or_len begins_directive us) us)) next.parts);
    }

-- behind a token that begins a directive
text-ends : (t u : PpToken) (us : List PpToken) → u.line_first ≡ true → is_hash u ≡ true → FirstText u us → FirstText t (u ∷ us)
unfolding lines_of parts_in parts_of
text-ends t u us first hash next =
    let here : position_or_len begins_directive (u ∷ us) ≡ 0 = position-here begins_directive u us (ap (λ b. b && is_hash u) first ∙ hash) in
    let behind : parts_in (lines_of (u ∷ us)) ≡ directive u next.line ∷ parts_in next.lines =
    ap parts_in next.cut ∙ ap (λ b. cond b (directive u next.line ∷ parts_in next.lines) (with_text (u ∷ next.line) (parts_in next.lines))) hash in
    record {
      line = [];
      lines = lines_of (u ∷ us);
      cut = ap (λ b. cond b ((t ∷ []) ∷ lines_of (u ∷ us)) (in_first_line t (lines_of (u ∷ us)))) first;
      parts = subst (λ m. with_text (t ∷ []) (parts_in (lines_of (u ∷ us))) ≡ text (t ∷ take m (u ∷ us)) ∷ parts_of (drop m (u ∷ us))) (sym here)
          (ap (with_text (t ∷ [])) behind ∙ ap (λ ps. text (t ∷ []) ∷ ps) (sym behind));
    }

-- behind a token that begins a line of text
text-goes : (t u : PpToken) (us : List PpToken) → u.line_first ≡ true → is_hash u ≡ false → FirstText u us → FirstText t (u ∷ us)
unfolding lines_of parts_in parts_of
text-goes t u us first hash next =
    let later : position_or_len begins_directive (u ∷ us) ≡ suc (position_or_len begins_directive us) = position-later begins_directive u us (ap (λ b. b && is_hash u) first ∙ hash) in
    let behind : parts_in (lines_of (u ∷ us)) ≡ text (u ∷ take (position_or_len begins_directive us) us) ∷ parts_of (drop (position_or_len begins_directive us) us) =
    ap parts_in next.cut ∙ ap (λ b. cond b (directive u next.line ∷ parts_in next.lines) (with_text (u ∷ next.line) (parts_in next.lines))) hash ∙ next.parts in
    record {
      line = [];
      lines = lines_of (u ∷ us);
      cut = ap (λ b. cond b ((t ∷ []) ∷ lines_of (u ∷ us)) (in_first_line t (lines_of (u ∷ us)))) first;
      parts = subst (λ m. with_text (t ∷ []) (parts_in (lines_of (u ∷ us))) ≡ text (t ∷ take m (u ∷ us)) ∷ parts_of (drop m (u ∷ us))) (sym later)
          (ap (with_text (t ∷ [])) behind);
    }

text-by : (t u : PpToken) (us : List PpToken) (b h : Bool) → u.line_first ≡ b → is_hash u ≡ h → FirstText u us → FirstText t (u ∷ us)
text-by t u us false h first hash next = text-same t u us first next
text-by t u us true true first hash next = text-ends t u us first hash next
text-by t u us true false first hash next = text-goes t u us first hash next

pub first_text : (t : PpToken) (ts : List PpToken) → FirstText t ts
unfolding lines_of parts_in parts_of
first_text t [] = record { line = []; lines = []; cut = refl; parts = refl }
first_text t (u ∷ us) = text-by t u us u.line_first (is_hash u) refl refl (first_text u us)

-- a directive at the front
pub first_directive : (t : PpToken) (ts : List PpToken) → is_hash t ≡ true
    → parts_of (t ∷ ts) ≡ part_of (t ∷ take (position_or_len is_first ts) ts) ∷ parts_of (drop (position_or_len is_first ts) ts)
unfolding parts_of parts_in
first_directive t ts hash =
    let line = take (position_or_len is_first ts) ts in
    let behind = lines_of (drop (position_or_len is_first ts) ts) in
    ap parts_in (first_line t ts)
    ∙ ap (λ b. cond b (directive t line ∷ parts_in behind) (with_text (t ∷ line) (parts_in behind))) hash
    ∙ sym (ap (λ b. cond b (directive t line) (text (t ∷ line)) ∷ parts_in behind) hash)

-- a text group at the front
pub first_group : (t : PpToken) (ts : List PpToken) → is_hash t ≡ false
    → parts_of (t ∷ ts) ≡ part_of (t ∷ take (position_or_len begins_directive ts) ts) ∷ parts_of (drop (position_or_len begins_directive ts) ts)
unfolding parts_of parts_in
first_group t ts hash =
    let first = first_text t ts in
    let tokens = take (position_or_len begins_directive ts) ts in
    ap parts_in first.cut
    ∙ ap (λ b. cond b (directive t first.line ∷ parts_in first.lines) (with_text (t ∷ first.line) (parts_in first.lines))) hash
    ∙ first.parts
    ∙ sym (ap (λ b. cond b (directive t tokens) (text (t ∷ tokens)) ∷ parts_of (drop (position_or_len begins_directive ts) ts)) hash)
