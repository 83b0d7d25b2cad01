-- Each turn takes the innermost marks off, and what is left decides.
use Rattle.std.proofs.Common.{◌≡◌, Bool, true, false, ◌&&◌, not, List, [], ◌∷◌, ◌++◌, length, sym, ◌∙◌, ap, arith, length-append}
use Rattle.std.proofs.lemmas.Bool.{not-true, not-false}
use Rattle.std.proofs.Math.Bool.{and-true, and-false}
use Rattle.dm_token.specs.declared.expansion.Mark.{Mark}
use Rattle.dm_token.specs.contracts.expansion.MarkPartialEq.TheImpl as mark_eq
use Rattle.dm_token.specs.Equal.{equal}
use Rattle.dm_token.proofs.MarkLemmas.{equal-push}
use Rattle.dm_token.proofs.trail.TrailPartialEq.eq.Goals as goal

-- two trails whose innermost marks are known
taken : (left right xs ys : List Mark) (x y : Mark) (same : Bool) → length left ≡ length right → left ≡ xs ++ x ∷ [] → right ≡ ys ++ y ∷ [] → (mark_eq.ghosts).eq x y ≡ same → equal left right ≡ (equal xs ys && same)
taken left right xs ys x y same level e f tested =
    let inner : length xs ≡ length ys = omega (arith, ap length e, ap length f, length-append xs (x ∷ []), length-append ys (y ∷ [])) in
    ap (λ marks. equal marks right) e ∙ (ap (equal (xs ++ x ∷ [])) f ∙ (equal-push xs ys x y inner ∙ ap (λ b. equal xs ys && b) tested))

pub returns-then-ne : goal.returns-then-ne
returns-then-ne c =
    let mine = c.in-Some-Some.mine.now in
    let theirs = c.in-Some-Some.theirs.now in
    let differ : c.ne.result ≡ not ((mark_eq.ghosts).eq mine.mark theirs.mark) = c.ne.ensures in
    let apart : (mark_eq.ghosts).eq mine.mark theirs.mark ≡ false = not-true ((mark_eq.ghosts).eq mine.mark theirs.mark) (sym differ ∙ c.if-ne.true) in
    sym (c.loop-mine.invariant.decides ∙ (taken c.loop-mine.left.now c.loop-mine.right.now mine.parent theirs.parent mine.mark theirs.mark false
    c.loop-mine.invariant.level c.in-Some-Some.ensures c.in-Some-Some.ensures' apart ∙ and-false (equal mine.parent theirs.parent)))

pub loop-mine-preserved : goal.loop-mine-preserved
loop-mine-preserved c =
    let mine = c.in-Some-Some.mine.now in
    let theirs = c.in-Some-Some.theirs.now in
    let left : c.loop-mine.left.now ≡ mine.parent ++ mine.mark ∷ [] = c.in-Some-Some.ensures in
    let right : c.loop-mine.right.now ≡ theirs.parent ++ theirs.mark ∷ [] = c.in-Some-Some.ensures' in
    let differ : c.ne.result ≡ not ((mark_eq.ghosts).eq mine.mark theirs.mark) = c.ne.ensures in
    let same : (mark_eq.ghosts).eq mine.mark theirs.mark ≡ true = not-false ((mark_eq.ghosts).eq mine.mark theirs.mark) (sym differ ∙ c.if-ne.false) in
    record {
      level = omega (arith, c.loop-mine.invariant.level, ap length left, ap length right, length-append mine.parent (mine.mark ∷ []), length-append theirs.parent (theirs.mark ∷ []));
      decides =
          c.loop-mine.invariant.decides ∙ (taken c.loop-mine.left.now c.loop-mine.right.now mine.parent theirs.parent mine.mark theirs.mark true
          c.loop-mine.invariant.level left right same ∙ and-true (equal mine.parent theirs.parent));
    }
