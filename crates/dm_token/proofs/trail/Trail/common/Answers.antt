-- Each turn of the walk takes the innermost marks off.
use Rattle.std.proofs.Common.{◌≡◌, not, List, [], ◌∷◌, ◌++◌, sym, ◌∙◌, ap, subst}
use Rattle.std.proofs.lemmas.Bool.{not-true, not-false}
use Rattle.dm_token.specs.declared.expansion.Mark.{Mark}
use Rattle.dm_token.specs.contracts.expansion.MarkPartialEq.TheImpl as mark_eq
use Rattle.dm_token.proofs.MarkLemmas.{same_mark, marks_apart}
use Rattle.dm_token.proofs.Walks.{IsWalked, IsWalked-same, IsWalked-apart, IsWalked-end}
use Rattle.dm_token.proofs.trail.Trail.common.Goals as goal
use Rattle.dm_token.proofs.trail.Trail.common.Goals.{then-ne, else-ne}

pub loop-mine-preserved : goal.loop-mine-preserved
loop-mine-preserved c =
    let mine = c.in-Some-Some.mine.now in
    let theirs = c.in-Some-Some.theirs.now in
    let walked = c.loop-mine.invariant in
    let left : c.loop-mine.left.now ≡ mine.parent ++ mine.mark ∷ [] = c.in-Some-Some.ensures in
    let right : c.loop-mine.right.now ≡ theirs.parent ++ theirs.mark ∷ [] = c.in-Some-Some.ensures' in
    let differ : c.ne.result ≡ not ((mark_eq.ghosts).eq mine.mark theirs.mark) = c.ne.ensures in
    elim c.if-ne.branch [
      | then-ne w ↦
          let apart = marks_apart mine.mark theirs.mark (not-true ((mark_eq.ghosts).eq mine.mark theirs.mark) (sym differ ∙ w.if-ne.true)) in
          let outer : c.if-ne.common.now ≡ mine.parent = ap (λ trail. trail.now) w.common-is in
          subst (λ (marks : List Mark). IsWalked c.args.self.now c.args.other.now mine.parent theirs.parent marks) (sym outer)
          (IsWalked-apart _ _ _ _ _ mine.parent theirs.parent mine.mark theirs.mark walked left right apart)
      | else-ne w ↦
          let same = same_mark mine.mark theirs.mark (not-false ((mark_eq.ghosts).eq mine.mark theirs.mark) (sym differ ∙ w.if-ne.false)) in
          let kept : c.if-ne.common.now ≡ c.loop-mine.common.now = ap (λ trail. trail.now) w.common-is in
          subst (λ (marks : List Mark). IsWalked c.args.self.now c.args.other.now mine.parent theirs.parent marks) (sym kept)
          (IsWalked-same _ _ _ _ _ mine.parent theirs.parent mine.mark theirs.mark walked left right same)
    ]

pub returns-in_default-2 : goal.returns-in_default-2
returns-in_default-2 c = IsWalked-end _ _ _ _ _ c.loop-mine.invariant c.in_default.ensures
