-- One more mark says the same.
use Rattle.std.proofs.Common.{◌≡◌, false, List, [], ◌∷◌, ◌++◌, sym, subst, rules}
use Rattle.dm_stable.specs.declared.marks.Mark.{Mark}
use Rattle.dm_stable.specs.declared.marks.Mark.TheVariants.{No}
use Rattle.dm_stable.specs.Marks.{Tells, mark_at}
use Rattle.dm_stable.proofs.MarkLemmas.{unmarked-more}
use Rattle.dm_stable.proofs.objects.unmarked.Goals as goal

pub loop-marks-preserved : goal.loop-marks-preserved
loop-marks-preserved c = λ d token.
    let pushed : c.push.new.self.items ≡ c.loop-marks.marks.items ++ No ∷ [] = search rules in
    subst (λ (marks : List Mark). Tells (mark_at marks d) token false) (sym pushed) (unmarked-more c.loop-marks.marks.items d token (c.loop-marks.invariant d token))
