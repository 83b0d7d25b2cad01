use Rattle.std.proofs.Common.{◌≡◌, suc, ◌+◌, List, drop, sym, ap, ◌∙◌, arith}
use Rattle.dm_parentheses.specs.declared.sign.Sign.{Sign}
use Rattle.dm_parentheses.specs.Parentheses.{before_closing, before_end, index_from}
use Rattle.dm_parentheses.proofs.JumpLemmas.{index_from-zero, behind_closing, before_end-jump}
use Rattle.dm_parentheses.proofs.ends.Ends.end_behind_opening.Goals as goal

pub returns-in_err-closing-clause-is : goal.returns-in_err-closing-clause-is
returns-in_err-closing-clause-is c =
    let signs : List Sign = c.args.self.now in
    c.from_residual.ensures ∙ sym (before_end-jump 0 signs ∙ ap (behind_closing signs) (sym (c.in_err-closing.ensures.is ∙ index_from-zero (before_closing 0 signs))))

pub returns-clause-is : goal.returns-clause-is
returns-clause-is c =
    let signs : List Sign = c.args.self.now in
    let next : suc c.in_ok-closing.closing ≡ c.in_ok-closing.closing + 1 = omega arith in
    c.end_inside.ensures.is
    ∙ sym (before_end-jump 0 signs ∙ ap (behind_closing signs) (sym (c.in_ok-closing.ensures.is ∙ index_from-zero (before_closing 0 signs)))
    ∙ ap (λ n. index_from n (before_end 0 (drop n signs))) next)
