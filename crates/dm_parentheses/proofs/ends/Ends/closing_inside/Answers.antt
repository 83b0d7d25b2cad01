use Rattle.std.proofs.Common.{◌≡◌, ℕ, suc, ◌+◌, List, Some, if◌then◌else◌, drop, sym, ap, ◌∙◌, arith}
use Rattle.dm_parentheses.specs.declared.sign.Sign.{Sign}
use Rattle.dm_parentheses.specs.Parentheses.{before_closing, index_from}
use Rattle.dm_parentheses.proofs.JumpLemmas.{behind_end, closing-step}
use Rattle.dm_parentheses.proofs.ends.Ends.closing_inside.Goals as goal

pub returns-then-closes-clause-is : goal.returns-then-closes-clause-is
returns-then-closes-clause-is c =
    let signs : List Sign = c.args.self.now in
    let end : ℕ = c.in-Some.end in
    sym (c.ends.invariant ∙ closing-step signs c.ends.behind ∙ ap (behind_end signs) (sym c.in-Some.ensures.is)
    ∙ ap (λ here. if here then Some end else index_from (suc end) (before_closing 0 (drop (suc end) signs))) (sym c.if-closes.ensures))

pub ends-preserved : goal.ends-preserved
ends-preserved c =
    let signs : List Sign = c.args.self.now in
    let end : ℕ = c.in-Some.end in
    let next : suc end ≡ end + 1 = omega arith in
    c.ends.invariant ∙ closing-step signs c.ends.behind ∙ ap (behind_end signs) (sym c.in-Some.ensures.is)
    ∙ ap (λ here. if here then Some end else index_from (suc end) (before_closing 0 (drop (suc end) signs))) (sym c.if-closes.ensures)
    ∙ ap (λ n. index_from n (before_closing 0 (drop n signs))) next

pub returns-clause-is : goal.returns-clause-is
returns-clause-is c =
    let signs : List Sign = c.args.self.now in
    sym (c.ends.invariant ∙ closing-step signs c.ends.behind ∙ ap (behind_end signs) (sym c.in_default.ensures.is))
