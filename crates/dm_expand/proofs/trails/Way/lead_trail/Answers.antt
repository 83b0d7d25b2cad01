use Rattle.std.proofs.Common.{◌++◌, List, ap, ◌∙◌}
use Rattle.dm_token.specs.declared.expansion.Mark.{Mark}
use Rattle.dm_expand.specs.Ways.{Way}
use Rattle.dm_expand.proofs.trails.Way.lead_trail.Goals as goal

pub returns-clause-led : goal.returns-clause-led
returns-clause-led c =
    let left : List Mark = c.in_ok-left.left in
    c.new.ensures
    ∙ ap (λ (marks : List Mark). marks ++ left) (c.in_ok-first.ensures ∙ c.self.invariant.1)
    ∙ ap (λ (way : Way). way.base ++ left) (c.self.view_is ∙ c.in_ok-left.ensures.same)
    ∙ ap (λ (marks : List Mark). c.args.self.now.base ++ marks) c.in_ok-left.ensures.left
