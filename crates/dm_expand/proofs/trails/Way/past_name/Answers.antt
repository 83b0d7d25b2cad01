use Rattle.std.proofs.Common.{List, ap, ◌∙◌, sym}
use Rattle.dm_token.specs.declared.expansion.Mark.{Mark}
use Rattle.dm_expand.specs.Trails.{past}
use Rattle.dm_expand.specs.Ways.{Way}
use Rattle.dm_expand.proofs.trails.Way.past_name.Goals as goal

pub invariant_of-self : goal.invariant_of-self
invariant_of-self c = (
  c.self-2.invariant.0,
  c.self-2.invariant.1,
  c.in_ok-left.ensures.left
      ∙ ap (λ (trail : List Mark). past c.args.self.now.name trail) (sym c.in_ok-last.ensures)
      ∙ ap (λ (way : Way). past way.name c.in_ok-last.last) (sym (c.self-2.view_is ∙ c.in_ok-left.ensures.same)),
  c.self-2.invariant.3,
)
