use Rattle.std.proofs.Common.{List, sym, subst}
use Rattle.dm_token.specs.declared.expansion.Mark.{Mark}
use Rattle.dm_expand.specs.Ways.{Way, LeadsTo}
use Rattle.dm_expand.proofs.trails.Way.keep.Goals as goal

pub invariant_of-self : goal.invariant_of-self
invariant_of-self c = (
  c.self.invariant.0,
  c.self.invariant.1,
  c.self.invariant.2,
  λ some.
      subst (λ (way : Way). LeadsTo way c.in_ok-last.last c.in_ok-kept.kept) (sym c.self.view_is)
      (subst (λ (marks : List Mark). LeadsTo c.args.self.now marks c.in_ok-kept.kept) (sym c.in_ok-last.ensures)
      (subst (λ (marks : List Mark). LeadsTo c.args.self.now c.args.legs.now marks) (sym c.in_ok-kept.ensures) c.requires)),
)
