use Rattle.std.proofs.Common.{◌≡◌, [], reverse, refl, sym, ap, subst}
use Rattle.dm_pexpr.specs.Scoping.{known_by, befores, all_declared, IsKept}
use Rattle.dm_pexpr.proofs.ScopeLemmas.{one-less}
use Rattle.dm_pexpr.proofs.scope.Scope.take_back.Goals as goal

pub invariant_of-self-in-Err : goal.invariant_of-self-in-Err
unfolding known_by befores
invariant_of-self-in-Err c =
    let nothing : [] ≡ reverse c.clear.new.self.items = ap reverse (sym c.clear.ensures.items) in
    subst (λ those. (c.new.result ≡ known_by (all_declared those)) × IsKept those) nothing (c.new.ensures, refl)

pub invariant_of-self-in-Ok : goal.invariant_of-self-in-Ok
invariant_of-self-in-Ok c =
    one-less c.self.inside.entries.items c.pop.new.self.items c.in-Some.entry c.self.inside.latest c.set.new.self
    c.in-Some.ensures.items c.self.invariant.0 c.self.invariant.1 c.in-Ok.ensures.ok
