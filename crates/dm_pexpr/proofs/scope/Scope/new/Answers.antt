use Rattle.std.proofs.Common.{◌≡◌, [], reverse, refl, sym, ap, subst}
use Rattle.dm_pexpr.specs.Scoping.{known_by, befores, all_declared, IsKept}
use Rattle.dm_pexpr.proofs.scope.Scope.new.Goals as goal

pub invariant_of-result : goal.invariant_of-result
unfolding known_by befores
invariant_of-result c =
    let nothing : [] ≡ reverse c.new.result.items = ap reverse (sym c.new.ensures.items) in
    subst (λ those. (c.new-2.result ≡ known_by (all_declared those)) × IsKept those) nothing (c.new-2.ensures, refl)
