use Rattle.std.proofs.Common.{◌≡◌, [], reverse, refl, sym, ap, ◌∙◌, subst}
use Rattle.std.specs.FinMap as finite
use Rattle.dm_pexpr.specs.NameMaps.{entry_of}
use Rattle.dm_pexpr.specs.Scoping.{known_by, befores, all_declared, IsKept}
use Rattle.dm_pexpr.proofs.ScopeLemmas.{one-more}
use Rattle.dm_pexpr.proofs.scope.Scope.declare.Goals as goal

pub invariant_of-self-in-Err : goal.invariant_of-self-in-Err
unfolding known_by befores
invariant_of-self-in-Err c =
    let nothing : [] ≡ reverse c.clear.new.self.items = ap reverse (sym c.clear.ensures.items) in
    subst (λ those. (c.new.result ≡ known_by (all_declared those)) × IsKept those) nothing (c.new.ensures, refl)

pub invariant_of-self-in-Ok : goal.invariant_of-self-in-Ok
invariant_of-self-in-Ok c =
    one-more c.self.inside.entries.items c.push.new.self.items (record { declared = record { name = c.in_ok-copy.field-0; is_type = c.args.is_type }; before = c.get.result }) c.self.inside.latest c.set.new.self
    c.in-Ok.ensures.items c.self.invariant.0 c.self.invariant.1
    (c.in_ok-set.ensures.ok ∙ ap (λ n. finite.insert c.self.inside.latest n c.args.is_type) (sym c.in_ok-copy.ensures))
    (c.get.ensures ∙ ap (λ n. entry_of c.self.inside.latest n) (sym c.in_ok-copy.ensures))
