use Rattle.std.proofs.Common.{ap, ◌∙◌}
use Rattle.dm_pexpr.specs.NameMaps.{entry_of}
use Rattle.dm_pexpr.specs.Scoping.{latest_of}
use Rattle.dm_pexpr.proofs.ScopeLemmas.{known-latest}
use Rattle.dm_pexpr.proofs.scope.Scope.get.Goals as goal

pub returns : goal.returns
returns c =
    c.get.ensures ∙ ap (λ m. entry_of m c.args.name.now) c.self.invariant.0 ∙ known-latest _ c.args.name.now ∙ ap (λ names. latest_of names c.args.name.now) c.self.view_is
