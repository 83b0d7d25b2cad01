-- The set of names says whether a name is new.
use Rattle.std.specs.Prelude.{◌≡◌}
use Rattle.std.proofs.Common.{sym, ◌∙◌, subst}
use Rattle.dm_type.proofs.NamingLemmas.{names_of, new-name}
use Rattle.dm_type.proofs.members.Members.push.Goals as goal

pub returns-then-not-added-clause-new : goal.returns-then-not-added-clause-new
returns-then-not-added-clause-new c =
    let same : names_of c.args.self.now ≡ c.self.inside.names.keys = subst (λ members. names_of members ≡ c.self.inside.names.keys) c.self.view_is c.self.invariant.0 in
    sym c.if-not-added.true ∙ new-name c.args.self.now c.self.inside.names.keys c.args.member.name c.in_ok-name.name c.in_ok-added.added same c.in_ok-name.ensures c.in_ok-added.ensures.added

pub returns-clause-new : goal.returns-clause-new
returns-clause-new c =
    let same : names_of c.args.self.now ≡ c.self.inside.names.keys = subst (λ members. names_of members ≡ c.self.inside.names.keys) c.self.view_is c.self.invariant.0 in
    sym c.if-not-added.false ∙ new-name c.args.self.now c.self.inside.names.keys c.args.member.name c.in_ok-name.name c.in_ok-added.added same c.in_ok-name.ensures c.in_ok-added.ensures.added
