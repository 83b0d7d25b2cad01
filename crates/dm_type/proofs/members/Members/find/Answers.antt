-- The set's place of a name is that of the member.
use Rattle.std.specs.Prelude.{◌≡◌, ℕ, option_map}
use Rattle.std.proofs.Common.{Bor, get_or, sym, ap, ◌∙◌, subst}
use Rattle.dm_type.specs.declared.shape.Member.{Member}
use Rattle.dm_type.proofs.NamingLemmas.{names_of, set-misses, set-places, set-finds}
use Rattle.dm_type.proofs.members.Members.find.Goals as goal

pub returns-in_err-number-clause-found : goal.returns-in_err-number-clause-found
returns-in_err-number-clause-found c =
    let same : names_of c.args.self.now ≡ c.self.inside.names.keys = subst (λ members. names_of members ≡ c.self.inside.names.keys) c.self.view_is c.self.invariant.0 in
    ap (option_map (λ (found : ℕ × Bor Member). (found.0, found.1.now))) c.from_residual.ensures
    ∙ sym (set-misses c.args.self.now c.self.inside.names.keys c.args.name.now same (sym c.in_err-number.ensures.found))

pub returns-clause-found : goal.returns-clause-found
returns-clause-found c =
    let same : names_of c.args.self.now ≡ c.self.inside.names.keys = subst (λ members. names_of members ≡ c.self.inside.names.keys) c.self.view_is c.self.invariant.0 in
    sym (set-finds c.args.self.now c.self.inside.names.keys c.args.name.now same c.in_ok-number.number c.index.result.now
    (sym c.in_ok-number.ensures.index) c.in_ok-number.ensures.within (subst (λ members. c.index.result.now ≡ get_or members c.in_ok-number.number c.index.result.now) c.self.view_is c.index.ensures))

pub returns-clause-there : goal.returns-clause-there
returns-clause-there c =
    let same : names_of c.args.self.now ≡ c.self.inside.names.keys = subst (λ members. names_of members ≡ c.self.inside.names.keys) c.self.view_is c.self.invariant.0 in
    set-places c.args.self.now c.self.inside.names.keys c.args.name.now same c.in_ok-number.number c.index.result.now
    c.in_ok-number.ensures.within (subst (λ members. c.index.result.now ≡ get_or members c.in_ok-number.number c.index.result.now) c.self.view_is c.index.ensures)
