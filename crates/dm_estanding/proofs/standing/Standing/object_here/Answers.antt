-- The entry has the type, and one declaration more if it has linkage.
use Rattle.std.specs.Prelude.{true, refl}
use Rattle.std.proofs.Common.{sym, ◌∙◌, subst, arith}
use Rattle.dm_typing.specs.Views.{type_over}
use Rattle.dm_typing.proofs.GivesLemmas.{grown}
use Rattle.dm_typing.proofs.LaterLemmas.{begins-length}
use Rattle.dm_edecl.specs.Linkages.{with_kind, known_kind, with_link, with_link_if}
use Rattle.dm_estanding.specs.Summaries.{Summarises, StandsFor}
use Rattle.dm_estanding.proofs.DefiningLemmas.{object-stands}
use Rattle.dm_estanding.proofs.WithinLemmas.{within-grown}
use Rattle.dm_estanding.proofs.standing.Standing.object_here.Goals as goal

pub invariant_of-self : goal.invariant_of-self
invariant_of-self c = record {
  kinds = c.add.ensures.kinds;
  before = λ k d inside.
      let longer = begins-length c.retype.new.self.known.types.shapes c.add.new.known.types.shapes c.add.ensures.grows.shapes in
      let one = c.retype.new.self.before k d inside in
      omega (arith, longer, one);
}

pub returns-then-not-linked-clause-known : goal.returns-then-not-linked-clause-known
returns-then-not-linked-clause-known c = λ later begins before stands entry is may.
    let number = c.args.number in
    let type = type_over later c.args.kind in
    let now = c.retype.new.self in
    subst (λ test. StandsFor later now.known now.links (record before { known = known_kind number type before.known; linked = with_link_if test number type true before.linked }))
    (sym (is ∙ c.if-not-linked.true))
    (object-stands later c.args.self.now.known now.known c.args.self.now.links now.links before number c.args.kind before.linked stands (c.in_ok-retype.ensures.known later)
    (λ summary. subst (λ links. Summarises later links (with_kind number type before.known.declared) before.linked) (sym c.retype.ensures.links) summary))

pub returns-clause-known : goal.returns-clause-known
returns-clause-known c = λ later begins before stands entry is may.
    let number = c.args.number in
    let type = type_over later c.args.kind in
    let now = c.retype.new.self in
    let it = may c.if-not-linked.false in
    subst (λ test. StandsFor later c.add.new.known c.add.new.self (record before { known = known_kind number type before.known; linked = with_link_if test number type true before.linked }))
    (sym (is ∙ c.if-not-linked.false))
    (object-stands later c.args.self.now.known c.add.new.known c.args.self.now.links c.add.new.self before number c.args.kind (with_link number type true before.linked) stands
    (sym (grown later now.known c.add.new.known c.add.ensures.grows) ∙ c.in_ok-retype.ensures.known later)
    (λ summary. c.in_ok-add.ensures.summary later begins (with_kind number type before.known.declared) before.linked
    (subst (λ links. Summarises later links (with_kind number type before.known.declared) before.linked) (sym c.retype.ensures.links) summary)
    it.called it.once it.proper it.bounds.0 it.bounds.1))

pub returns-clause-within : goal.returns-clause-within
returns-clause-within c = within-grown c.args.self.now c.retype.new.self _ c.in_ok-retype.ensures.within c.add.ensures.grows refl
