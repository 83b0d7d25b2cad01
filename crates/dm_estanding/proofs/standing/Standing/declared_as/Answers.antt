-- The name means the entry, which has one declaration more if it has linkage.
use Rattle.std.specs.Prelude.{[], refl}
use Rattle.std.proofs.Common.{sym, ◌∙◌, subst}
use Rattle.dm_typing.proofs.GivesLemmas.{grown}
use Rattle.dm_typing.proofs.TableLemmas.{table-proper}
use Rattle.dm_edecl.specs.Linkages.{number_here, named_here, with_link, with_link_if}
use Rattle.dm_estanding.specs.Summaries.{entry_over, StandsFor, MayBeAdded}
use Rattle.dm_estanding.proofs.DeclaringLemmas.{stands-named, may-be-added, below-held}
use Rattle.dm_estanding.proofs.WithinLemmas.{within-grown}
use Rattle.dm_estanding.proofs.standing.Standing.declared_as.Goals as goal

pub returns-then-not-linked-clause-known : goal.returns-then-not-linked-clause-known
returns-then-not-linked-clause-known c = λ later begins before stands lawful may seen.
    let entry = entry_over later c.args.entry in
    let now = c.named.new.self in
    subst (λ test. StandsFor later now.known now.links (record before { known = named_here before entry; linked = with_link_if test (number_here before entry) entry.kind c.args.defines before.linked }))
    (sym (sym c.has_linkage-linked.ensures ∙ c.if-not-linked.true))
    (stands-named before entry lawful later c.args.self.now.known now.known c.args.self.now.links now.links stands (c.in_ok-number.ensures.known later before stands lawful may seen)
    c.in_ok-number.ensures.links)

pub returns-clause-known : goal.returns-clause-known
returns-clause-known c = λ later begins before stands lawful may seen.
    let entry = entry_over later c.args.entry in
    let now = c.named.new.self in
    let old = c.args.self.now.known in
    let defines = c.args.defines in
    let linked = sym c.has_linkage-linked.ensures ∙ c.if-not-linked.false in
    let below = below-held later old before.known stands.known old.numbers in
    let named = c.in_ok-number.ensures.known later before stands lawful may seen in
    let number = c.in_ok-number.ensures.number later before stands lawful in
    let stood = stands-named before entry lawful later old now.known c.args.self.now.links now.links stands named c.in_ok-number.ensures.links in
    let proper = table-proper (record { shapes = later; structs = [] }) c.args.entry.kind in
    let it = subst (λ name. MayBeAdded (named_here before entry).declared before.linked name c.in_ok-number.number entry.kind defines) (sym c.in_ok-name.ensures)
    (subst (λ n. MayBeAdded (named_here before entry).declared before.linked entry.name n entry.kind defines) (sym number)
    (may-be-added before entry lawful below may proper defines linked)) in
    let added = c.in_ok-add.ensures.summary later begins (named_here before entry).declared before.linked stood.links it.called it.once it.proper it.bounds.0 it.bounds.1 in
    subst (λ test. StandsFor later c.add.new.known c.add.new.self (record before { known = named_here before entry; linked = with_link_if test (number_here before entry) entry.kind defines before.linked }))
    (sym linked)
    (subst (λ n. StandsFor later c.add.new.known c.add.new.self (record before { known = named_here before entry; linked = with_link n entry.kind defines before.linked })) number
    (record { known = sym named ∙ grown later now.known c.add.new.known c.add.ensures.grows; links = added }))

pub returns-clause-within : goal.returns-clause-within
returns-clause-within c = within-grown c.args.self.now c.named.new.self _ c.in_ok-number.ensures.within c.add.ensures.grows refl
