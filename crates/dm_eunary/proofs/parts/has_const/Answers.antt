-- One struct after another.
use Rattle.std.proofs.Common.{◌≡◌, [], length, rules, sym, ap, ◌∙◌, subst}
use Rattle.std.specs.Prelude.{option_copied}
use Rattle.std.proofs.lemmas.List.{nil_from_length}
use Rattle.dm_type.specs.CTypes.{CType}
use Rattle.dm_type.specs.Tables.{Table, type_of}
use Rattle.dm_typing.specs.Views.{table_over}
use Rattle.dm_eunary.specs.Parts.{stage_of}
use Rattle.dm_eunary.proofs.ConstLemmas.{Searching, none-from, const-itself, begun, taken, unknown-on, members-on, fewer-on, found-on, none-left}
use Rattle.dm_eunary.proofs.parts.has_const.Goals as goal

pub returns-then-has_const_elements : goal.returns-then-has_const_elements
returns-then-has_const_elements c = λ later begins.
    sym (const-itself (table_over later c.args.types.now) (type_of c.args.types.now c.args.id) (sym c.has_const_elements.ensures ∙ c.if-has_const_elements.true))

pub loop-number-init : goal.loop-number-init
loop-number-init c =
    let start : CType = type_of c.args.types.now c.args.id in
    subst (Searching c.args.types.now start) (sym c.in_ok-search.ensures.begun) (begun c.args.types.now start c.in_ok-search.ensures.known)

pub members-requires : goal.members-requires
members-requires c =
    (taken c.args.types.now (type_of c.args.types.now c.args.id) c.loop-number.search.seen.items c.pop.new.self.items c.loop-number.search.left.items c.in-Some.number
    c.in-Some.ensures.items c.loop-number.invariant).2

pub returns-then-has_const_member : goal.returns-then-has_const_member
returns-then-has_const_member c = λ later begins.
    sym (found-on c.args.types.now (type_of c.args.types.now c.args.id) c.loop-number.search.seen.items c.pop.new.self.items c.loop-number.search.left.items c.in-Some.number c.in-Some-members.members.now
    c.in-Some.ensures.items (sym c.in-Some-members.ensures.members) c.in-Some-members.ensures.types (sym c.has_const_member.ensures ∙ c.if-has_const_member.true) c.loop-number.invariant later begins)

pub loop-number-preserved : goal.loop-number-preserved
loop-number-preserved c =
    let table : Table = c.args.types.now in
    let start : CType = type_of table c.args.id in
    subst (Searching table start) (sym c.in_ok-note_members.ensures.noted)
    (members-on table start c.loop-number.search.seen.items c.pop.new.self.items c.loop-number.search.left.items c.in-Some.number c.in-Some-members.members.now
    c.in-Some.ensures.items (sym c.in-Some-members.ensures.members) c.in-Some-members.ensures.types c.in_ok-note_members.ensures.known (sym c.has_const_member.ensures ∙ c.if-has_const_member.false) c.loop-number.invariant)

pub loop-number-preserved-in_default-members : goal.loop-number-preserved-in_default-members
loop-number-preserved-in_default-members c =
    unknown-on c.args.types.now (type_of c.args.types.now c.args.id) c.loop-number.search.seen.items c.pop.new.self.items c.loop-number.search.left.items c.in-Some.number
    c.in-Some.ensures.items (sym c.members.ensures.members ∙ ap option_copied (none-from c.members.result c.in_default-members.not-Some)) c.loop-number.invariant

pub loop-number-smaller : goal.loop-number-smaller
loop-number-smaller c =
    fewer-on c.args.types.now (type_of c.args.types.now c.args.id) c.loop-number.search.seen.items c.pop.new.self.items c.loop-number.search.left.items c.in-Some.number c.in-Some-members.members.now
    c.in-Some.ensures.items (sym c.in-Some-members.ensures.members) c.in-Some-members.ensures.types c.in_ok-note_members.ensures.known c.loop-number.invariant
    (stage_of c.note_members.new.self) c.in_ok-note_members.ensures.noted

pub returns : goal.returns
returns c =
    let table : Table = c.args.types.now in
    let start : CType = type_of table c.args.id in
    let zero : length c.loop-number.search.left.items ≡ 0 = search rules in
    let none : c.loop-number.search.left.items ≡ [] = nil_from_length c.loop-number.search.left.items zero in
    λ later begins. sym (none-left table start c.loop-number.search.seen.items (sym c.has_const_elements.ensures ∙ c.if-has_const_elements.false)
    (subst (λ left. Searching table start (record { seen = c.loop-number.search.seen.items; left = left })) none c.loop-number.invariant) later begins)
