-- One member more.
use Rattle.std.specs.Prelude.{◌+◌, drop, ◌||◌}
use Rattle.std.proofs.Common.{ap, sym, ◌∙◌}
use Rattle.dm_typing.specs.Conversions.{any_member}
use Rattle.dm_eunary.specs.Parts.{has_const_elements}
use Rattle.dm_eunary.proofs.ConstLemmas.{any-next}
use Rattle.dm_eunary.proofs.parts.has_const_member.Goals as goal

pub loop-member-preserved : goal.loop-member-preserved
loop-member-preserved c =
    let table = c.args.types.now in
    let members = c.args.members.now in
    let rest = any_member has_const_elements table (drop (c.loop-member.member-index + 1) members) in
    c.loop-member.invariant
    ∙ any-next has_const_elements table members c.loop-member.member-index c.member-item.result c.loop-member-test.true c.member-item.is
    ∙ ap (λ b. b || rest) (sym c.has_const_elements.ensures ∙ c.if-has_const_elements.false)

pub returns-then-has_const_elements : goal.returns-then-has_const_elements
returns-then-has_const_elements c =
    let table = c.args.types.now in
    let members = c.args.members.now in
    let rest = any_member has_const_elements table (drop (c.loop-member.member-index + 1) members) in
    sym (c.loop-member.invariant
    ∙ any-next has_const_elements table members c.loop-member.member-index c.member-item.result c.loop-member-test.true c.member-item.is
    ∙ ap (λ b. b || rest) (sym c.has_const_elements.ensures ∙ c.if-has_const_elements.true))
