-- It is no array, and has no const.
use Rattle.std.specs.Prelude.{Some}
use Rattle.std.proofs.Common.{ap, sym, ◌∙◌}
use Rattle.dm_tree.specs.Scenes.{is_array}
use Rattle.dm_typing.specs.Views.{type_over}
use Rattle.dm_typing.proofs.LaterLemmas.{type-later}
use Rattle.dm_typing.proofs.ValueLemmas.{bare-later}
use Rattle.dm_enames.proofs.MemberStepLemmas.{member-array, member-value}
use Rattle.dm_enames.proofs.members.member_of_value.Goals as goal

pub returns-then-is_array-clause-found : goal.returns-then-is_array-clause-found
returns-then-is_array-clause-found c = λ later begins whole_is_const.
    sym (member-array whole_is_const c.args.n (type_over later c.args.kind)
    (ap is_array (type-later c.args.known.now.types.shapes later c.args.kind begins c.requires) ∙ (sym c.is_array.ensures ∙ c.if-is_array.true)))

pub returns-clause-found : goal.returns-clause-found
returns-clause-found c = λ later begins whole_is_const.
    ap (λ type. Some (c.args.n, type)) (bare-later c.args.known.now.types later c.args.kind c.bare.result begins c.requires c.bare.ensures)
    ∙ sym (member-value whole_is_const c.args.n (type_over later c.args.kind)
    (ap is_array (type-later c.args.known.now.types.shapes later c.args.kind begins c.requires) ∙ (sym c.is_array.ensures ∙ c.if-is_array.false)))
