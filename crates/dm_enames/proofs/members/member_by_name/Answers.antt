-- The whole decides what its member is.
use Rattle.std.specs.Prelude.{length, [], Some, None, option_map}
use Rattle.std.proofs.Common.{ap, sym, ◌∙◌}
use Rattle.dm_type.specs.CTypes.{bare}
use Rattle.dm_type.specs.Tables.{type_of}
use Rattle.dm_tree.specs.declared.tree.Core.{out-Core}
use Rattle.dm_enames.specs.Meanings.{member_over}
use Rattle.dm_typing.specs.Rules.{member_of_struct}
use Rattle.dm_typing.specs.Views.{view_over, known_over}
use Rattle.dm_typing.proofs.LaterLemmas.{begins-on, type-later}
use Rattle.dm_enames.proofs.MemberStepLemmas.{by-name}
use Rattle.dm_typing.proofs.ValueLemmas.{kind-known, kind-later}
use Rattle.dm_enames.proofs.members.member_by_name.Goals as goal

pub returns-in_ok-made-in-Some-clause-found : goal.returns-in_ok-made-in-Some-clause-found
returns-in_ok-made-in-Some-clause-found c = λ later begins.
    let old = c.args.known.now in
    let shapes = old.types.shapes in
    let core = c.args.whole.now in
    let kind = (out-Core core).kind in
    let at = begins-on shapes c.member_in.new.known.types.shapes later c.member_in.ensures.grows.shapes begins in
    let known = known_over later old in
    let name = c.args.name.now in
    c.in_ok-made-in-Some.ensures.found later begins
    ∙ sym (by-name known name (view_over later core) (type_of old.types kind) c.is_lvalue-whole_is_lvalue.result c.is_const-whole_is_const.result (Some (member_over later c.in-Some.one))
    (kind-later shapes later core at c.requires) (sym (c.is_lvalue-whole_is_lvalue.ensures (record { shapes = later; structs = [] }))) (sym c.is_const-whole_is_const.ensures)
    (ap (λ type. member_of_struct known name (bare type)) (sym (type-later shapes later kind at (kind-known (length shapes) core c.requires)))
    ∙ (sym (c.member_of_struct-found.ensures.found later at) ∙ ap (option_map (member_over later)) c.in-Some.is)))

pub returns-in-None-clause-found : goal.returns-in-None-clause-found
returns-in-None-clause-found c = λ later begins.
    let old = c.args.known.now in
    let shapes = old.types.shapes in
    let core = c.args.whole.now in
    let kind = (out-Core core).kind in
    let known = known_over later old in
    let name = c.args.name.now in
    sym (by-name known name (view_over later core) (type_of old.types kind) c.is_lvalue-whole_is_lvalue.result c.is_const-whole_is_const.result None
    (kind-later shapes later core begins c.requires) (sym (c.is_lvalue-whole_is_lvalue.ensures (record { shapes = later; structs = [] }))) (sym c.is_const-whole_is_const.ensures)
    (ap (λ type. member_of_struct known name (bare type)) (sym (type-later shapes later kind begins (kind-known (length shapes) core c.requires)))
    ∙ (sym (c.member_of_struct-found.ensures.found later begins) ∙ ap (option_map (member_over later)) c.in-None.is)))
