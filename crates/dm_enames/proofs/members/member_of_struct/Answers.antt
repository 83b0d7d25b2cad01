-- The member of the name, with its type written out.
use Rattle.std.specs.Prelude.{◌≡◌, ℕ, Option, Some, None, option_map, option_and_then}
use Rattle.std.proofs.Common.{ap, sym, ◌∙◌, Bor}
use Rattle.dm_type.specs.CTypes.{bare}
use Rattle.dm_type.specs.declared.shape.Member.{Member}
use Rattle.dm_type.specs.Naming.{member_named}
use Rattle.dm_type.specs.Tables.{Table, type_of}
use Rattle.dm_typing.specs.Conversions.{members_in}
use Rattle.dm_typing.specs.Known.{Known}
use Rattle.dm_typing.specs.Rules.{found_in, member_of_struct}
use Rattle.dm_typing.specs.Views.{known_over, type_over, table_over}
use Rattle.dm_enames.proofs.MemberStepLemmas.{member-of, members-later, found-in-some, code-finds, typed_in}
use Rattle.dm_enames.proofs.members.member_of_struct.Goals as goal

pub returns-in-Some-clause-found : goal.returns-in-Some-clause-found
returns-in-Some-clause-found c = λ later begins.
    let types = c.args.known.now.types in
    let known = known_over later c.args.known.now in
    let table = table_over later types in
    let name = c.args.name.now in
    ap (option_map (λ (one : ℕ × Bor Member). (one.0, type_of table one.1.now.kind))) (sym c.in-Some.is)
    ∙ (code-finds table c.member_in_struct.result _ c.member_in_struct.ensures.found
    ∙ sym (member-of known name (bare (type_over later c.args.id))
    ∙ (ap (option_and_then (found_in table name 0)) (members-later types later c.args.id begins c.requires)
    ∙ found-in-some table name (members_in types (bare (type_of types c.args.id))))))

pub returns-in-None-clause-found : goal.returns-in-None-clause-found
returns-in-None-clause-found c = λ later begins.
    let types = c.args.known.now.types in
    let known = known_over later c.args.known.now in
    let table = table_over later types in
    let name = c.args.name.now in
    ap (option_map (λ (one : ℕ × Bor Member). (one.0, type_of table one.1.now.kind))) (sym c.in-None.is)
    ∙ (code-finds table c.member_in_struct.result _ c.member_in_struct.ensures.found
    ∙ sym (member-of known name (bare (type_over later c.args.id))
    ∙ (ap (option_and_then (found_in table name 0)) (members-later types later c.args.id begins c.requires)
    ∙ found-in-some table name (members_in types (bare (type_of types c.args.id))))))
