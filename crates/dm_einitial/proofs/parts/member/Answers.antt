-- A struct has members, and no other type.
use Rattle.std.specs.Prelude.{option_map}
use Rattle.std.proofs.Common.{ap, sym, ◌∙◌}
use Rattle.dm_type.specs.Tables.{as_is, types_of}
use Rattle.dm_tree.specs.Scenes.{member_type}
use Rattle.dm_typing.specs.Views.{type_over, table_over}
use Rattle.dm_typing.proofs.LaterLemmas.{type-later}
use Rattle.dm_einitial.proofs.PartLemmas.{member-is, no-member}
use Rattle.dm_einitial.proofs.parts.member.Goals as goal

pub returns-in-Struct-clause-member : goal.returns-in-Struct-clause-member
returns-in-Struct-clause-member c = λ later begins.
    let table = c.args.types.now in
    ap (option_map (type_over later)) c.member_of.ensures.member
    ∙ member-is table later c.in-Struct.number c.args.n (type_over later c.args.kind)
    (type-later table.shapes later c.args.kind begins c.requires ∙ (c.shape.ensures.exact ∙ ap (as_is (types_of table.shapes)) c.in-Struct.is))

pub returns-in_default : goal.returns-in_default
returns-in_default c = record {
  member = λ later begins.
      let table = c.args.types.now in
      sym (ap (λ t. member_type (table_over later table) t c.args.n) (type-later table.shapes later c.args.kind begins c.requires ∙ c.shape.ensures.exact)
      ∙ no-member table later (types_of table.shapes) c.shape.result.now c.args.n c.in_default.not-Struct);
  numbered = tt;
}
