-- The parts of an array are its elements, and those of a struct its members.
use Rattle.std.specs.Prelude.{false, true, IfSome, option_map}
use Rattle.std.proofs.Common.{ap, sym, ◌∙◌, subst}
use Rattle.dm_type.specs.CTypes.{array, const}
use Rattle.dm_type.specs.Tables.{as_is, types_of, IsShape}
use Rattle.dm_tree.specs.Scenes.{part_type}
use Rattle.dm_typing.specs.Views.{type_over, table_over}
use Rattle.dm_typing.proofs.LaterLemmas.{type-later}
use Rattle.dm_einitial.specs.Steps.{part_over, PartFits, bare_part}
use Rattle.dm_einitial.proofs.PartLemmas.{element-is, struct-part, const-part-is, no-part, element-fits, part-fits}
use Rattle.dm_einitial.proofs.parts.bare_part.Goals as goal

pub returns-in-Array-clause-part : goal.returns-in-Array-clause-part
returns-in-Array-clause-part c = λ later begins.
    let table = c.args.types.now in
    let over = subst (IsShape table) c.in-Array.is c.shape.ensures.over in
    ap (option_map (part_over later)) c.element.ensures
    ∙ element-is table later c.in-Array.inner c.args.n c.in-Array.many (type_over later c.args.kind)
    (type-later table.shapes later c.args.kind begins c.requires ∙ (c.shape.ensures.exact ∙ ap (as_is (types_of table.shapes)) c.in-Array.is)
    ∙ ap (λ t. array t c.in-Array.many) (sym (type-later table.shapes later c.in-Array.inner begins over.0)))

pub returns-in-Array-clause-numbered : goal.returns-in-Array-clause-numbered
returns-in-Array-clause-numbered c =
    let table = c.args.types.now in
    subst (λ found. IfSome found (PartFits table)) (sym c.element.ensures) (element-fits table c.in-Array.inner c.args.n c.in-Array.many (subst (IsShape table) c.in-Array.is c.shape.ensures.over).0)

pub returns-in-Struct-clause-part : goal.returns-in-Struct-clause-part
returns-in-Struct-clause-part c = λ later begins.
    let table = c.args.types.now in
    ap (option_map (part_over later)) (c.as_part.ensures ∙ ap (option_map (bare_part false)) c.member_of.ensures.member)
    ∙ struct-part table later c.in-Struct.number c.args.n (type_over later c.args.kind)
    (type-later table.shapes later c.args.kind begins c.requires ∙ (c.shape.ensures.exact ∙ ap (as_is (types_of table.shapes)) c.in-Struct.is))

pub returns-in-Struct-clause-numbered : goal.returns-in-Struct-clause-numbered
returns-in-Struct-clause-numbered c =
    let table = c.args.types.now in
    subst (λ found. IfSome found (PartFits table)) (sym c.as_part.ensures) (part-fits table false c.member_of.result c.member_of.ensures.numbered)

pub returns-in-Const-clause-part : goal.returns-in-Const-clause-part
returns-in-Const-clause-part c = λ later begins.
    let table = c.args.types.now in
    let over = subst (IsShape table) c.in-Const.is c.shape.ensures.over in
    ap (option_map (part_over later)) c.as_part-in-Const.ensures
    ∙ const-part-is table later (type_over later c.in-Const.inner) c.args.n c.member.result (type_over later c.args.kind)
    (type-later table.shapes later c.args.kind begins c.requires ∙ (c.shape.ensures.exact ∙ ap (as_is (types_of table.shapes)) c.in-Const.is)
    ∙ ap const (sym (type-later table.shapes later c.in-Const.inner begins over)))
    (c.member.ensures.member later begins)

pub returns-in-Const-clause-numbered : goal.returns-in-Const-clause-numbered
returns-in-Const-clause-numbered c =
    let table = c.args.types.now in
    subst (λ found. IfSome found (PartFits table)) (sym c.as_part-in-Const.ensures) (part-fits table true c.member.result c.member.ensures.numbered)

pub returns-in_default : goal.returns-in_default
returns-in_default c = record {
  part = λ later begins.
      let table = c.args.types.now in
      sym (ap (λ t. part_type (table_over later table) t c.args.n) (type-later table.shapes later c.args.kind begins c.requires ∙ c.shape.ensures.exact)
      ∙ no-part table later (types_of table.shapes) c.shape.result.now c.args.n c.in_default.not-Array c.in_default.not-Struct c.in_default.not-Const);
  numbered = tt;
}
