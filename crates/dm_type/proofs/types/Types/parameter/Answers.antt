-- The parameter of a number.
use Rattle.std.proofs.Common.{◌≡◌, ◌<◌, ◌≤◌, ◌+◌, ℕ, suc, List, ◌∷◌, map, drop, length, get_or, refl, sym, ap, ◌∙◌, subst, arith}
use Rattle.dm_type.specs.CTypes.{CType}
use Rattle.dm_type.specs.Tables.{Table, type_of, types_of, IsId, IsShape}
use Rattle.dm_type.specs.Writing.{parameters_at}
use Rattle.dm_type.proofs.WritingLemmas.{parameters-of, no-parameters, drop-at, drop-end}
use Rattle.dm_type.proofs.types.Types.parameter.Goals as goal

pub returns-in_default : goal.returns-in_default
returns-in_default c =
    ap (λ t. parameters_at t c.args.next) c.shape.ensures.exact ∙ no-parameters (types_of c.args.self.now.shapes) c.shape.result.now c.args.next c.in_default.not-Function

pub returns-in-Some : goal.returns-in-Some
returns-in-Some c =
    let table : Table = c.args.self.now in
    let whole : CType = type_of table c.args.function in
    let these : List ℕ = c.in-Function.parameters in
    let one : ℕ = c.in-Some.one.now in
    let inside : c.args.next < length these = subst (λ xs. c.args.next < length xs) c.items.ensures c.in-Some.ensures.lookup.3.0 in
    let at : one ≡ get_or these c.args.next one = c.in-Some.ensures.lookup.1 ∙ ap (λ xs. get_or xs c.args.next one) c.items.ensures in
    let after : c.args.next + 1 ≡ suc c.args.next = omega arith in
    let over = subst (IsShape table) c.in-Function.is c.shape.ensures.over in (
      subst (IsId table) (sym at) (over.1 c.args.next one inside),
      parameters-of table c.shape.result.now whole c.shape.ensures.exact c.in-Function.is c.args.next
          ∙ drop-at (type_of table) these c.args.next one inside at
          ∙ ap (λ k. type_of table one ∷ drop k (map (type_of table) these)) (sym after)
          ∙ ap (λ ts. type_of table one ∷ ts) (sym (parameters-of table c.shape.result.now whole c.shape.ensures.exact c.in-Function.is (c.args.next + 1))),
      refl,
    )

pub returns : goal.returns
returns c =
    let table : Table = c.args.self.now in
    let these : List ℕ = c.in-Function.parameters in
    let past : length these ≤ c.args.next = subst (λ xs. length xs ≤ c.args.next) c.items.ensures c.in_default-get.ensures.lookup.3 in
    parameters-of table c.shape.result.now (type_of table c.args.function) c.shape.ensures.exact c.in-Function.is c.args.next ∙ drop-end (type_of table) these c.args.next past
