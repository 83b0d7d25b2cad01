-- One initialiser after the other, and zeros behind them.
use Rattle.std.proofs.Common.{◌≡◌, suc, ◌+◌, ◌≤◌, ◌++◌, ◌∷◌, [], List, length, map, drop, length-append, rules, arith, ap, subst, ◌∙◌}
use Rattle.std.proofs.lemmas.Bool.{and_parts}
use denote.Param.Weighed.{most}
use Rattle.dm_type.specs.CTypes.{CType, bare}
use Rattle.dm_type.specs.Tables.{Table}
use Rattle.dm_tree.specs.declared.tree.Initial.{Initial, size-Initial}
use Rattle.dm_layout.specs.Kinds.{type_of_object}
use Rattle.dm_layout.specs.LaidOut.{laid_out}
use Rattle.dm_meaning.specs.Objects.{all_zero, inner_type}
use Rattle.dm_meaning.specs.Values as values
use Rattle.dm_value.specs.Views.{view_of_value}
use Rattle.dm_start.specs.Scenes.{types_in, value_in, InitialsFit}
use Rattle.dm_start.proofs.InitialLemmas.{one-given, value-completed}
use Rattle.dm_start.proofs.initial.+initial.Goals as goal

pub first_parts-loop-item-preserved : goal.first_parts-loop-item-preserved
first_parts-loop-item-preserved t c =
    let scene = c.args.scene.now in
    let table = types_in scene in
    let whole = c.bare_kind-whole.result in
    let n = c.loop-item.number in
    let kind = type_of_object table c.args.kind.now in
    let e : c.loop-item.left.now ≡ c.in-Some.item.now ∷ c.in-Some.rest.now = search rules in
    let next : c.in_ok-number.number ≡ suc n = search rules in
    let count : length (c.loop-item.given.items ++ c.in_ok-first_value.field-0 ∷ []) ≡ length c.loop-item.given.items + 1 = length-append c.loop-item.given.items (c.in_ok-first_value.field-0 ∷ []) in
    let longer : length c.push.new.self.items ≡ length c.loop-item.given.items + 1 = ap length c.in_ok-push.ensures.items ∙ count in
    let shorter : length c.loop-item.left.now ≡ suc (length c.in-Some.rest.now) = ap length e in
    let deep : most size-Initial (c.in-Some.item.now ∷ c.in-Some.rest.now) ≤ most size-Initial c.args.items.now =
    subst (λ (left : List Initial). most size-Initial left ≤ most size-Initial c.args.items.now) e c.loop-item.invariant.0 in
    let whole_is = subst (λ (types : Table). type_of_object types whole ≡ bare (type_of_object types c.args.kind.now)) c.layout.ensures c.bare_kind-whole.ensures.bare in
    let part_is = subst (λ (types : Table). type_of_object types c.inner-part.result ≡ inner_type (laid_out types) (type_of_object types whole) n) c.layout-in-Some.ensures c.inner-part.ensures.inner in
    let seen = c.in_ok-first_value.ensures ∙ ap (λ (type : CType). value_in scene type c.in-Some.item.now) (part_is ∙ ap (λ (type : CType). inner_type (laid_out table) type n) whole_is) in (
      omega (arith, deep),
      (and_parts _ _ (subst (InitialsFit scene) e c.loop-item.invariant.1)).1,
      omega (arith, longer, shorter, c.loop-item.invariant.2),
      one-given scene kind n c.in_ok-number.number c.in-Some.item.now c.loop-item.left.now c.in-Some.rest.now c.loop-item.given.items c.push.new.self.items c.in_ok-first_value.field-0 _
          e next c.in_ok-push.ensures.items seen c.loop-item.invariant.3,
    )

pub first_value-returns-in_ok-value-in-Parts : goal.first_value-returns-in_ok-value-in-Parts
first_value-returns-in_ok-value-in-Parts t c =
    let scene = c.args.scene.now in
    let table = types_in scene in
    let kind = type_of_object table c.args.kind.now in
    let given = c.in_ok-given-in-Parts.given.items in
    value-completed scene kind c.args.initial.now c.in-Parts.items c.items.result.now given (view_of_value c.in_ok-value-in-Parts.value) c.in-Parts.is c.items.ensures
    c.in_ok-given-in-Parts.ensures.parts c.in_ok-given-in-Parts.ensures.count
    (subst (λ (types : Table). view_of_value c.in_ok-value-in-Parts.value ≡ values.parts (values.values (map view_of_value given
    ++ drop (length given) (values.parts_in (all_zero (laid_out types) (type_of_object types c.args.kind.now))))))
    c.layout.ensures c.in_ok-value-in-Parts.ensures)
