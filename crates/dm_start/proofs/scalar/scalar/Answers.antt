-- So has an array of characters whose type need not have a number.
use Rattle.std.proofs.Common.{◌≡◌, refl, ap, sym, subst, ◌∙◌}
use Rattle.dm_type.specs.CTypes.{CType, bare}
use Rattle.dm_type.specs.Tables.{Table}
use Rattle.dm_tree.specs.Views.{view}
use Rattle.dm_first_value.specs.Texts.{characters_in}
use Rattle.dm_layout.specs.declared.kinds.ObjectType.{ObjectType}
use Rattle.dm_layout.specs.Kinds.{type_of_object}
use Rattle.dm_meaning.specs.Statements.{array_of}
use Rattle.dm_meaning.specs.Units.{characters_of}
use Rattle.dm_value.specs.Views.{view_of_value}
use Rattle.dm_start.specs.Scenes.{scalar_in, types_in}
use Rattle.dm_start.proofs.scalar.scalar.Goals as goal

pub returns-in_ok-value-in-Text : goal.returns-in_ok-value-in-Text
returns-in_ok-value-in-Text c =
    let scene = c.args.scene.now in
    let table = types_in scene in
    let tree = c.args.tree.now in
    let kind = c.bare_kind-kind.result in
    let bare_is = subst (λ (types : Table). type_of_object types kind ≡ bare (type_of_object types c.args.kind.now)) c.layout.ensures c.bare_kind-kind.ensures.bare in
    subst (λ (types : Table). view_of_value c.in_ok-value-in-Text.value ≡ array_of (type_of_object types kind) (characters_in c.literal.result)) c.layout-in-Text.ensures c.in_ok-value-in-Text.ensures
    ∙ (ap (array_of (type_of_object table kind)) (c.literal.ensures table)
    ∙ (subst (λ (one : ObjectType). array_of (type_of_object table one) (characters_of (view table tree)) ≡ scalar_in scene (type_of_object table one) tree) (sym c.in-Text.is) refl
    ∙ ap (λ (type : CType). scalar_in scene type tree) bare_is))
