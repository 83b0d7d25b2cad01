-- An array has the characters of a string literal.
use Rattle.std.proofs.Common.{◌≡◌, rules, refl, ap, sym, subst, ◌∙◌}
use Rattle.dm_type.specs.CTypes.{CType, array}
use Rattle.dm_type.specs.Tables.{Table, type_of}
use Rattle.dm_tree.specs.Views.{view}
use Rattle.dm_first_value.specs.Texts.{characters_in}
use Rattle.dm_meaning.specs.Statements.{array_of}
use Rattle.dm_meaning.specs.Units.{characters_of}
use Rattle.dm_value.specs.Views.{view_of_value}
use Rattle.dm_start.specs.Scenes.{scalar_in, types_in}
use Rattle.dm_start.proofs.scalar.known_scalar.Goals as goal

pub returns-in_ok-value-in-Array : goal.returns-in_ok-value-in-Array
returns-in_ok-value-in-Array c =
    let scene = c.args.scene.now in
    let table = types_in scene in
    let tree = c.args.tree.now in
    let kind = type_of table c.args.kind in
    let array_is : kind ≡ array (type_of table c.in-Array.field-0) c.in-Array.field-1 = search rules in
    subst (λ (types : Table). view_of_value c.in_ok-value-in-Array.value ≡ array_of (type_of types c.args.kind) (characters_in c.literal.result)) c.layout-in-Array.ensures c.in_ok-value-in-Array.ensures
    ∙ (ap (array_of kind) (c.literal.ensures table)
    ∙ subst (λ (type : CType). array_of type (characters_of (view table tree)) ≡ scalar_in scene type tree) (sym array_is) refl)
