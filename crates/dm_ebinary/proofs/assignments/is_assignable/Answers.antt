-- By the type of the object without its const.
use Rattle.std.proofs.Common.{ap, sym, ◌∙◌}
use Rattle.dm_type.specs.CTypes.{pointer}
use Rattle.dm_type.specs.Tables.{as_is, types_of, type_of}
use Rattle.dm_typing.specs.Views.{view_over, known_over}
use Rattle.dm_ebinary.proofs.AssignLemmas.{assigned-by, assigned-integer, assigned-struct, never-assignable}
use Rattle.dm_ebinary.proofs.assignments.is_assignable.Goals as goal

pub returns-in-Integer : goal.returns-in-Integer
returns-in-Integer c = λ later begins.
    assigned-integer c.args.known.now later c.args.value.now begins c.requires.value c.args.kind c.bare-kind.result c.requires.kind c.bare-kind.ensures c.in-Integer.integer c.fits_kind.result
    (c.shape.ensures.exact ∙ ap (as_is (types_of c.args.known.now.types.shapes)) c.in-Integer.is) c.fits_kind.ensures

pub returns-in-Pointer : goal.returns-in-Pointer
returns-in-Pointer c = λ later begins.
    let types = c.args.known.now.types in
    c.is_pointer_assignable.ensures later begins
    ∙ sym (assigned-by c.args.known.now later c.args.value.now begins c.requires.value c.args.kind c.bare-kind.result c.requires.kind c.bare-kind.ensures (pointer (type_of types c.in-Pointer.to))
    (c.shape.ensures.exact ∙ ap (as_is (types_of types.shapes)) c.in-Pointer.is))

pub returns-in-Struct : goal.returns-in-Struct
returns-in-Struct c = λ later begins.
    assigned-struct c.args.known.now later c.args.value.now begins c.requires.value c.args.kind c.bare-kind.result c.requires.kind c.bare-kind.ensures c.in-Struct.field-0 c.is_same.result
    (c.shape.ensures.exact ∙ ap (as_is (types_of c.args.known.now.types.shapes)) c.in-Struct.is) c.is_same.ensures

pub returns-in_default : goal.returns-in_default
returns-in_default c = λ later begins.
    let types = c.args.known.now.types in
    let tree = view_over later c.args.value.now in
    sym (assigned-by c.args.known.now later c.args.value.now begins c.requires.value c.args.kind c.bare-kind.result c.requires.kind c.bare-kind.ensures
    (as_is (types_of types.shapes) c.shape.result.now) c.shape.ensures.exact
    ∙ never-assignable (known_over later c.args.known.now) tree (types_of types.shapes) c.shape.result.now c.in_default.not-Integer c.in_default.not-Pointer c.in_default.not-Struct)
