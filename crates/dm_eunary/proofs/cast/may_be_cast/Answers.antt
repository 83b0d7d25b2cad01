-- By the shape of the type.
use Rattle.std.proofs.Common.{ap, sym, ◌∙◌, subst}
use Rattle.dm_type.specs.CTypes.{pointer}
use Rattle.dm_type.specs.Tables.{as_is, types_of, IsShape}
use Rattle.dm_typing.specs.Rules.{may_be_cast}
use Rattle.dm_typing.specs.Views.{view_over, known_over}
use Rattle.dm_eunary.specs.Unary.{may_be_integer}
use Rattle.dm_typing.proofs.LaterLemmas.{type-later}
use Rattle.dm_eunary.proofs.UnaryLemmas.{cast-integer}
use Rattle.dm_typing.proofs.ValueLemmas.{kind-later}
use Rattle.dm_eunary.proofs.cast.may_be_cast.Goals as goal

pub returns-in-Void : goal.returns-in-Void
returns-in-Void c = λ later begins.
    ap (may_be_cast (known_over later c.args.known.now) (view_over later c.args.operand.now)) (sym (type-later c.args.known.now.types.shapes later c.args.kind begins c.requires.kind ∙ (c.shape.ensures.exact ∙ ap (as_is (types_of c.args.known.now.types.shapes)) c.in-Void.is)))

pub returns-in-Array : goal.returns-in-Array
returns-in-Array c = λ later begins.
    ap (may_be_cast (known_over later c.args.known.now) (view_over later c.args.operand.now)) (sym (type-later c.args.known.now.types.shapes later c.args.kind begins c.requires.kind ∙ (c.shape.ensures.exact ∙ ap (as_is (types_of c.args.known.now.types.shapes)) c.in-Array.is)))

pub returns-in-Struct : goal.returns-in-Struct
returns-in-Struct c = λ later begins.
    ap (may_be_cast (known_over later c.args.known.now) (view_over later c.args.operand.now)) (sym (type-later c.args.known.now.types.shapes later c.args.kind begins c.requires.kind ∙ (c.shape.ensures.exact ∙ ap (as_is (types_of c.args.known.now.types.shapes)) c.in-Struct.is)))

pub returns-in-Function : goal.returns-in-Function
returns-in-Function c = λ later begins.
    ap (may_be_cast (known_over later c.args.known.now) (view_over later c.args.operand.now)) (sym (type-later c.args.known.now.types.shapes later c.args.kind begins c.requires.kind ∙ (c.shape.ensures.exact ∙ ap (as_is (types_of c.args.known.now.types.shapes)) c.in-Function.is)))

pub returns-in-Const : goal.returns-in-Const
returns-in-Const c = λ later begins.
    ap (may_be_cast (known_over later c.args.known.now) (view_over later c.args.operand.now)) (sym (type-later c.args.known.now.types.shapes later c.args.kind begins c.requires.kind ∙ (c.shape.ensures.exact ∙ ap (as_is (types_of c.args.known.now.types.shapes)) c.in-Const.is)))

pub returns-in-Integer : goal.returns-in-Integer
returns-in-Integer c = λ later begins.
    let known = known_over later c.args.known.now in
    let tree = view_over later c.args.operand.now in
    c.may_be_integer.ensures
    ∙ (ap (λ t. may_be_integer t c.in-Integer.to) (sym (kind-later c.args.known.now.types.shapes later c.args.operand.now begins c.requires.operand))
    ∙ (cast-integer known tree c.in-Integer.to ∙ ap (may_be_cast known tree) (sym (type-later c.args.known.now.types.shapes later c.args.kind begins c.requires.kind ∙ (c.shape.ensures.exact ∙ ap (as_is (types_of c.args.known.now.types.shapes)) c.in-Integer.is)))))

pub returns-in-Pointer : goal.returns-in-Pointer
returns-in-Pointer c = λ later begins.
    let known = known_over later c.args.known.now in
    let tree = view_over later c.args.operand.now in
    c.may_be_pointer.ensures later begins
    ∙ ap (may_be_cast known tree)
    (ap pointer (type-later c.args.known.now.types.shapes later c.in-Pointer.to begins (subst (IsShape c.args.known.now.types) c.in-Pointer.is c.shape.ensures.over))
    ∙ sym (type-later c.args.known.now.types.shapes later c.args.kind begins c.requires.kind ∙ (c.shape.ensures.exact ∙ ap (as_is (types_of c.args.known.now.types.shapes)) c.in-Pointer.is)))
