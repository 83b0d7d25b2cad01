-- By the form of the tree, and by its type where it is a conversion.
use Rattle.std.specs.Prelude.{length, []}
use Rattle.std.proofs.Common.{ap, sym, ◌∙◌}
use Rattle.std.proofs.lemmas.Bool.{and_parts}
use Rattle.dm_tree.specs.declared.tree.Core.{out-Core}
use Rattle.dm_tree.specs.TypeNumbers.{are_known_in_form}
use Rattle.dm_typing.specs.Views.{known_over, view_over, is_plain_void_pointer}
use Rattle.dm_typing.proofs.FormLemmas.{known-core}
use Rattle.dm_typing.proofs.LaterLemmas.{type-later}
use Rattle.dm_typing.proofs.ValueLemmas.{kind-known, form-known, null-plainly, null-through, null-unlike}
use Rattle.dm_typing.proofs.values.is_null.Goals as goal

pub is_zero-requires : goal.is_zero-requires
is_zero-requires c = c.in-Some.ensures.numbered (length c.args.known.now.types.shapes) (form-known (length c.args.known.now.types.shapes) c.args.core.now c.requires)

pub returns-then-is_plain_void_pointer : goal.returns-then-is_plain_void_pointer
returns-then-is_plain_void_pointer c = λ later begins.
    let found = c.in-Some.ensures.operand (record { shapes = later; structs = [] }) in
    c.is_zero.ensures later begins
    ∙ sym (null-through (known_over later c.args.known.now) later c.args.core.now (view_over later c.in-Some.operand.now) found.0 found.1
    (ap is_plain_void_pointer (type-later c.args.known.now.types.shapes later (out-Core c.args.core.now).kind begins (kind-known (length c.args.known.now.types.shapes) c.args.core.now c.requires))
    ∙ (sym c.is_plain_void_pointer.ensures ∙ c.if-is_plain_void_pointer.true)))

pub returns-else-is_plain_void_pointer : goal.returns-else-is_plain_void_pointer
returns-else-is_plain_void_pointer c = λ later begins.
    let found = c.in-Some.ensures.operand (record { shapes = later; structs = [] }) in
    c.is_zero-in-Some.ensures later begins
    ∙ sym (null-unlike (known_over later c.args.known.now) later c.args.core.now (view_over later c.in-Some.operand.now) found.0 found.1
    (ap is_plain_void_pointer (type-later c.args.known.now.types.shapes later (out-Core c.args.core.now).kind begins (kind-known (length c.args.known.now.types.shapes) c.args.core.now c.requires))
    ∙ (sym c.is_plain_void_pointer.ensures ∙ c.if-is_plain_void_pointer.false)))

pub returns-in-None : goal.returns-in-None
returns-in-None c = λ later begins.
    c.is_zero-in-None.ensures later begins
    ∙ sym (null-plainly (known_over later c.args.known.now) later c.args.core.now (c.in-None.ensures.other (record { shapes = later; structs = [] })))
