-- A whole object without a const part.
use Rattle.std.specs.Prelude.{not, ◌&&◌}
use Rattle.std.proofs.Common.{ap, sym, ◌∙◌}
use Rattle.dm_tree.specs.Trees.{kind_of}
use Rattle.dm_typing.specs.Conversions.{has_const}
use Rattle.dm_typing.specs.Views.{view_over, known_over}
use Rattle.dm_eunary.proofs.UnaryLemmas.{modifiable-is}
use Rattle.dm_typing.proofs.ValueLemmas.{kind-later}
use Rattle.dm_eunary.proofs.counting.is_modifiable.Goals as goal

pub returns-then-not-is_whole_object : goal.returns-then-not-is_whole_object
returns-then-not-is_whole_object c = λ later begins.
    let known = known_over later c.args.known.now in
    let tree = view_over later c.args.core.now in
    ap (λ b. b && not (has_const known.types (kind_of tree))) (sym (sym (c.is_whole_object.ensures later begins) ∙ c.if-not-is_whole_object.true))
    ∙ modifiable-is known tree

pub returns : goal.returns
returns c = λ later begins.
    let known = known_over later c.args.known.now in
    let tree = view_over later c.args.core.now in
    ap not (c.in_ok-has.ensures later begins ∙ ap (has_const known.types) (sym (kind-later c.args.known.now.types.shapes later c.args.core.now begins c.requires)))
    ∙ ap (λ b. b && not (has_const known.types (kind_of tree))) (sym (sym (c.is_whole_object.ensures later begins) ∙ c.if-not-is_whole_object.false))
    ∙ modifiable-is known tree
