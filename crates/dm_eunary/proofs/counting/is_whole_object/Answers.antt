-- An lvalue by its form and its type.
use Rattle.std.specs.Prelude.{[], not, ◌&&◌}
use Rattle.std.proofs.Common.{ap, sym, ◌∙◌}
use Rattle.dm_tree.specs.Scenes.{is_array}
use Rattle.dm_tree.specs.Trees.{kind_of}
use Rattle.dm_typing.specs.Conversions.{is_complete}
use Rattle.dm_typing.specs.Views.{view_over, known_over}
use Rattle.dm_eunary.proofs.UnaryLemmas.{whole-later}
use Rattle.dm_eunary.proofs.counting.is_whole_object.Goals as goal

pub returns-then-not-is_lvalue : goal.returns-then-not-is_lvalue
returns-then-not-is_lvalue c = λ later begins.
    let tree = view_over later c.args.core.now in
    ap (λ b. b && (not (is_array (kind_of tree)) && is_complete (known_over later c.args.known.now) (kind_of tree)))
    (sym (sym (c.is_lvalue.ensures (record { shapes = later; structs = [] })) ∙ c.if-not-is_lvalue.true))

pub returns : goal.returns
returns c = λ later begins.
    let tree = view_over later c.args.core.now in
    c.is_whole.ensures ∙ whole-later c.args.known.now later c.args.core.now begins c.requires
    ∙ ap (λ b. b && (not (is_array (kind_of tree)) && is_complete (known_over later c.args.known.now) (kind_of tree)))
    (sym (sym (c.is_lvalue.ensures (record { shapes = later; structs = [] })) ∙ c.if-not-is_lvalue.false))
