-- The type has a size.
use Rattle.std.specs.Prelude.{length, map, [], ◌&&◌, nat_lt}
use Rattle.std.proofs.Common.{ap, sym, ◌∙◌, arith}
use Rattle.std.proofs.lemmas.Bool.{and_from, lt-ltb}
use Rattle.dm_tree.specs.declared.tree.Core.{Core}
use Rattle.dm_tree.specs.Trees as label
use Rattle.dm_tree.specs.TypeNumbers.{are_known, all_pass}
use Rattle.dm_typing.specs.Conversions.{made, is_complete}
use Rattle.dm_typing.specs.Views.{view_over, known_over, source_of, type_over}
use Rattle.dm_typing.proofs.GivesLemmas.{obeyed, disobeyed, refused, given-so, grown, complete-later}
use Rattle.dm_typing.proofs.LaterLemmas.{begins-on, begins-length, type-later, trees-later, trees-known}
use Rattle.dm_typing.proofs.ValueLemmas.{node-known}
use Rattle.dm_typing.proofs.typer.Typer.typed_sizeof_name.Goals as goal

pub returns-then-not-is_complete-clause-gives : goal.returns-then-not-is_complete-clause-gives
returns-then-not-is_complete-clause-gives c = λ later begins.
    refused {A = Core} (view_over later) (source_of c.args.self.now) (known_over later c.args.known.now) _ 17 c.args.at.inner.first c.broken.result
    (disobeyed (is_complete (known_over later c.args.known.now) (type_over later c.args.named)) 17 c.args.at.inner.first _
    (complete-later later c.args.known.now _ _ (type-later c.args.known.now.types.shapes later c.args.named begins c.requires.named)
    ∙ (sym c.is_complete.ensures ∙ c.if-not-is_complete.true)))
    c.broken.ensures

pub returns-clause-gives : goal.returns-clause-gives
returns-clause-gives c = λ later begins.
    obeyed (is_complete (known_over later c.args.known.now) (type_over later c.args.named)) 17 c.args.at.inner.first _
    (complete-later later c.args.known.now _ _
    (type-later c.args.known.now.types.shapes later c.args.named
    (begins-on c.args.known.now.types.shapes c.intern.new.self.types.shapes later c.intern.ensures.grows.shapes begins) c.requires.named)
    ∙ (sym c.is_complete.ensures ∙ c.if-not-is_complete.false))
    ∙ given-so (known_over later c.args.known.now) (known_over later c.intern.new.self) _ _ (grown later c.args.known.now c.intern.new.self c.intern.ensures.grows)
    (sym (c.sizeof_kind-made.ensures.view (record { shapes = later; structs = [] })
    ∙ ap (λ type. made (source_of c.args.self.now) c.args.at (label.sizeof_kind (type_over later c.args.named)) type (map (view_over later) c.args.constants))
    (c.in_ok-kind.ensures.number.1 later begins)))

pub returns-clause-numbered : goal.returns-clause-numbered
returns-clause-numbered c =
    let n = length c.intern.new.self.types.shapes in
    let le = begins-length c.args.known.now.types.shapes c.intern.new.self.types.shapes c.intern.ensures.grows.shapes in
    let named = c.requires.named in
    node-known n c.in_ok-kind.kind c.sizeof_kind-made.result (nat_lt c.args.named n && all_pass (map (are_known n) c.args.constants)) (c.sizeof_kind-made.ensures.known n) c.in_ok-kind.ensures.number.0
    (and_from (nat_lt c.args.named n) (all_pass (map (are_known n) c.args.constants)) (lt-ltb c.args.named n (omega (arith, le, named)))
    (trees-known c.intern.new.self.types c.args.constants (trees-later c.args.known.now.types c.intern.new.self.types c.args.constants c.intern.ensures.grows.shapes c.requires.constants)))
