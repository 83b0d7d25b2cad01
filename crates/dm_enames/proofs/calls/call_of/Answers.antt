-- The parts of the type decide.
use Rattle.std.specs.Prelude.{map, option_map, List}
use Rattle.std.proofs.Common.{ap, sym, ◌∙◌}
use Rattle.dm_type.specs.CTypes.{all_of, bare}
use Rattle.dm_tree.specs.Trees.{Tree}
use Rattle.dm_enames.specs.Meanings.{call_over, parts_of}
use Rattle.dm_typing.specs.Views.{view_over, known_over, type_over}
use Rattle.dm_enames.proofs.CallStepLemmas.{called-with, called-not, parts-later, call-pairs}
use Rattle.dm_typing.proofs.LaterLemmas.{type-later}
use Rattle.dm_typing.proofs.ValueLemmas.{bare-later}
use Rattle.dm_enames.proofs.calls.call_of.Goals as goal

pub returns-in_ok-arguments-in-Some-clause-call : goal.returns-in_ok-arguments-in-Some-clause-call
returns-in_ok-arguments-in-Some-clause-call c = λ later begins.
    let types = c.args.known.now.types in
    let known = known_over later c.args.known.now in
    let values = map (view_over later) c.args.values in
    let result = c.in-Some.parts.0 in
    let parameters = c.in-Some.parts.1.now in
    ap (option_map (call_over later)) c.called_with.ensures
    ∙ call-pairs later c.bare.result (type_over later result) c.in_ok-arguments-in-Some.arguments (bare-later types later result c.bare.result begins c.in-Some.ensures.numbered.0 c.bare.ensures)
    ∙ ap (option_map (λ (list : List Tree). (bare (type_over later result), list))) (c.in_ok-arguments-in-Some.ensures.passed later begins)
    ∙ sym (called-with known (type_over later c.args.kind) (type_over later result) (all_of (map (type_over later) parameters)) values
    (parts-later types later c.args.kind result parameters begins c.requires.kind c.in-Some.ensures.numbered.0 c.in-Some.ensures.numbered.1 c.in-Some.ensures.parts))

pub returns-in-None-clause-call : goal.returns-in-None-clause-call
returns-in-None-clause-call c = λ later begins.
    let types = c.args.known.now.types in
    sym (called-not (known_over later c.args.known.now) (type_over later c.args.kind) (map (view_over later) c.args.values)
    (ap parts_of (type-later types.shapes later c.args.kind begins c.requires.kind) ∙ sym c.in-None.ensures.parts))
