-- What is called is a function's name, and its arguments may be passed.
use Rattle.std.specs.Prelude.{length, [], ◌&&◌, map, option_map, IfSome}
use Rattle.std.proofs.Common.{ap, sym, subst, ◌∙◌}
use Rattle.std.proofs.lemmas.Bool.{and_from}
use Rattle.dm_syn.specs.Views.{expr}
use Rattle.dm_type.specs.Tables.{IsId}
use Rattle.dm_tree.specs.declared.tree.Core.{Core}
use Rattle.dm_tree.specs.Trees.{label_of, kind_of}
use Rattle.dm_tree.specs.TypeNumbers.{are_known, all_pass}
use Rattle.dm_typing.specs.Fitting.{AreNumbered}
use Rattle.dm_typing.specs.Known.{given}
use Rattle.dm_enames.specs.Meanings.{call_over}
use Rattle.dm_typing.specs.Rules.{called}
use Rattle.dm_typing.specs.Typing.{is_name, is_function_label}
use Rattle.dm_typing.specs.Views.{view_over, known_over, source_of}
use Rattle.dm_typing.proofs.GivesLemmas.{obeyed, disobeyed, found-it, found-none, refused}
use Rattle.dm_typing.proofs.LaterLemmas.{trees-known}
use Rattle.dm_typing.proofs.ValueLemmas.{kind-view, node-known}
use Rattle.dm_enames.proofs.calls.typed_call.Goals as goal

pub returns-then-not-names_function-clause-gives : goal.returns-then-not-names_function-clause-gives
returns-then-not-names_function-clause-gives c = λ later begins.
    let tree = view_over later c.args.tree in
    refused {A = Core} (view_over later) (source_of c.args.typer.now) (known_over later c.args.known.now) _ 10 c.args.at.inner.first c.broken.result
    (disobeyed (is_name (expr c.args.callee.now) && is_function_label (label_of tree)) 10 c.args.at.inner.first _
    (sym (c.names_function.ensures (record { shapes = later; structs = [] })) ∙ c.if-not-names_function.true))
    c.broken.ensures

pub returns-in-None-clause-gives : goal.returns-in-None-clause-gives
returns-in-None-clause-gives c = λ later begins.
    let known = known_over later c.args.known.now in
    let tree = view_over later c.args.tree in
    let values = map (view_over later) c.args.values in
    refused {A = Core} (view_over later) (source_of c.args.typer.now) known _ 10 c.args.at.inner.first c.broken-in-None.result
    (obeyed (is_name (expr c.args.callee.now) && is_function_label (label_of tree)) 10 c.args.at.inner.first _
    (sym (c.names_function.ensures (record { shapes = later; structs = [] })) ∙ c.if-not-names_function.false)
    ∙ found-none (called known (kind_of tree) values) 10 c.args.at.inner.first _
    (ap (λ type. called known type values) (kind-view (record { shapes = later; structs = [] }) c.args.tree)
    ∙ (sym (c.in_ok-found.ensures.call later begins) ∙ ap (option_map (call_over later)) c.in-None.is)))
    c.broken-in-None.ensures

pub returns-in_ok-made-in-Some-clause-gives : goal.returns-in_ok-made-in-Some-clause-gives
returns-in_ok-made-in-Some-clause-gives c = λ later begins.
    let known = known_over later c.args.known.now in
    let tree = view_over later c.args.tree in
    let values = map (view_over later) c.args.values in
    obeyed (is_name (expr c.args.callee.now) && is_function_label (label_of tree)) 10 c.args.at.inner.first _
    (sym (c.names_function.ensures (record { shapes = later; structs = [] })) ∙ c.if-not-names_function.false)
    ∙ found-it (called known (kind_of tree) values) (call_over later c.in-Some.call) 10 c.args.at.inner.first _
    (ap (λ type. called known type values) (kind-view (record { shapes = later; structs = [] }) c.args.tree)
    ∙ (sym (c.in_ok-found.ensures.call later begins) ∙ ap (option_map (call_over later)) c.in-Some.is))
    ∙ ap (given known) (sym (c.in_ok-made-in-Some.ensures.view (record { shapes = later; structs = [] })))

pub returns-in_ok-made-in-Some-clause-numbered : goal.returns-in_ok-made-in-Some-clause-numbered
returns-in_ok-made-in-Some-clause-numbered c =
    let types = c.args.known.now.types in
    let n = length types.shapes in
    let parts = subst (λ found. IfSome found (λ one. IsId types one.kind × AreNumbered types one.arguments)) c.in-Some.is c.in_ok-found.ensures.numbered in
    node-known n c.in-Some.call.kind c.in_ok-made-in-Some.made (are_known n c.args.tree && all_pass (map (are_known n) c.in-Some.call.arguments)) (c.in_ok-made-in-Some.ensures.known n) parts.0
    (and_from (are_known n c.args.tree) (all_pass (map (are_known n) c.in-Some.call.arguments)) c.requires.tree (trees-known types c.in-Some.call.arguments parts.1))
