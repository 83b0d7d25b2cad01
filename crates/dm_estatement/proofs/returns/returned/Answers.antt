-- A value that may be returned is converted to the type of the result.
use Rattle.std.specs.Prelude.{[], length, option_map}
use Rattle.std.proofs.Common.{sym, ap, ◌∙◌}
use Rattle.dm_tree.specs.Trees as label
use Rattle.dm_tree.specs.TypeNumbers.{are_known, passes_if_there}
use Rattle.dm_typing.specs.Known.{given}
use Rattle.dm_typing.specs.Views.{type_over, view_over, known_over, setting_of}
use Rattle.dm_typing.proofs.GivesLemmas.{obeyed}
use Rattle.dm_edecl.specs.Statements.{statement}
use Rattle.dm_estatement.specs.Parts.{optional_over, may_be_returned}
use Rattle.dm_estatement.proofs.NodeLemmas.{statement-is, one-fits, optional-passes}
use Rattle.dm_estatement.proofs.StepLemmas.{returned-is}
use Rattle.dm_estatement.proofs.returns.returned.Goals as goal

pub returns-clause-gives : goal.returns-clause-gives
returns-clause-gives c = λ later begins.
    let setting = setting_of c.args.typer.now in
    let known = known_over later c.args.known.now in
    let result = type_over later c.args.within.now.result in
    let values = optional_over later c.args.value in
    returned-is setting known result c.args.span (option_map (view_over later) c.args.value)
    ∙ obeyed (may_be_returned known result values) 34 c.args.span.first _ (sym (c.may_return.ensures later begins) ∙ c.if-not-may_return.false)
    ∙ ap (λ parts. given known (statement setting c.args.span label.return parts)) (sym (c.in_ok-given.ensures.value later begins))
    ∙ ap (given known) (sym (c.in_ok-made.ensures.view (record { shapes = later; structs = [] })
    ∙ statement-is setting c.args.known.now.types c.args.within.now later c.args.span label.return (optional_over later c.in_ok-given.given) c.requires.within begins))

pub returns-clause-numbered : goal.returns-clause-numbered
returns-clause-numbered c =
    let types = c.args.known.now.types in
    one-fits types c.args.within.now c.requires.within c.in_ok-made.made (passes_if_there (option_map (are_known (length types.shapes)) c.in_ok-given.given)) (c.in_ok-made.ensures.known (length types.shapes))
    (optional-passes types c.in_ok-given.given c.in_ok-given.ensures.numbered)
