-- A list of one item without a comma behind it.
use Rattle.std.specs.Prelude.{map}
use Rattle.std.proofs.Common.{ap, sym, ◌∙◌}
use Rattle.dm_syn.specs.Views as syntax
use Rattle.dm_typing.specs.Views.{setting_of}
use Rattle.dm_edecl.specs.Initialising.{is_zero_list}
use Rattle.dm_einitial.proofs.ListLemmas.{list-some, list-none, list-trailing}
use Rattle.dm_einitial.proofs.lists.is_zero_list.Goals as goal

pub returns-then-trailing : goal.returns-then-trailing
returns-then-trailing c =
    let items = syntax.initialisers (map syntax.initialiser c.args.items.now) in
    sym (ap (is_zero_list (setting_of c.args.typer.now) items) c.if-trailing.true ∙ list-trailing (setting_of c.args.typer.now) items)

pub returns-in-Some : goal.returns-in-Some
returns-in-Some c =
    let items = syntax.initialisers (map syntax.initialiser c.args.items.now) in
    c.is_zero_token.ensures
    ∙ sym (ap (is_zero_list (setting_of c.args.typer.now) items) c.if-trailing.false ∙ list-some (setting_of c.args.typer.now) items _ _ c.in-Some.ensures)

pub returns-in-None : goal.returns-in-None
returns-in-None c =
    let items = syntax.initialisers (map syntax.initialiser c.args.items.now) in
    sym (ap (is_zero_list (setting_of c.args.typer.now) items) c.if-trailing.false ∙ list-none (setting_of c.args.typer.now) items c.in-None.ensures)
