-- By the symbol.
use Rattle.std.proofs.Common.{ap, sym, ◌∙◌}
use Rattle.dm_syn.specs.Sources.{symbol_at}
use Rattle.dm_tree.specs.declared.tree.Core.{Core}
use Rattle.dm_typing.specs.Typing.{typed_prefix}
use Rattle.dm_typing.specs.Views.{view_over, known_over, source_of, setting_of}
use Rattle.dm_eunary.proofs.UnaryLemmas.{other-symbol}
use Rattle.dm_typing.proofs.GivesLemmas.{gives-so}
use Rattle.dm_eunary.proofs.unary.typed_prefix.Goals as goal

pub returns-in-Increment-clause-gives : goal.returns-in-Increment-clause-gives
returns-in-Increment-clause-gives c = λ later begins.
    let setting = setting_of c.args.typer.now in
    let known = known_over later c.args.known.now in
    let tree = view_over later c.args.operand in
    gives-so {A = Core} (view_over later) (source_of c.args.typer.now) known c.typed_count.result
    _ (typed_prefix setting known c.args.at c.args.operator tree (symbol_at (source_of c.args.typer.now) c.args.operator))
    (ap (typed_prefix setting known c.args.at c.args.operator tree) (sym c.in-Increment.is ∙ c.symbol.ensures))
    (c.typed_count.ensures.gives later begins)

pub returns-in-Ampersand-clause-gives : goal.returns-in-Ampersand-clause-gives
returns-in-Ampersand-clause-gives c = λ later begins.
    let setting = setting_of c.args.typer.now in
    let known = known_over later c.args.known.now in
    let tree = view_over later c.args.operand in
    gives-so {A = Core} (view_over later) (source_of c.args.typer.now) (known_over later c.typed_address.new.known) c.typed_address.result
    _ (typed_prefix setting known c.args.at c.args.operator tree (symbol_at (source_of c.args.typer.now) c.args.operator))
    (ap (typed_prefix setting known c.args.at c.args.operator tree) (sym c.in-Ampersand.is ∙ c.symbol.ensures))
    (c.typed_address.ensures.gives later begins)

pub returns-in-Star-clause-gives : goal.returns-in-Star-clause-gives
returns-in-Star-clause-gives c = λ later begins.
    let setting = setting_of c.args.typer.now in
    let known = known_over later c.args.known.now in
    let tree = view_over later c.args.operand in
    gives-so {A = Core} (view_over later) (source_of c.args.typer.now) (known_over later c.typed_value_followed.new.known) c.typed_value_followed.result
    _ (typed_prefix setting known c.args.at c.args.operator tree (symbol_at (source_of c.args.typer.now) c.args.operator))
    (ap (typed_prefix setting known c.args.at c.args.operator tree) (sym c.in-Star.is ∙ c.symbol.ensures))
    (c.typed_value_followed.ensures.gives later begins)

pub returns-in_default-clause-gives : goal.returns-in_default-clause-gives
returns-in_default-clause-gives c = λ later begins.
    let setting = setting_of c.args.typer.now in
    let known = known_over later c.args.known.now in
    let tree = view_over later c.args.operand in
    gives-so {A = Core} (view_over later) (source_of c.args.typer.now) (known_over later c.typed_value_signed.new.known) c.typed_value_signed.result
    _ (typed_prefix setting known c.args.at c.args.operator tree (symbol_at (source_of c.args.typer.now) c.args.operator))
    (sym (other-symbol setting known c.args.at c.args.operator tree c.symbol.result c.in_default.not-Increment c.in_default.not-Ampersand c.in_default.not-Star)
    ∙ ap (typed_prefix setting known c.args.at c.args.operator tree) c.symbol.ensures)
    (c.typed_value_signed.ensures.gives later begins)
