-- The expressions are typed, and the rule is broken.
use Rattle.std.specs.Prelude.{refl}
use Rattle.dm_syn.specs.Views as syntax
use Rattle.dm_typing.specs.Views.{source_of, setting_of}
use Rattle.dm_estanding.proofs.ProceedingLemmas.{relays}
use Rattle.dm_edeclaration.specs.Steps.{bare_over, LocalFits}
use Rattle.dm_edeclaration.proofs.ItemLemmas.{alone-whole, alone-fails, alone-stops}
use Rattle.dm_edeclaration.proofs.initialised.misplaced.Goals as goal

pub returns-in_err-expressions_alone : goal.returns-in_err-expressions_alone
returns-in_err-expressions_alone c =
    let now = c.args.standing.now in
    let one = syntax.initialiser c.args.initialiser.now in
    relays LocalFits bare_over (source_of c.args.typer.now) now _ (alone-whole (setting_of c.args.typer.now) (source_of c.args.typer.now) c.args.span one now now)
    c.from_residual.result c.in_err-expressions_alone.field-0.0 c.from_residual.ensures.1
    (alone-fails (setting_of c.args.typer.now) (source_of c.args.typer.now) c.args.span one now _ c.in_err-expressions_alone.field-0.0 c.in_err-expressions_alone.ensures)

pub returns : goal.returns
returns c =
    alone-stops (setting_of c.args.typer.now) (source_of c.args.typer.now) c.args.span (syntax.initialiser c.args.initialiser.now) c.args.standing.now _ c.in_ok-expressions_alone.field-0 c.broken.result
    c.in_ok-expressions_alone.ensures refl refl c.broken.ensures
