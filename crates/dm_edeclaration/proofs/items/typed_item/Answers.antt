-- The declarator's type is known, and its lengths and enumerator values taken out.
use Rattle.std.specs.Prelude.{refl}
use Rattle.std.proofs.Common.{◌∙◌}
use Rattle.dm_typing.specs.Views.{source_of, setting_of}
use Rattle.dm_estanding.proofs.ProceedingLemmas.{relays}
use Rattle.dm_edeclaration.specs.Steps.{typed_over, TypedFits}
use Rattle.dm_edeclaration.proofs.DeclarationLemmas.{item-whole, item-stops, item-made}
use Rattle.dm_edeclaration.proofs.items.typed_item.Goals as goal

pub returns-in_err-local : goal.returns-in_err-local
returns-in_err-local c =
    let setting = setting_of c.args.typer.now in
    let source = source_of c.args.typer.now in
    let now = c.args.standing.now in
    let node = c.args.item.now in
    let is = c.replace_constants-constants.ensures in
    relays TypedFits typed_over source now c.item_of.new.standing (item-whole setting source c.args.said.now node now)
    c.from_residual-in_err-local.result c.in_err-local.field-0.0 c.from_residual-in_err-local.ensures.1
    (item-stops setting source c.args.said.now node now c.declared_type.new.known _ c.in_ok-kind.kind c.replace_constants-constants.result
    c.in_ok-kind.ensures is.rest (is.constants ∙ c.new.ensures) is.before refl refl c.item_of.new.standing c.in_err-local.field-0.0 c.in_err-local.ensures)

pub returns : goal.returns
returns c =
    let now = c.args.standing.now in
    let is = c.replace_constants-constants.ensures in
    item-made (setting_of c.args.typer.now) (source_of c.args.typer.now) c.args.said.now c.args.item.now now c.declared_type.new.known _ c.in_ok-kind.kind c.replace_constants-constants.result
    c.in_ok-kind.ensures is.rest (is.constants ∙ c.new.ensures) is.before refl refl c.item_of.new.standing c.in_ok-local.local c.in_ok-local.ensures
