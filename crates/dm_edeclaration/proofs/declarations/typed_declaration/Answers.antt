-- The specifiers are typed, and the declarators for them.
use Rattle.std.specs.Prelude.{refl}
use Rattle.std.proofs.Common.{◌∙◌}
use Rattle.dm_typing.specs.Views.{source_of, setting_of}
use Rattle.dm_estanding.proofs.ProceedingLemmas.{relays}
use Rattle.dm_edeclaration.specs.Steps.{items_over, ItemsFit}
use Rattle.dm_edeclaration.proofs.DeclarationLemmas.{declaration-whole, declaration-fails, declaration-breaks, declaration-made, declaration-numbered}
use Rattle.dm_edeclaration.proofs.declarations.typed_declaration.Goals as goal

pub returns-in_err-typed : goal.returns-in_err-typed
returns-in_err-typed c =
    let setting = setting_of c.args.typer.now in
    let source = source_of c.args.typer.now in
    let now = c.args.standing.now in
    let node = c.args.declaration.now in
    let is = c.replace_constants-constants.ensures in
    relays ItemsFit items_over source now c.typed_items.new.standing
    (declaration-whole setting source node now c.is_alone-alone.result c.is_alone-alone.ensures c.items.result.now c.items.ensures)
    c.from_residual-in_err-typed.result c.in_err-typed.field-0.0 c.from_residual-in_err-typed.ensures.1
    (declaration-fails setting source node now c.is_alone-alone.result c.is_alone-alone.ensures c.items.result.now c.items.ensures c.specified.new.known _ c.in_ok-said.said
    c.replace_constants-constants.result c.in_ok-said.ensures is.rest (is.constants ∙ c.new.ensures) is.before refl refl c.typed_items.new.standing c.in_err-typed.field-0.0 c.in_err-typed.ensures)

pub returns-then-not-obeys_inline : goal.returns-then-not-obeys_inline
returns-then-not-obeys_inline c =
    let is = c.replace_constants-constants.ensures in
    declaration-breaks (setting_of c.args.typer.now) (source_of c.args.typer.now) c.args.declaration.now c.args.standing.now c.is_alone-alone.result c.is_alone-alone.ensures
    c.items.result.now c.items.ensures c.specified.new.known _ c.in_ok-said.said c.replace_constants-constants.result c.in_ok-said.ensures is.rest (is.constants ∙ c.new.ensures) is.before refl refl
    c.typed_items.new.standing c.in_ok-typed.typed c.in_ok-typed.ensures c.obeys_inline.result c.obeys_inline.ensures c.broken.result c.if-not-obeys_inline.true c.broken.ensures

pub returns : goal.returns
returns c =
    let setting = setting_of c.args.typer.now in
    let source = source_of c.args.typer.now in
    let now = c.args.standing.now in
    let node = c.args.declaration.now in
    let new = c.typed_items.new.standing in
    let is = c.replace_constants-constants.ensures in
    let constants = c.replace_constants-constants.result in
    declaration-made setting source node now c.is_alone-alone.result c.is_alone-alone.ensures
    c.items.result.now c.items.ensures c.specified.new.known _ c.in_ok-said.said constants c.in_ok-said.ensures is.rest (is.constants ∙ c.new.ensures) is.before refl refl
    new c.in_ok-typed.typed c.in_ok-typed.ensures c.obeys_inline.result c.obeys_inline.ensures c.if-not-obeys_inline.false c.in_ok-all.all c.in_ok-all.ensures.more
    (c.in_ok-all.ensures.numbered new.known.types
    (declaration-numbered setting source node now c.is_alone-alone.result c.is_alone-alone.ensures c.items.result.now c.items.ensures c.specified.new.known _ c.in_ok-said.said
    constants c.in_ok-said.ensures is.rest (is.constants ∙ c.new.ensures) is.before refl refl new c.in_ok-typed.typed c.in_ok-typed.ensures)
    c.in_ok-typed.ensures.numbered)
