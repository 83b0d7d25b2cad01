-- One declarator after another, up to the last.
use Rattle.std.specs.Prelude.{◌+◌, ◌<◌, length, drop}
use Rattle.std.proofs.Common.{arith}
use Rattle.dm_typing.specs.Views.{source_of, setting_of}
use Rattle.dm_typing.proofs.LaterLemmas.{begins-length}
use Rattle.dm_eexpr.proofs.LoopLemmas.{cut, past}
use Rattle.dm_estanding.proofs.ProceedingLemmas.{relays}
use Rattle.dm_edeclaration.specs.Steps.{items_over, ItemsFit}
use Rattle.dm_edeclaration.proofs.DeclarationLemmas.{items-whole, items-fail, items-on, items-done}
use Rattle.dm_edeclaration.proofs.StepLemmas.{items-later}
use Rattle.dm_edeclaration.proofs.items.typed_items.Goals as goal

pub returns-in_err-typed : goal.returns-in_err-typed
returns-in_err-typed c =
    let setting = setting_of c.args.typer.now in
    let source = source_of c.args.typer.now in
    let start = c.args.standing.now in
    let items = c.args.items.now in
    let i = c.loop-item.item-index in
    relays ItemsFit items_over source start c.typed_item.new.standing (items-whole setting source c.args.said.now items start)
    c.from_residual.result c.in_err-typed.field-0.0 c.from_residual.ensures.1
    (items-fail setting source c.args.said.now items start c.loop-item.standing c.loop-item.all c.item-item.result (drop i items) (drop (i + 1) items)
    (cut items i c.item-item.result c.loop-item-test.true c.item-item.is) c.loop-item.invariant.0 c.typed_item.new.standing c.in_err-typed.field-0.0 c.in_err-typed.ensures)

pub loop-item-preserved : goal.loop-item-preserved
loop-item-preserved c =
    let setting = setting_of c.args.typer.now in
    let source = source_of c.args.typer.now in
    let items = c.args.items.now in
    let i = c.loop-item.item-index in
    let old = c.loop-item.standing in
    let new = c.typed_item.new.standing in
    let more = c.in_ok-typed.ensures.shapes in
    let inside = c.loop-item.invariant.2 in
    let longer = begins-length old.known.types.shapes new.known.types.shapes more in
    let said-inside : c.args.said.now.kind < length new.known.types.shapes = omega (arith, inside, longer) in (
      items-on setting source c.args.said.now items c.args.standing.now old c.loop-item.all c.item-item.result (drop i items) (drop (i + 1) items)
          (cut items i c.item-item.result c.loop-item-test.true c.item-item.is) c.loop-item.invariant.0 new c.in_ok-typed.typed c.in_ok-more.more c.in_ok-typed.ensures c.in_ok-more.ensures.more,
      c.in_ok-more.ensures.numbered new.known.types (items-later old.known.types new.known.types c.loop-item.all more c.loop-item.invariant.1) c.in_ok-typed.ensures.numbered,
      said-inside,
    )

pub returns : goal.returns
returns c =
    let items = c.args.items.now in
    let i = c.loop-item.item-index in
    items-done (setting_of c.args.typer.now) (source_of c.args.typer.now) c.args.said.now items c.args.standing.now c.loop-item.standing c.loop-item.all (drop i items)
    (past items i c.loop-item-test.false) c.loop-item.invariant.0 c.loop-item.invariant.1
