use Rattle.std.proofs.Common.{◌-◌, refl, sym, ap, ◌∙◌}
use Rattle.dm_syn.specs.Views as view
use Rattle.dm_pexpr.specs.Parts.{source_of}
use Rattle.dm_pexpr.proofs.PartLemmas.{part-of}
use Rattle.dm_pexpr.proofs.ReadExprs.{nothing-of, none-left}
use Rattle.dm_pstmt.specs.Kinds.{an_item, items_from}
use Rattle.dm_pstmt.specs.Parsing.{within, item_of}
use Rattle.dm_pstmt.specs.Steps.{with_item}
use Rattle.dm_pstmt.proofs.LoopSteps.{turns-left, items-further}
use Rattle.dm_pstmt.proofs.Rows.{with-none, with-empty, as-read}
use Rattle.dm_pstmt.proofs.RowKinds.{item_row}
use Rattle.dm_pstmt.proofs.Turns.{items-end, no-items-left, items-none}
use Rattle.dm_pstmt.proofs.declaration.more_items.Goals as goal

pub loop-turns-init : goal.loop-turns-init
loop-turns-init c before start read p = (as-read (items_from (source_of c.args.reader.now) c.args.is_type start) (source_of c.args.reader.now) before c.args.scope.now c.args.items read _ p refl, refl)

pub returns-in_default : goal.returns-in_default
returns-in_default c before start read p =
    let so = c.loop-turns.invariant before start read p in
    as-read (items_from (source_of c.args.reader.now) c.args.is_type start) (source_of c.args.reader.now) before c.loop-turns.scope c.loop-turns.items _ _ so.0
    (so.1 ∙ with-empty (an_item (source_of c.args.reader.now) c.args.is_type) (item_row (source_of c.args.reader.now) c.args.is_type) c.loop-turns.items.tree _
    (items-end (source_of c.args.reader.now) (within (source_of c.args.reader.now) c.args.depth) c.args.is_type c.loop-turns.turns c.loop-turns.scope c.loop-turns.items.after c.in_default.ensures))

pub returns-in_default-2 : goal.returns-in_default-2
returns-in_default-2 c before start read p =
    let so = c.loop-turns.invariant before start read p in
    so.1 ∙ with-none with_item (view.items c.loop-turns.items.tree) _
    (items-none (source_of c.args.reader.now) (within (source_of c.args.reader.now) c.args.depth) c.args.is_type c.loop-turns.turns (c.loop-turns.turns - 1) c.loop-turns.scope c.loop-turns.items.after (turns-left c.loop-turns.turns c.loop-turns-test.true) c.in-Some.ensures.0
    (ap (item_of (source_of c.args.reader.now) (within (source_of c.args.reader.now) c.args.depth) c.args.is_type c.loop-turns.scope) (sym c.in-Some.ensures.1)
    ∙ nothing-of (an_item (source_of c.args.reader.now) c.args.is_type) (source_of c.args.reader.now) c.loop-turns.scope c.item.new.scope c.in_ok-item.field-0 (item_of (source_of c.args.reader.now) (within (source_of c.args.reader.now) c.args.depth) c.args.is_type c.loop-turns.scope c.in-Some.next) c.in_default-2.is c.in_ok-item.ensures))

pub loop-turns-preserved : goal.loop-turns-preserved
loop-turns-preserved c before start read p =
    let so = c.loop-turns.invariant before start read p in
    items-further (source_of c.args.reader.now) (within (source_of c.args.reader.now) c.args.depth) c.args.is_type start c.loop-turns.turns c.in-Some.next before c.loop-turns.scope c.item.new.scope c.loop-turns.items c.in_ok-items.items c.in-Some-2.item _ _
    c.loop-turns-test.true c.in-Some.ensures.0 c.in-Some.ensures.1 so.0 so.1
    (part-of (an_item (source_of c.args.reader.now) c.args.is_type) (source_of c.args.reader.now) c.loop-turns.scope c.item.new.scope c.in_ok-item.field-0 c.in-Some-2.item (item_of (source_of c.args.reader.now) (within (source_of c.args.reader.now) c.args.depth) c.args.is_type c.loop-turns.scope c.in-Some.next) c.in-Some-2.is c.in_ok-item.ensures)
    c.in_ok-items.ensures

pub returns : goal.returns
returns c before start read p =
    let so = c.loop-turns.invariant before start read p in
    as-read (items_from (source_of c.args.reader.now) c.args.is_type start) (source_of c.args.reader.now) before c.loop-turns.scope c.loop-turns.items _ _ so.0
    (so.1 ∙ with-empty (an_item (source_of c.args.reader.now) c.args.is_type) (item_row (source_of c.args.reader.now) c.args.is_type) c.loop-turns.items.tree _
    (no-items-left (source_of c.args.reader.now) (within (source_of c.args.reader.now) c.args.depth) c.args.is_type c.loop-turns.turns c.loop-turns.scope c.loop-turns.items.after (none-left c.loop-turns.turns c.loop-turns-test.false)))
