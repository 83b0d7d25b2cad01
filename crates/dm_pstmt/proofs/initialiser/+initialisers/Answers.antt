use Rattle.std.proofs.Common.{◌+◌, ◌-◌, map, refl, sym, ap, ◌∙◌}
use Rattle.dm_syn.specs.Trees as tree
use Rattle.dm_syn.specs.Views as view
use Rattle.dm_pexpr.specs.Parsing.{lower, all_turns}
use Rattle.dm_pexpr.specs.Parts.{source_of}
use Rattle.dm_pexpr.proofs.PartLemmas.{part-of}
use Rattle.dm_pexpr.proofs.ReadExprs.{nothing-of, none-left}
use Rattle.dm_pstmt.specs.Kinds.{an_initialiser, initialisers_from}
use Rattle.dm_pstmt.specs.Parsing.{initialiser_of, more_initialisers}
use Rattle.dm_pstmt.specs.Steps.{with_row}
use Rattle.dm_pstmt.proofs.LoopSteps.{one-less, turns-left, no-initialiser, braces-wanted, value-wanted, braces-read, initialisers-further}
use Rattle.dm_pstmt.proofs.Rows.{begun-part, with-none, with-empty, as-read}
use Rattle.dm_pstmt.proofs.RowKinds.{initialiser_row}
use Rattle.dm_pstmt.proofs.Turns.{initialisers-end, no-initialisers-left, initialisers-none}
use Rattle.dm_pstmt.proofs.Wholes.{then-none, gives-along, ok-along}
use Rattle.dm_pstmt.proofs.initialiser.+initialisers.Goals as goal

pub braces-returns-in_default : goal.braces-returns-in_default
braces-returns-in_default t c =
    then-none _ _ (ap (initialiser_of (source_of c.args.reader.now) c.args.depth c.args.scope.now) (sym c.requires)
    ∙ nothing-of (an_initialiser (source_of c.args.reader.now)) (source_of c.args.reader.now) c.args.scope.now c.initialiser.new.scope c.in_ok-item.field-0 (initialiser_of (source_of c.args.reader.now) c.args.depth c.args.scope.now c.args.next) c.in_default.is c.in_ok-item.ensures)

pub braces-returns : goal.braces-returns
braces-returns t c =
    let reads = initialiser_of (source_of c.args.reader.now) c.args.depth in
    let given = gives-along (an_initialiser (source_of c.args.reader.now)) (source_of c.args.reader.now) c.args.scope.now c.initialiser.new.scope c.in_ok-item.field-0 _ _ (ap (reads c.args.scope.now) (sym c.requires)) c.in_ok-item.ensures in
    let p = part-of (an_initialiser (source_of c.args.reader.now)) (source_of c.args.reader.now) c.args.scope.now c.initialiser.new.scope c.in_ok-item.field-0 c.in-Some.item (reads c.args.scope.now (c.args.first + 1)) c.in-Some.is given in
    let more = c.in_ok-items-2.ensures c.args.scope.now c.args.first _
    (begun-part (an_initialiser (source_of c.args.reader.now)) (initialiser_row (source_of c.args.reader.now)) (source_of c.args.reader.now) c.args.first c.args.scope.now c.initialiser.new.scope c.in-Some.item _ c.in_ok-items.items p c.in_ok-items.ensures) in
    gives-along (an_initialiser (source_of c.args.reader.now)) (source_of c.args.reader.now) c.args.scope.now c.more_initialisers.new.scope c.braced.result _ _
    (braces-read (source_of c.args.reader.now) reads c.args.scope.now c.initialiser.new.scope c.more_initialisers.new.scope c.args.first c.args.first c.in-Some.item c.in_ok-items.items c.in_ok-items-2.items p c.in_ok-items.ensures more)
    (c.braced.ensures c.args.scope.now c.args.first
    (with_row tree.more_initialisers (map view.initialiser c.in_ok-items.items.tree) (more_initialisers (source_of c.args.reader.now) reads (all_turns (source_of c.args.reader.now)) c.initialiser.new.scope c.in_ok-items.items.after)) more)

pub initialiser-returns-then-depth-eq0 : goal.initialiser-returns-then-depth-eq0
initialiser-returns-then-depth-eq0 t c = no-initialiser (source_of c.args.reader.now) c.args.depth c.args.scope.now c.args.at c.if-depth-eq0.true

pub initialiser-returns-in-Some : goal.initialiser-returns-in-Some
initialiser-returns-in-Some t c =
    ok-along _ _ c.braces.result
    (λ found given. gives-along (an_initialiser (source_of c.args.reader.now)) (source_of c.args.reader.now) c.args.scope.now c.braces.new.scope found _ _
    (braces-wanted (source_of c.args.reader.now) c.args.depth (c.args.depth - 1) c.args.scope.now c.args.at (one-less c.args.depth c.if-depth-eq0.false) c.in-Some.ensures.0) given)
    c.braces.ensures

pub initialiser-returns-in_ok-value-in-None : goal.initialiser-returns-in_ok-value-in-None
initialiser-returns-in_ok-value-in-None t c =
    gives-along (an_initialiser (source_of c.args.reader.now)) (source_of c.args.reader.now) c.args.scope.now c.expr.new.scope c.valued.result _ _
    (value-wanted (source_of c.args.reader.now) c.args.depth (c.args.depth - 1) c.args.scope.now c.args.at (one-less c.args.depth c.if-depth-eq0.false) c.in-None.ensures)
    (c.valued.ensures (source_of c.args.reader.now) c.args.scope.now c.expr.new.scope ((lower (source_of c.args.reader.now) c.args.depth).expr 1 c.args.scope.now c.args.at) c.in_ok-value-in-None.ensures)

pub more_initialisers-loop-turns-init : goal.more_initialisers-loop-turns-init
more_initialisers-loop-turns-init t c before start read p = (as-read (initialisers_from (source_of c.args.reader.now) start) (source_of c.args.reader.now) before c.args.scope.now c.args.items read _ p refl, refl)

pub more_initialisers-returns-in_default : goal.more_initialisers-returns-in_default
more_initialisers-returns-in_default t c before start read p =
    let so = c.loop-turns.invariant before start read p in
    as-read (initialisers_from (source_of c.args.reader.now) start) (source_of c.args.reader.now) before c.loop-turns.scope c.loop-turns.items _ _ so.0
    (so.1 ∙ with-empty (an_initialiser (source_of c.args.reader.now)) (initialiser_row (source_of c.args.reader.now)) c.loop-turns.items.tree _ (initialisers-end (source_of c.args.reader.now) (initialiser_of (source_of c.args.reader.now) c.args.depth) c.loop-turns.turns c.loop-turns.scope c.loop-turns.items.after c.in_default.ensures))

pub more_initialisers-returns-in_default-2 : goal.more_initialisers-returns-in_default-2
more_initialisers-returns-in_default-2 t c before start read p =
    let so = c.loop-turns.invariant before start read p in
    so.1 ∙ with-none tree.more_initialisers (map view.initialiser c.loop-turns.items.tree) _
    (initialisers-none (source_of c.args.reader.now) (initialiser_of (source_of c.args.reader.now) c.args.depth) c.loop-turns.turns (c.loop-turns.turns - 1) c.loop-turns.scope c.loop-turns.items.after (turns-left c.loop-turns.turns c.loop-turns-test.true) c.in-Some.ensures.0
    (ap (initialiser_of (source_of c.args.reader.now) c.args.depth c.loop-turns.scope) (sym c.in-Some.ensures.1)
    ∙ nothing-of (an_initialiser (source_of c.args.reader.now)) (source_of c.args.reader.now) c.loop-turns.scope c.initialiser.new.scope c.in_ok-item.field-0 (initialiser_of (source_of c.args.reader.now) c.args.depth c.loop-turns.scope c.in-Some.next) c.in_default-2.is c.in_ok-item.ensures))

pub more_initialisers-loop-turns-preserved : goal.more_initialisers-loop-turns-preserved
more_initialisers-loop-turns-preserved t c before start read p =
    let so = c.loop-turns.invariant before start read p in
    initialisers-further (source_of c.args.reader.now) (initialiser_of (source_of c.args.reader.now) c.args.depth) start c.loop-turns.turns c.in-Some.next before c.loop-turns.scope c.initialiser.new.scope c.loop-turns.items c.in_ok-items.items c.in-Some-2.item _ _
    c.loop-turns-test.true c.in-Some.ensures.0 c.in-Some.ensures.1 so.0 so.1
    (part-of (an_initialiser (source_of c.args.reader.now)) (source_of c.args.reader.now) c.loop-turns.scope c.initialiser.new.scope c.in_ok-item.field-0 c.in-Some-2.item (initialiser_of (source_of c.args.reader.now) c.args.depth c.loop-turns.scope c.in-Some.next) c.in-Some-2.is c.in_ok-item.ensures)
    c.in_ok-items.ensures

pub more_initialisers-returns : goal.more_initialisers-returns
more_initialisers-returns t c before start read p =
    let so = c.loop-turns.invariant before start read p in
    as-read (initialisers_from (source_of c.args.reader.now) start) (source_of c.args.reader.now) before c.loop-turns.scope c.loop-turns.items _ _ so.0
    (so.1 ∙ with-empty (an_initialiser (source_of c.args.reader.now)) (initialiser_row (source_of c.args.reader.now)) c.loop-turns.items.tree _
    (no-initialisers-left (source_of c.args.reader.now) (initialiser_of (source_of c.args.reader.now) c.args.depth) c.loop-turns.turns c.loop-turns.scope c.loop-turns.items.after (none-left c.loop-turns.turns c.loop-turns-test.false)))
