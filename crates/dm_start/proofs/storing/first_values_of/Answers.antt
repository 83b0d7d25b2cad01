-- One object after the other.
use Rattle.std.proofs.Common.{◌+◌, ◌++◌, List, map, drop, append-nil, ap, sym, ◌∙◌}
use Rattle.dm_program.specs.declared.fixed.Static.{Static}
use Rattle.dm_program.specs.Statics.{view_of_static}
use Rattle.dm_start.specs.Scenes.{types_in}
use Rattle.dm_start.specs.Storing.{kept_all, view_of_kept}
use Rattle.dm_start.proofs.LoopLemmas.{cut, past}
use Rattle.dm_start.proofs.StoringLemmas.{one-kept}
use Rattle.dm_start.proofs.storing.first_values_of.Goals as goal

pub loop-one-preserved : goal.loop-one-preserved
loop-one-preserved c =
    let scene = c.args.scene.now in
    let statics = c.args.statics.now in
    let i = c.loop-one.one-index in
    one-kept scene (view_of_static (types_in scene)) c.loop-one.all.items c.put.new.all.items c.in_ok-kept.kept c.one-item.result (drop i statics) (drop (i + 1) statics) _
    (cut statics i c.one-item.result c.loop-one-test.true c.one-item.is) c.in_ok-put.ensures c.in_ok-kept.ensures c.loop-one.invariant

pub returns : goal.returns
returns c =
    let scene = c.args.scene.now in
    let e = ap (λ (left : List Static). kept_all scene (map (view_of_static (types_in scene)) left)) (past c.args.statics.now c.loop-one.one-index c.loop-one-test.false) in
    sym (append-nil (map view_of_kept c.loop-one.all.items)) ∙ (ap (λ rest. map view_of_kept c.loop-one.all.items ++ rest) (sym e) ∙ c.loop-one.invariant)
