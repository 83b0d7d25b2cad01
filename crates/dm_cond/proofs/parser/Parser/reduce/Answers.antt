-- A frame that ends is completed, and one that doesn't stays.
use Rattle.std.proofs.Common.{◌∙◌, sym, ap}
use Rattle.dm_cond.specs.Machine.{has, reduced}
use Rattle.dm_cond.specs.Points.{stack_of}
use Rattle.dm_cond.proofs.Reductions.{reduced-ends, reduced-stays}
use Rattle.dm_cond.proofs.parser.Parser.reduce.Goals as goal

pub loop-frame-preserved : goal.loop-frame-preserved
loop-frame-preserved c =
    let e = c.in-Some.ensures in
    ap (reduced c.args.level (stack_of c.pop_ending.new.self)) c.complete-value.ensures
    ∙ sym (reduced-ends c.args.level c.in-Some.frame (stack_of c.pop_ending.new.self) c.loop-frame.value e.1)
    ∙ ap (λ frames. reduced c.args.level frames c.loop-frame.value) (sym e.0)
    ∙ c.loop-frame.invariant

pub returns : goal.returns
returns c =
    let e = c.in_default.ensures in
    sym c.loop-frame.invariant
    ∙ reduced-stays c.args.level (stack_of c.loop-frame.self) c.loop-frame.value e.1
    ∙ ap (λ frames. has frames c.loop-frame.value) (sym e.0)
