-- The characters up to the next jump are passed, and the one at it.
use Rattle.std.proofs.Common.{◌∙◌, ◌+◌, ◌-◌, ap, arith, drop, ℕ, List}
use Rattle.dm_phase.specs.declared.Character.{Character}
use Rattle.dm_phase.specs.Walking.{ahead}
use Rattle.dm_phase.proofs.CursorLemmas.{drop-parts}
use Rattle.dm_phase.proofs.cursor.Cursor.advance.Goals as goal

pub loop-clear-preserved : goal.loop-clear-preserved
loop-clear-preserved c =
    let text : List Character = ahead c.args.self.now in
    let at = c.loop-clear.invariant in
    let passed : ℕ = c.args.count - c.loop-clear.left in
    record {
      sound = c.step.ensures.sound;
      further = c.step.ensures.further ∙ ap (drop 1) (c.pass.ensures.further ∙ ap (drop c.loop-clear.clear) at.further ∙ drop-parts text passed c.loop-clear.clear (passed + c.loop-clear.clear) (omega arith))
          ∙ drop-parts text (passed + c.loop-clear.clear) 1 _ (omega (arith, c.loop-clear-test.true, at.within));
      index = omega (arith, c.step.ensures.index, c.pass.ensures.index, at.index, c.loop-clear-test.true, at.within);
      within = omega (arith, at.within);
      clear = c.clear_from-clear-in-loop-clear.ensures;
    }
