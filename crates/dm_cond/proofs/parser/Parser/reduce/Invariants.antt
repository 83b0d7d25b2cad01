-- What is left to complete is what was to complete, and each turn takes a frame away.
use Rattle.std.proofs.Common.{◌≡◌, vec_len}
use Rattle.dm_cond.specs.Machine.{reduced}
use Rattle.dm_cond.specs.Points.{stack_of}
use Rattle.dm_cond.proofs.parser.Parser.reduce.Given as goal

abbrev pub invariant-loop-frame : goal.invariant-loop-frame
invariant-loop-frame l = reduced l.level (stack_of l.self) l.value ≡ reduced l.level (stack_of l.initial.self) l.initial.value

abbrev pub decreases-loop-frame : goal.decreases-loop-frame
decreases-loop-frame l = vec_len l.self.frames
