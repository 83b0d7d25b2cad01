-- All numbers are the new ones.
use Rattle.std.proofs.Common.{rules, ◌≡◌, ℕ}
use Rattle.dm_agree.specs.Moves.{moved_past}
use Rattle.dm_agree.proofs.StepLemmas.{through}
use Rattle.dm_align.proofs.StepLemmas.{all-are, zipped-as}
use Rattle.dm_align.proofs.externals.are_moved.Goals as goal

pub returns : goal.returns
returns c =
    through (all-are (λ (x y : ℕ). x ≡ moved_past c.args.block y) c.args.new.now c.args.old.now c.loop-i.i c.if-new-old.false (search rules) c.loop-i.invariant)
    (zipped-as (moved_past c.args.block) c.args.new.now c.args.old.now)
