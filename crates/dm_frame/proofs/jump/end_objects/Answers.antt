-- The newest object's lifetime has ended, and those of the others are to.
use Rattle.std.proofs.Common.{◌≡◌, ℕ, ◌∷◌, length, ap, sym, subst, ◌<◌, ◌≤◌, arith, ◌∙◌}
use Rattle.dm_memory.specs.Blocks.{view_of_blocks}
use Rattle.dm_meaning.specs.Memory.{killed}
use Rattle.dm_meaning.specs.Statements.{named_since}
use Rattle.dm_frame.specs.Tasks.{kept}
use Rattle.dm_frame.proofs.KeptLemmas.{ending, kept-more}
use Rattle.dm_frame.proofs.jump.end_objects.Goals as goal

pub loop-number-preserved : goal.loop-number-preserved
loop-number-preserved c =
    let alive : ℕ = c.args.alive in
    let rest = c.pop_above.new.self in
    let entry : ℕ × ℕ = (c.in-Some.field-0-0, c.in-Some.number) in
    let is = c.in-Some.ensures.1 in
    let more : alive < length (entry ∷ rest) = subst (λ objects. alive < length objects) is c.in-Some.ensures.0 in
    let within : alive ≤ length rest = omega (arith, more) in (
      sym (kept-more alive entry rest within) ∙ (ap (kept alive) (sym is) ∙ c.loop-number.invariant.0),
      λ table.
          ap (λ memory. killed (named_since (kept alive rest) rest) memory) (c.end.ensures.view table)
          ∙ (sym (ending alive entry rest (view_of_blocks table c.loop-number.blocks) more)
          ∙ (ap (λ objects. killed (named_since (kept alive objects) objects) (view_of_blocks table c.loop-number.blocks)) (sym is) ∙ c.loop-number.invariant.1 table)),
      λ table known. c.end.ensures.known table (c.loop-number.invariant.2 table known),
    )
