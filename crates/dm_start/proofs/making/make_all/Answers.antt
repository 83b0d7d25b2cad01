-- One object after the other.
use Rattle.std.proofs.Common.{◌+◌, ℕ, List, map, drop, ap, sym, subst}
use Rattle.dm_program.specs.declared.fixed.Static.{Static}
use Rattle.dm_program.specs.Sources.{meant}
use Rattle.dm_start.specs.Making.{IsMade}
use Rattle.dm_start.proofs.LoopLemmas.{cut, past}
use Rattle.dm_start.proofs.MakingLemmas.{more-made, none-made}
use Rattle.dm_start.proofs.making.make_all.Goals as goal

abbrev numbers : List Static → List ℕ
numbers statics = map (λ (one : Static). one.declared) statics

pub loop-one-preserved : goal.loop-one-preserved
loop-one-preserved c =
    let program = meant c.args.program.now in
    let statics = c.args.statics.now in
    let i = c.loop-one.one-index in
    let e = ap numbers (cut statics i c.one-item.result c.loop-one-test.true c.one-item.is) in (
      c.in_ok-make_one.ensures.known,
      λ named made more. c.loop-one.invariant.1 named made
          (subst (λ ds. IsMade program ds c.loop-one.names c.loop-one.blocks named made) (sym e)
          (more-made program c.one-item.result.declared (numbers (drop (i + 1) statics)) _ _ _ _ _ _ c.in_ok-make_one.ensures more)),
    )

pub returns : goal.returns
returns c =
    let program = meant c.args.program.now in
    let e = ap numbers (past c.args.statics.now c.loop-one.one-index c.loop-one-test.false) in
    c.loop-one.invariant.1 _ _
    (subst (λ ds. IsMade program ds c.loop-one.names c.loop-one.blocks c.loop-one.names c.loop-one.blocks) (sym e) (none-made program _ _ c.loop-one.invariant.0))
