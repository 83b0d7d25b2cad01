-- By how the readings compare.
use Rattle.std.proofs.Common.{refl, sym, subst}
use Rattle.dm_reading.specs.declared.reading.Reading.{Reading}
use Rattle.dm_alignment.specs.Readings.{AreAlignedReadings}
use Rattle.dm_verdict.proofs.VerdictLemmas.{not-both}
use Rattle.dm_verdict.proofs.judging.reread.Goals as goal

pub returns-in-Same : goal.returns-in-Same
returns-in-Same c =
    subst (λ (new : Reading). AreAlignedReadings c.args.old.now.reading.now new c.args.change.now) c.new.ensures
    (c.in_ok-align_in.ensures.0 c.in-Same.is)

pub returns : goal.returns
returns c = (
  refl,
  refl,
  λ aligned.
      not-both c.in_ok-align_in.field-0 c.in-Differs.is
      (c.in_ok-align_in.ensures.1
      (subst (λ (new : Reading). AreAlignedReadings c.args.old.now.reading.now new c.args.change.now) (sym c.new.ensures) aligned)),
)
