-- The indexes are those of the readings.
use Rattle.std.proofs.Common.{◌≡◌, ◌↔◌, ◌∙◌, IfOk, subst}
use Rattle.dm_reading.specs.declared.reading.Reading.{Reading}
use Rattle.dm_alignment.specs.declared.alignment.Alignment.TheVariants.{Same}
use Rattle.dm_alignment.specs.Readings.{AreAlignedReadings}
use Rattle.dm_alignment.proofs.readings.align.Goals as goal

pub returns : goal.returns
returns c =
    let change = c.args.change.now in
    subst (λ (old : Reading). IfOk c.align_in.result (λ answer. answer ≡ Same ↔ AreAlignedReadings old c.args.new.now change)) c.in_ok-old.ensures
    (subst (λ (new : Reading). IfOk c.align_in.result (λ answer. answer ≡ Same ↔ AreAlignedReadings c.in_ok-old.old.reading.now new change)) c.new.ensures
    c.align_in.ensures)
