use Rattle.std.specs.Prelude.{refl}
use Rattle.dm_promise.proofs.laws.applied_programs_refine.Goals as goal

pub returns : goal.returns
returns c before after units new now plan planned written =
    let first = planned.0 in
    let last = planned.1 in (record {
      first = first;
      last = last;
      read = planned.2.1 before refl;
      planned = planned.3;
      left = c.last_readings_are_of_the_files.ensures before after units 0 first last plan planned.2 planned.3 planned.4 written;
      refine = c.planned_programs_refine.ensures before units 0 first last plan planned.2 planned.3;
    })
