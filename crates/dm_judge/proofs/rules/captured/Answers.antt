-- It suffices to ask the units that are looked up.
use Rattle.std.proofs.Common.{List, Option, ap, ◌∙◌}
use Rattle.dm_meanings.specs.declared.meanings.Meanings.{Meanings}
use Rattle.dm_meanings.specs.First as first
use Rattle.dm_meanings.specs.Captures.{broken_capture}
use Rattle.dm_judge.specs.Units.{readings_of}
use Rattle.dm_judge.proofs.SlotLemmas.{same-capture}
use Rattle.dm_judge.proofs.rules.captured.Goals as goal

pub returns : goal.returns
returns c =
    c.in_ok-place.ensures ∙ ap (λ (units : List (Option Meanings)). broken_capture c.args.definition.now (first.readings_of units)) c.as_slice.ensures.value
    ∙ same-capture c.args.definition.now (readings_of c.args.units.now) c.args.units.now.meanings.items c.requires
