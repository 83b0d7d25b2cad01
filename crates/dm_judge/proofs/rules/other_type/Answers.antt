-- It suffices to ask the units that are looked up.
use Rattle.std.proofs.Common.{List, Option, ap, ◌∙◌}
use Rattle.dm_meanings.specs.declared.meanings.Meanings.{Meanings}
use Rattle.dm_meanings.specs.First as first
use Rattle.dm_meanings.specs.Types.{broken_type}
use Rattle.dm_judge.specs.Units.{readings_of}
use Rattle.dm_judge.proofs.SlotLemmas.{same-type}
use Rattle.dm_judge.proofs.rules.other_type.Goals as goal

pub returns : goal.returns
returns c =
    c.in_ok-place.ensures ∙ ap (λ (units : List (Option Meanings)). broken_type c.args.definition.now (first.readings_of units)) c.as_slice.ensures.value
    ∙ same-type c.args.definition.now (readings_of c.args.units.now) c.args.units.now.meanings.items c.requires
