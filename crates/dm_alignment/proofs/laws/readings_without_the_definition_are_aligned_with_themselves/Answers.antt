-- Such a unit has no runs.
use Rattle.std.proofs.Common.{List, None, sym, subst}
use Rattle.dm_runs.specs.declared.run.Run.{Run}
use Rattle.dm_align.specs.Units.{AreAligned}
use Rattle.dm_meanings.specs.Types.{unit_in}
use Rattle.dm_alignment.proofs.RunLemmas.{no-runs}
use Rattle.dm_alignment.proofs.laws.readings_without_the_definition_are_aligned_with_themselves.Goals as goal

pub returns : goal.returns
returns c = λ one change unread. (
  None,
  unread,
  subst (λ (runs : List Run). AreAligned one.types one.types (unit_in one) (unit_in one) runs None) (sym (no-runs change.definition one unread))
      (c.units_are_aligned_with_themselves.ensures one.types (unit_in one)),
)
