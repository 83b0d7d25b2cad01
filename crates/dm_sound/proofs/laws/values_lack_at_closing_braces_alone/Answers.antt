use Rattle.dm_sound.proofs.LackLemmas.{step_lacks}
use Rattle.dm_sound.proofs.laws.values_lack_at_closing_braces_alone.Goals as goal

pub returns : goal.returns
returns c program state other sound values typed step = step_lacks program sound values state other typed step
