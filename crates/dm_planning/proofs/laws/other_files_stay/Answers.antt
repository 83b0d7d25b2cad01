use Rattle.dm_planning.proofs.EditLemmas.{other-stays}
use Rattle.dm_planning.proofs.laws.other_files_stay.Goals as goal

pub returns : goal.returns
returns c told units before after change entry file bytes edits apart held = other-stays told units before after change entry edits file bytes apart held
