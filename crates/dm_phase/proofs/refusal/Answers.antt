-- The place of the backslash lies in the file.
use Rattle.dm_token.specs.Answer.{place_of-inside}
use Rattle.dm_phase.proofs.refusal.Goals as goal

pub returns-clause-inside : goal.returns-clause-inside
returns-clause-inside c = rw c.place_at.ensures (place_of-inside c.args.file c.args.backslash.at c.args.bytes.now c.requires.inside)
