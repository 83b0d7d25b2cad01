-- By the deed.
use Rattle.dm_stable.specs.Marks.{Addresses, Defines, Initialises, Receives}
use Rattle.dm_stable.proofs.MarkLemmas.{follows-none}
use Rattle.dm_stable.proofs.marks.note_local.Goals as goal

pub returns : goal.returns
returns c types Addresses = follows-none c.args.marks.now.addressed.items
returns c types Defines = c.note_definition.ensures types
returns c types Initialises = c.note_initialiser.ensures types
returns c types Receives = follows-none c.args.marks.now.received.items
