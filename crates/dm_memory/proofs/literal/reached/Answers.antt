-- The types of characters are known.
use Rattle.dm_memory.proofs.literal.reached.Goals as goal

pub returns-then-from-length-clause-known : goal.returns-then-from-length-clause-known
returns-then-from-length-clause-known c = c.reached_in_character.ensures.known c.args.layout.now
