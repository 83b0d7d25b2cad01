-- A tree's types are numbered still.
use Rattle.dm_typing.proofs.LaterLemmas.{known-later}
use Rattle.dm_typing.proofs.typer.Typer.as_kind.Goals as goal

pub as_type-requires-clause-numbered : goal.as_type-requires-clause-numbered
as_type-requires-clause-numbered c = known-later c.args.known.now.types.shapes c.intern.new.self.types.shapes c.args.core c.intern.ensures.grows.shapes c.requires
