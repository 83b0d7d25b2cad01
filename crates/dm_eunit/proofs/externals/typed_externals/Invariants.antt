-- What the external declarations so far come to, in front of what the rest does, is the whole.
use Rattle.std.specs.Prelude.{drop}
use Rattle.dm_typing.specs.Views.{setting_of}
use Rattle.dm_estanding.proofs.ProceedingLemmas.{Arrives}
use Rattle.dm_eunit.specs.Functions.{ExternalsFit}
use Rattle.dm_eunit.proofs.ExternalLemmas.{externals-whole, externals-left}
use Rattle.dm_eunit.proofs.externals.typed_externals.Given as goal

abbrev pub invariant-loop-external : goal.invariant-loop-external
invariant-loop-external l =
    Arrives l.fn.standing l.standing (externals-whole (setting_of l.typer) l.externals l.fn.standing)
    (externals-left (setting_of l.typer) l.externals l.fn.standing l.all (drop l.external-index l.externals))
    × ExternalsFit l.standing.known.types l.all
