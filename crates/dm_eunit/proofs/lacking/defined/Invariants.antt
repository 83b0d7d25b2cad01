use Rattle.std.specs.Prelude.{◌≡◌, ℕ, ◌||◌, List, map, drop}
use Rattle.dm_syn.specs.Views as syntax
use Rattle.dm_edecl.specs.Units as units
use Rattle.dm_eunit.specs.Lacking.{IsSet, has}
use Rattle.dm_eunit.proofs.lacking.defined.Given as goal

-- the functions so far, and those that the others define
abbrev pub invariant-loop-external : goal.invariant-loop-external
invariant-loop-external l =
    IsSet l.names
    × ((name : List ℕ) → (has l.names name || units.defines l.typer.tokens.now (map syntax.external (drop l.external-index l.externals)) name)
    ≡ units.defines l.typer.tokens.now (map syntax.external l.externals) name)
