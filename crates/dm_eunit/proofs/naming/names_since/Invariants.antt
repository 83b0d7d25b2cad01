use Rattle.std.specs.Prelude.{◌≡◌, ◌++◌, drop}
use Rattle.dm_type.specs.Tables.{Table}
use Rattle.dm_tree.specs.Views.{entries_of}
use Rattle.dm_edecl.specs.Units.{innermost}
use Rattle.dm_eunit.specs.Naming.{names_in}
use Rattle.dm_eunit.proofs.naming.names_since.Given as goal

-- the names so far, and those among the other entries, are all
abbrev pub invariant-loop-number : goal.invariant-loop-number
invariant-loop-number l = (types : Table) →
    l.names.items ++ names_in (innermost l.known.scopes) l.number (drop l.number (entries_of types l.known.declared))
    ≡ names_in (innermost l.known.scopes) l.from (drop l.from (entries_of types l.known.declared))
