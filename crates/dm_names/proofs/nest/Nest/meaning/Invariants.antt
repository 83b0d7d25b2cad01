-- The scopes that are left have the declaration, if any has.
use Rattle.std.proofs.Common.{◌≡◌, length, reverse}
use Rattle.dm_names.specs.Scopes.{meaning_of}
use Rattle.dm_names.proofs.nest.Nest.meaning.Given as goal

abbrev pub invariant-loop-innermost : goal.invariant-loop-innermost
invariant-loop-innermost l = meaning_of l.tag l.name l.self ≡ meaning_of l.tag l.name (reverse l.open)

abbrev pub decreases-loop-innermost : goal.decreases-loop-innermost
decreases-loop-innermost l = length l.open
