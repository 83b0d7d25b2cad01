-- The scopes that are left have the declaration, if any has.
use Rattle.std.proofs.Common.{◌≡◌, length, reverse}
use Rattle.dm_scope.specs.Scopes.{number_of}
use Rattle.dm_scope.proofs.scopes.Scopes.resolve.Given as goal

abbrev pub invariant-loop-innermost : goal.invariant-loop-innermost
invariant-loop-innermost l = number_of l.self l.name ≡ number_of (reverse l.maps) l.name

abbrev pub decreases-loop-innermost : goal.decreases-loop-innermost
decreases-loop-innermost l = length l.maps
