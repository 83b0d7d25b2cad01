use Rattle.std.specs.Prelude.{◌≡◌, ◌∷◌, drop}
use Rattle.dm_scope.specs.Scopes.{Scopes}
use Rattle.dm_name_map.specs.Numbers.{Numbers}
use Rattle.dm_edeclarator.specs.Steps.{SameBesideScopes}
use Rattle.dm_eunit.specs.Naming.{with_names}
use Rattle.dm_eunit.specs.Reopening.{AreUnlinked}
use Rattle.dm_eunit.proofs.reopening.declare_again.Given as goal

-- the scope with the other names is that with all names
abbrev pub invariant-loop-one : goal.invariant-loop-one
invariant-loop-one l =
    ((scope : Numbers) (outer : Scopes) → l.fn.known.scopes ≡ scope ∷ outer
    → (now : Numbers) × (l.known.scopes ≡ now ∷ outer) × (with_names now (drop l.one-index l.names) ≡ with_names scope l.names))
    × SameBesideScopes l.fn.known l.known × (AreUnlinked l.fn.known.declared (drop l.one-index l.names) → AreUnlinked l.fn.known.declared l.names)
