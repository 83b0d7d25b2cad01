-- Where the typing refuses a unit: the words in which the laws say so.
--     StopsWithin first behind progress      a rule that is broken is so at one of these tokens
--     AreExternals source names at externals      well-formed external declarations, one behind the other from a position on
use Rattle.std.specs.Prelude.{◌≡◌, ℕ, ◌<◌, ◌≤◌, List, [], ◌∷◌, ◌++◌}
use Rattle.dm_syn.specs.declared.declared.Declared.{Declared}
use Rattle.dm_syn.specs.Sources.{Source}
use Rattle.dm_syn.specs.Spans.{external_span}
use Rattle.dm_syn.specs.Scopes.{external_declares}
use Rattle.dm_syn.specs.Statements.{IsExternal}
use Rattle.dm_syn.specs.Trees.{External}
use Rattle.dm_edecl.specs.Standing.{Progress, goes_on, stops}

-- a rule that is broken is so at a token from a position on, before another
abbrev pub StopsWithin : {A : Type 0} → ℕ → ℕ → Progress A → Type 0
StopsWithin first behind (goes_on standing it) = Unit {0}
StopsWithin first behind (stops rule at) = (first ≤ at) × (at < behind)

-- where external declarations end that begin at a position
abbrev pub externals_after : ℕ → List External → ℕ
externals_after at [] = at
externals_after at (first ∷ others) = externals_after (external_span first).after others

-- well-formed external declarations, one behind the other from a position on (6.9p1)
abbrev pub AreExternals : Source → List Declared → ℕ → List External → Type 0
AreExternals source names at [] = Unit {0}
AreExternals source names at (first ∷ others) =
    ((external_span first).first ≡ at) × IsExternal source names first
    × AreExternals source (external_declares source first ++ names) (external_span first).after others
