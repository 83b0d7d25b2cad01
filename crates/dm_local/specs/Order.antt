-- The order of a unit's expansions.
--     AreAscending from expansions      their numbers ascend, from this one on
use Rattle.std.specs.Prelude.{ℕ, suc, ◌≤◌, List, [], ◌∷◌}
use Rattle.dm_token.specs.declared.expansion.Expansion.{Expansion}

abbrev pub AreAscending : ℕ → List Expansion → Type 0
AreAscending from [] = Unit {0}
AreAscending from (first ∷ others) = (from ≤ first.instance) × AreAscending (suc first.instance) others
