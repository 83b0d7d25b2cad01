-- The marks on the ways of a unit's tokens (6.10.3).
--     IsListed expansions mark      an expansion that a mark is of is one of these
--     AreListed expansions tokens      each that one of some tokens came through is
use Rattle.std.specs.Prelude.{◌≡◌, ℕ, Bool, true, ◌&&◌, ◌==◌, List}
use Rattle.std.specs.List.{AllByRecursion, list_any}
use Rattle.dm_token.specs.declared.expansion.Expansion as made_of
use Rattle.dm_token.specs.declared.expansion.Mark.{Mark}
use Rattle.dm_token.specs.declared.expansion.Mark.TheVariants.{Expansion as expansion, Argument as argument}
use Rattle.dm_token.specs.declared.token.Token.{Token}

-- the expansion of the definition with this number that has this number itself
abbrev pub is_expansion_with : ℕ → ℕ → made_of.Expansion → Bool
is_expansion_with number instance one = (one.definition == number) && (one.instance == instance)

abbrev pub IsListed : List made_of.Expansion → Mark → Type 0
IsListed expansions (expansion number instance) = list_any (is_expansion_with number instance) expansions ≡ true
IsListed expansions (argument parameter occurrence) = Unit {0}

abbrev pub AreListed : List made_of.Expansion → List Token → Type 0
AreListed expansions tokens = AllByRecursion (λ (token : Token). AllByRecursion (IsListed expansions) token.trail) tokens
