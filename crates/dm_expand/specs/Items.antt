-- The tokens of a list that is expanded, each with its hide set and its trail.
use Rattle.std.specs.Prelude.{Bool, List, [], ◌∷◌}
use Rattle.std.specs.FinSet as set
use Rattle.dm_token.specs.declared.token.PpToken.{PpToken}
use Rattle.dm_token.specs.declared.expansion.Mark.{Mark}
use Rattle.dm_expand.specs.HideSets.{HiddenNumbers}

-- a token, the macros that are hidden for it (6.10.3.4p2), and the expansions and arguments that it came through
pub record Item : Type 0 where
  pub pp : PpToken
  pub hidden : HiddenNumbers
  pub trail : List Mark

-- a token of the source: nothing is hidden for it, and it came through no expansion
unfoldable pub of_source : PpToken → Item
of_source token = record { pp = token; hidden = set.empty; trail = [] }

-- the token with a blank before it, or with none
unfoldable pub with_blank : Bool → Item → Item
with_blank blank item = record item { pp = record item.pp { blank_before = blank } }

-- tokens whose first one has a blank before it, or none
unfoldable pub first_with_blank : Bool → List Item → List Item
first_with_blank blank [] = []
first_with_blank blank (item ∷ others) = with_blank blank item ∷ others
