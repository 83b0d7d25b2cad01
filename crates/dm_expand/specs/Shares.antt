-- Tokens that lists share.
use Rattle.std.specs.Prelude.{◌≡◌, ◌≤◌, ℕ, ◌-◌, false, List, map, take, drop, length, Option, None, Some, if◌then◌else◌}
use Rattle.dm_parentheses.specs.declared.sign.Sign.{Sign}
use Rattle.dm_parentheses.specs.declared.sign.Sign.TheVariants.{Opening, Closing, Comma, Other}
use Rattle.dm_token.specs.declared.expansion.Mark.{Mark}
use Rattle.dm_expand.specs.Items.{Item}
use Rattle.dm_expand.specs.Arguments.{opens, closes, separates}
use Rattle.dm_expand.specs.Trails.{come_otherwise}

-- what a token is to the arguments of an invocation
unfoldable pub sign_of : Item → Sign
sign_of item = if opens item then Opening else if closes item then Closing else if separates item then Comma else Other

abbrev pub signs_of : List Item → List Sign
signs_of items = map sign_of items

-- the tokens from an index on, up to another one
abbrev pub stretch_of : List Item → ℕ → ℕ → List Item
stretch_of items first after = take (after - first) (drop first items)

-- where there is a table, it is that of the tokens
abbrev pub AreSigns : List Item → Option (List Sign) → Type 0
AreSigns items None = Unit {0}
AreSigns items (Some signs) = signs ≡ signs_of items

-- The indexes are within the tokens, and each token between them begins with a trail.
pub record IsStretch (items : List Item) (ends : Option (List Sign)) (first after : ℕ) (came : List Mark) : Type 0 where
  pub ordered : first ≤ after
  pub within : after ≤ length items
  pub signs : AreSigns items ends
  pub came_so : come_otherwise came (stretch_of items first after) ≡ false
