-- What holds of every expansion: how far its progress comes, and which stops it has.
use Rattle.std.specs.Prelude.{◌≡◌, ℕ, suc, false, ◌+◌, ◌≤◌, ◌⊎◌, List, [], ◌∷◌, None, Result, Ok, Err}
use Rattle.dm_token.specs.LimitNumbers as limits
use Rattle.dm_token.specs.Refusals as refusals
use Rattle.dm_token.specs.declared.stop.Stop.{Stop}
use Rattle.dm_token.specs.declared.stop.Stop.TheVariants.{Memory, Refused, Limit, ReadFault}
use Rattle.dm_token.specs.declared.expansion.Expansion.{Expansion}
use Rattle.dm_expand.specs.Items.{Item}
use Rattle.dm_expand.specs.Steps.{Progress, greatest_work}
use Rattle.dm_expand.specs.Predefined.{is_predefined}
use Rattle.dm_expand.specs.Expansion.{Macros, macro_of}

-- the expansions have the numbers from the first one on, up to the next one's
abbrev pub AreNumbered : ℕ → List Expansion → ℕ → Type 0
AreNumbered first [] next = first ≡ next
AreNumbered first (made ∷ others) next = (made.instance ≡ first) × AreNumbered (suc first) others next

-- One progress follows on another: the work doesn't fall and keeps its limit, each expansion counts as work, and the
-- expansions are numbered in order.
pub record Follows (before after : Progress) : Type 0 where
  pub rises : before.spent ≤ after.spent
  pub within : after.spent ≤ greatest_work
  pub counted : after.instance + before.spent ≤ before.instance + after.spent
  pub numbered : (first : ℕ) → AreNumbered first before.expansions before.instance → AreNumbered first after.expansions after.instance

-- a stop of an expansion: refusal 9 or 10, or limit 3
abbrev pub IsStop : Stop → Type 0
IsStop Memory = ⊥
IsStop (Refused refusal) = (refusal.number ≡ refusals.arguments) ⊎ (refusal.number ≡ refusals.paste)
IsStop (Limit limit) = limit.number ≡ limits.work
IsStop (ReadFault file) = ⊥

-- what is answered has a property, or it is such a stop
abbrev pub Each : {A : Type 0} → (A → Type 0) → Result A Stop → Type 0
Each P (Ok answer) = P answer
Each P (Err stop) = IsStop stop

-- a token that names no macro and no predefined name
pub record IsNoName (macros : Macros) (item : Item) : Type 0 where
  pub no_macro : macro_of macros item.pp ≡ None
  pub no_predefined : is_predefined item.pp ≡ false

-- tokens that name none
abbrev pub AreNoNames : Macros → List Item → Type 0
AreNoNames macros [] = Unit {0}
AreNoNames macros (item ∷ items) = IsNoName macros item × AreNoNames macros items
