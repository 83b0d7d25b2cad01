-- Places in rows.
--     IsSought number before after      the place was moved to a node
use Rattle.std.specs.Prelude.{◌≡◌, ℕ, ◌≤◌, List, [], ◌∷◌, ◌++◌}
use Rattle.dm_row.specs.declared.item.Item.{Item}
use Rattle.dm_row.specs.declared.item.Item.TheVariants.{Waits}
use Rattle.dm_row.specs.Counts.{ready_in, results_after}

-- the items are the same, and a node that has its operands stands directly behind the place, with so many such nodes in front of it
pub record IsSought {R N : Type 0} (number : ℕ) (before after : List (Item R N) × List (Item R N)) : Type 0 where
  pub same : before.0 ++ before.1 ≡ after.0 ++ after.1
  pub node : N
  pub operands : ℕ
  pub rest : List (Item R N)
  pub there : after.1 ≡ Waits node operands ∷ rest
  pub enough : operands ≤ results_after 0 after.0
  pub counted : ready_in 0 after.0 ≡ number

-- the place stands behind one item more
pub record IsBehind {R N : Type 0} (first second : List (Item R N) × List (Item R N)) : Type 0 where
  pub item : Item R N
  pub in_front : second.0 ≡ first.0 ++ item ∷ []
  pub behind : first.1 ≡ item ∷ second.1
