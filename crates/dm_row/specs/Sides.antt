-- The two sides of a row, and the counts that are kept with their items.
use Rattle.std.specs.Prelude.{◌≡◌, ◌≤◌, List, [], ◌∷◌, length, None}
use Rattle.dm_row.specs.declared.item.Item.{Item}
use Rattle.dm_row.specs.declared.item.Passed.{Passed}
use Rattle.dm_row.specs.declared.item.Ahead.{Ahead}
use Rattle.dm_row.specs.declared.row.Left.{Left}
use Rattle.dm_row.specs.declared.row.Right.{Right}
use Rattle.dm_row.specs.Counts.{passed, led}

abbrev pub items_left : {R N : Type 0} → List (Left R N) → List (Item R N)
items_left [] = []
items_left (one ∷ rest) = one.item ∷ items_left rest

-- the nearest one is kept last
abbrev pub items_right_before : {R N : Type 0} → List (Right R N) → List (Item R N) → List (Item R N)
items_right_before [] more = more
items_right_before (one ∷ rest) more = items_right_before rest (one.item ∷ more)

abbrev pub items_right : {R N : Type 0} → List (Right R N) → List (Item R N)
items_right all = items_right_before all []

abbrev pub none_passed : Passed
none_passed = record { results = 0; ready = 0; weight = 0 }

abbrev pub none_ahead : Ahead
none_ahead = record { results = 0; operands = None; ready = 0 }

-- the counts behind some items
abbrev pub all_passed : {R N : Type 0} → Passed → List (Left R N) → Passed
all_passed counts [] = counts
all_passed counts (one ∷ rest) = all_passed (passed counts one.item) rest

abbrev pub all_led : {R N : Type 0} → Ahead → List (Right R N) → Ahead
all_led counts [] = counts
all_led counts (one ∷ rest) = all_led (led counts one.item) rest

-- with each item stand the counts in front of it
abbrev pub AreKeptLeft : {R N : Type 0} → Passed → List (Left R N) → Type 0
AreKeptLeft counts [] = Unit {0}
AreKeptLeft counts (one ∷ rest) = (one.counts ≡ counts) × AreKeptLeft (passed counts one.item) rest

abbrev pub AreKeptRight : {R N : Type 0} → Ahead → List (Right R N) → Type 0
AreKeptRight counts [] = Unit {0}
AreKeptRight counts (one ∷ rest) = (one.counts ≡ counts) × AreKeptRight (led counts one.item) rest

-- all counts of a row are right, and there are not too many items
pub record IsCounted {R N : Type 0} (left : List (Left R N)) (counts : Passed) (right : List (Right R N)) (ahead : Ahead) : Type 0 where
  pub kept_left : AreKeptLeft none_passed left
  pub left_counted : counts ≡ all_passed none_passed left
  pub few_left : length left ≤ 4000000000
  pub kept_right : AreKeptRight none_ahead right
  pub right_counted : ahead ≡ all_led none_ahead right
  pub few_right : length right ≤ 4000000000
