-- What the counts of a row say, and that they stay right.
use Rattle.std.proofs.Common.{◌≡◌, ℕ, suc, ◌+◌, ◌≤◌, Bool, true, false, nat_le, List, [], ◌∷◌, ◌++◌, length, Option, Some, None, ◌<◌, refl, sym, ap, ap₂, subst, ◌∙◌, arith, add_assoc}
use Rattle.std.proofs.lemmas.List.{length-append}
use Rattle.dm_row.specs.declared.item.Item.{Item}
use Rattle.dm_row.specs.declared.item.Item.TheVariants.{Done, Waits}
use Rattle.dm_row.specs.declared.item.Passed.{Passed}
use Rattle.dm_row.specs.declared.item.Ahead.{Ahead}
use Rattle.dm_row.specs.declared.row.Left.{Left}
use Rattle.dm_row.specs.declared.row.Right.{Right}
use Rattle.dm_row.specs.Counts.{one_if, ready_in, results_after, passed, count_by, count_ahead, led, is_next_ready, weight_by, weight_in}
use Rattle.dm_row.specs.Sides.{items_left, items_right_before, items_right, none_passed, none_ahead, all_passed, all_led, AreKeptLeft, AreKeptRight, IsCounted}

at_most_one : (b : Bool) → one_if b ≤ 1
at_most_one true = omega arith
at_most_one false = omega arith

-- ---- in front of the place

results-by : {R N : Type 0} (counts : Passed) (item : Item R N) → (passed counts item).results ≤ counts.results + 1
results-by counts (Done result weight) = omega arith
results-by counts (Waits node operands) = omega arith

ready-by : {R N : Type 0} (counts : Passed) (item : Item R N) → (passed counts item).ready ≤ counts.ready + 1
ready-by counts (Done result weight) = omega arith
ready-by counts (Waits node operands) = let h = at_most_one (nat_le operands counts.results) in omega (arith, h)

pub results-few : {R N : Type 0} (counts : Passed) (left : List (Left R N)) → (all_passed counts left).results ≤ counts.results + length left
results-few counts [] = omega arith
results-few counts (one ∷ left) = let h = results-few (passed counts one.item) left in let k = results-by counts one.item in omega (arith, h, k)

pub ready-few : {R N : Type 0} (counts : Passed) (left : List (Left R N)) → (all_passed counts left).ready ≤ counts.ready + length left
ready-few counts [] = omega arith
ready-few counts (one ∷ left) = let h = ready-few (passed counts one.item) left in let k = ready-by counts one.item in omega (arith, h, k)

results-step : {R N : Type 0} (counts : Passed) (item : Item R N) (rest : List (Item R N)) → results_after (passed counts item).results rest ≡ results_after counts.results (item ∷ rest)
results-step counts (Done result weight) rest = ap (λ n. results_after n rest) (one-more counts.results)
  where
    one-more : (n : ℕ) → n + 1 ≡ suc n
    one-more n = omega arith
results-step counts (Waits node operands) rest = refl

pub results-passed : {R N : Type 0} (counts : Passed) (left : List (Left R N)) → (all_passed counts left).results ≡ results_after counts.results (items_left left)
results-passed counts [] = refl
results-passed counts (one ∷ left) = results-passed (passed counts one.item) left ∙ results-step counts one.item (items_left left)

ready-step : {R N : Type 0} (counts : Passed) (item : Item R N) (rest : List (Item R N))
    → (passed counts item).ready + ready_in (passed counts item).results rest ≡ counts.ready + ready_in counts.results (item ∷ rest)
ready-step counts (Done result weight) rest = ap (λ n. counts.ready + ready_in n rest) (one-more counts.results)
  where
    one-more : (n : ℕ) → n + 1 ≡ suc n
    one-more n = omega arith
ready-step counts (Waits node operands) rest = add_assoc counts.ready (one_if (nat_le operands counts.results)) (ready_in 0 rest)

pub ready-passed : {R N : Type 0} (counts : Passed) (left : List (Left R N)) → (all_passed counts left).ready ≡ counts.ready + ready_in counts.results (items_left left)
ready-passed counts [] = none-more counts.ready
  where
    none-more : (n : ℕ) → n ≡ n + 0
    none-more n = omega arith
ready-passed counts (one ∷ left) = ready-passed (passed counts one.item) left ∙ ready-step counts one.item (items_left left)

weight-step : {R N : Type 0} (counts : Passed) (item : Item R N) → (passed counts item).weight ≡ counts.weight + weight_by item
weight-step counts (Done result weight) = refl
weight-step counts (Waits node operands) = omega arith

pub weight-passed : {R N : Type 0} (counts : Passed) (left : List (Left R N)) → (all_passed counts left).weight ≡ counts.weight + weight_in (items_left left)
weight-passed counts [] = omega arith
weight-passed counts (one ∷ left) =
    weight-passed (passed counts one.item) left
    ∙ (ap (λ n. n + weight_in (items_left left)) (weight-step counts one.item) ∙ add_assoc counts.weight (weight_by one.item) (weight_in (items_left left)))

pub passed-push : {R N : Type 0} (counts : Passed) (left : List (Left R N)) (one : Left R N) → all_passed counts (left ++ one ∷ []) ≡ passed (all_passed counts left) one.item
passed-push counts [] one = refl
passed-push counts (first ∷ left) one = passed-push (passed counts first.item) left one

pub kept_left-push : {R N : Type 0} (counts : Passed) (left : List (Left R N)) (one : Left R N) → AreKeptLeft counts left → one.counts ≡ all_passed counts left → AreKeptLeft counts (left ++ one ∷ [])
kept_left-push counts [] one kept is = (is, tt)
kept_left-push counts (first ∷ left) one kept is = (kept.0, kept_left-push (passed counts first.item) left one kept.1 is)

pub kept_left-pop : {R N : Type 0} (counts : Passed) (left : List (Left R N)) (one : Left R N) → AreKeptLeft counts (left ++ one ∷ []) → AreKeptLeft counts left × (one.counts ≡ all_passed counts left)
kept_left-pop counts [] one kept = (tt, kept.0)
kept_left-pop counts (first ∷ left) one kept = let rest = kept_left-pop (passed counts first.item) left one kept.1 in ((kept.0, rest.0), rest.1)

pub left-push : {R N : Type 0} (left : List (Left R N)) (one : Left R N) → items_left (left ++ one ∷ []) ≡ items_left left ++ one.item ∷ []
left-push [] one = refl
left-push (first ∷ left) one = ap (λ rest. first.item ∷ rest) (left-push left one)

-- ---- behind the place

ahead_results-by : {R N : Type 0} (counts : Ahead) (item : Item R N) → (led counts item).results ≤ counts.results + 1
ahead_results-by counts (Done result weight) = omega arith
ahead_results-by counts (Waits node operands) = omega arith

pub count-few : (operands : Option ℕ) (results ready : ℕ) → count_by operands results ready ≤ ready + 1
count-few None results ready = omega arith
count-few (Some operands) results ready = let h = at_most_one (nat_le operands results) in omega (arith, h)

ahead_ready-by : {R N : Type 0} (counts : Ahead) (item : Item R N) → (led counts item).ready ≤ counts.ready + 1
ahead_ready-by counts (Done result weight) = omega arith
ahead_ready-by counts (Waits node operands) = count-few counts.operands (0 + counts.results) counts.ready

pub ahead_results-few : {R N : Type 0} (counts : Ahead) (right : List (Right R N)) → (all_led counts right).results ≤ counts.results + length right
ahead_results-few counts [] = omega arith
ahead_results-few counts (one ∷ right) = let h = ahead_results-few (led counts one.item) right in let k = ahead_results-by counts one.item in omega (arith, h, k)

pub ahead_ready-few : {R N : Type 0} (counts : Ahead) (right : List (Right R N)) → (all_led counts right).ready ≤ counts.ready + length right
ahead_ready-few counts [] = omega arith
ahead_ready-few counts (one ∷ right) = let h = ahead_ready-few (led counts one.item) right in let k = ahead_ready-by counts one.item in omega (arith, h, k)

count-step : {R N : Type 0} (counts : Ahead) (item : Item R N) (more : List (Item R N)) → ((results : ℕ) → ready_in results more ≡ count_ahead counts results)
    → (results : ℕ) → ready_in results (item ∷ more) ≡ count_ahead (led counts item) results
count-step counts (Done result weight) more counted results = counted (suc results) ∙ ap (λ n. count_by counts.operands n counts.ready) (moved results counts.results)
  where
    moved : (m n : ℕ) → suc m + n ≡ m + (n + 1)
    moved m n = omega arith
count-step counts (Waits node operands) more counted results = ap₂ (λ n others. one_if (nat_le operands n) + others) (none-more results) (counted 0)
  where
    none-more : (n : ℕ) → n ≡ n + 0
    none-more n = omega arith

count-from : {R N : Type 0} (counts : Ahead) (right : List (Right R N)) (more : List (Item R N)) → ((results : ℕ) → ready_in results more ≡ count_ahead counts results)
    → (results : ℕ) → ready_in results (items_right_before right more) ≡ count_ahead (all_led counts right) results
count-from counts [] more counted = counted
count-from counts (one ∷ right) more counted = count-from (led counts one.item) right (one.item ∷ more) (count-step counts one.item more counted)

pub ready-ahead : {R N : Type 0} (right : List (Right R N)) (results : ℕ) → ready_in results (items_right right) ≡ count_ahead (all_led none_ahead right) results
ready-ahead right results = count-from none_ahead right [] (λ n. refl) results

pub led-push : {R N : Type 0} (counts : Ahead) (right : List (Right R N)) (one : Right R N) → all_led counts (right ++ one ∷ []) ≡ led (all_led counts right) one.item
led-push counts [] one = refl
led-push counts (first ∷ right) one = led-push (led counts first.item) right one

pub kept_right-push : {R N : Type 0} (counts : Ahead) (right : List (Right R N)) (one : Right R N) → AreKeptRight counts right → one.counts ≡ all_led counts right → AreKeptRight counts (right ++ one ∷ [])
kept_right-push counts [] one kept is = (is, tt)
kept_right-push counts (first ∷ right) one kept is = (kept.0, kept_right-push (led counts first.item) right one kept.1 is)

pub kept_right-pop : {R N : Type 0} (counts : Ahead) (right : List (Right R N)) (one : Right R N) → AreKeptRight counts (right ++ one ∷ []) → AreKeptRight counts right × (one.counts ≡ all_led counts right)
kept_right-pop counts [] one kept = (tt, kept.0)
kept_right-pop counts (first ∷ right) one kept = let rest = kept_right-pop (led counts first.item) right one kept.1 in ((kept.0, rest.0), rest.1)

pub right-push : {R N : Type 0} (right : List (Right R N)) (one : Right R N) (more : List (Item R N)) → items_right_before (right ++ one ∷ []) more ≡ one.item ∷ items_right_before right more
right-push [] one more = refl
right-push (first ∷ right) one more = right-push right one (first.item ∷ more)

-- ---- both sides

pub ready-append : {R N : Type 0} (results : ℕ) (xs ys : List (Item R N)) → ready_in results (xs ++ ys) ≡ ready_in results xs + ready_in (results_after results xs) ys
ready-append results [] ys = none-before (ready_in results ys)
  where
    none-before : (n : ℕ) → n ≡ 0 + n
    none-before n = omega arith
ready-append results (Done result weight ∷ xs) ys = ready-append (suc results) xs ys
ready-append results (Waits node operands ∷ xs) ys =
    ap (λ n. one_if (nat_le operands results) + n) (ready-append 0 xs ys)
    ∙ sym (add_assoc (one_if (nat_le operands results)) (ready_in 0 xs) (ready_in (results_after 0 xs) ys))

pub results-append : {R N : Type 0} (results : ℕ) (xs ys : List (Item R N)) → results_after results (xs ++ ys) ≡ results_after (results_after results xs) ys
results-append results [] ys = refl
results-append results (Done result weight ∷ xs) ys = results-append (suc results) xs ys
results-append results (Waits node operands ∷ xs) ys = results-append 0 xs ys

-- ---- what is right of a row

module _ {R N : Type 0} (left : List (Left R N)) (counts : Passed) (right : List (Right R N)) (ahead : Ahead) (all : IsCounted left counts right ahead) where
  pub few-results : counts.results ≤ 4000000000
  few-results = let h = results-few none_passed left in let k = ap (λ (c : Passed). c.results) all.left_counted in let l = all.few_left in omega (arith, h, k, l)

  pub few-ready : counts.ready ≤ 4000000000
  few-ready = let h = ready-few none_passed left in let k = ap (λ (c : Passed). c.ready) all.left_counted in let l = all.few_left in omega (arith, h, k, l)

  pub few_ahead-results : ahead.results ≤ 4000000000
  few_ahead-results = let h = ahead_results-few none_ahead right in let k = ap (λ (c : Ahead). c.results) all.right_counted in let l = all.few_right in omega (arith, h, k, l)

  pub few_ahead-ready : ahead.ready ≤ 4000000000
  few_ahead-ready = let h = ahead_ready-few none_ahead right in let k = ap (λ (c : Ahead). c.ready) all.right_counted in let l = all.few_right in omega (arith, h, k, l)

  pub results-right : counts.results ≡ results_after 0 (items_left left)
  results-right = ap (λ (c : Passed). c.results) all.left_counted ∙ results-passed none_passed left

  pub ready-right : counts.ready ≡ ready_in 0 (items_left left)
  ready-right = ap (λ (c : Passed). c.ready) all.left_counted ∙ (ready-passed none_passed left ∙ none-before (ready_in 0 (items_left left)))
    where
      none-before : (n : ℕ) → 0 + n ≡ n
      none-before n = omega arith

  pub weight-right : counts.weight ≡ weight_in (items_left left)
  weight-right = ap (λ (c : Passed). c.weight) all.left_counted ∙ (weight-passed none_passed left ∙ none-before (weight_in (items_left left)))
    where
      none-before : (n : ℕ) → 0 + n ≡ n
      none-before n = omega arith

  pub ready-both : counts.ready + count_ahead ahead counts.results ≡ ready_in 0 (items_left left ++ items_right right)
  ready-both =
      ap₂ (λ m n. m + n) ready-right
      (ap (λ a. count_ahead a counts.results) all.right_counted ∙ (sym (ready-ahead right counts.results) ∙ ap (λ n. ready_in n (items_right right)) results-right))
      ∙ sym (ready-append 0 (items_left left) (items_right right))

  pub pushed-left : (item : Item R N) (new : List (Left R N)) (next : Passed) → length left < 4000000000
      → new ≡ left ++ record { item = item; counts = counts } ∷ [] → next ≡ passed counts item → IsCounted new next right ahead
  pushed-left item new next room is by = record {
    kept_left = subst (AreKeptLeft none_passed) (sym is) (kept_left-push none_passed left (record { item = item; counts = counts }) all.kept_left all.left_counted);
    left_counted = by ∙ (ap (λ c. passed c item) all.left_counted ∙ (sym (passed-push none_passed left (record { item = item; counts = counts })) ∙ ap (all_passed none_passed) (sym is)));
    few_left = let h = ap length is ∙ length-append left (record { item = item; counts = counts } ∷ []) in omega (arith, h, room);
    kept_right = all.kept_right;
    right_counted = all.right_counted;
    few_right = all.few_right;
  }

  pub pushed-right : (item : Item R N) (new : List (Right R N)) (next : Ahead) → length right < 4000000000
      → new ≡ right ++ record { item = item; counts = ahead } ∷ [] → next ≡ led ahead item → IsCounted left counts new next
  pushed-right item new next room is by = record {
    kept_left = all.kept_left;
    left_counted = all.left_counted;
    few_left = all.few_left;
    kept_right = subst (AreKeptRight none_ahead) (sym is) (kept_right-push none_ahead right (record { item = item; counts = ahead }) all.kept_right all.right_counted);
    right_counted = by ∙ (ap (λ c. led c item) all.right_counted ∙ (sym (led-push none_ahead right (record { item = item; counts = ahead })) ∙ ap (all_led none_ahead) (sym is)));
    few_right = let h = ap length is ∙ length-append right (record { item = item; counts = ahead } ∷ []) in omega (arith, h, room);
  }

  pub popped-left : (new : List (Left R N)) (one : Left R N) → left ≡ new ++ one ∷ [] → IsCounted new one.counts right ahead
  popped-left new one is =
      let kept = kept_left-pop none_passed new one (subst (AreKeptLeft none_passed) is all.kept_left) in
      record {
        kept_left = kept.0;
        left_counted = kept.1;
        few_left = let h = ap length is ∙ length-append new (one ∷ []) in let l = all.few_left in omega (arith, h, l);
        kept_right = all.kept_right;
        right_counted = all.right_counted;
        few_right = all.few_right;
      }

  pub popped-right : (new : List (Right R N)) (one : Right R N) → right ≡ new ++ one ∷ [] → IsCounted left counts new one.counts
  popped-right new one is =
      let kept = kept_right-pop none_ahead new one (subst (AreKeptRight none_ahead) is all.kept_right) in
      record {
        kept_left = all.kept_left;
        left_counted = all.left_counted;
        few_left = all.few_left;
        kept_right = kept.0;
        right_counted = kept.1;
        few_right = let h = ap length is ∙ length-append new (one ∷ []) in let l = all.few_right in omega (arith, h, l);
      }

-- ---- the items on both sides

pair-same : {A B : Type 0} {a c : A} {b d : B} → a ≡ c → b ≡ d → ◌≡◌ {A = A × B} (a, b) (c, d)
pair-same {A} {B} p q = ap₂ (λ (x : A) (y : B). let both : A × B = (x, y) in both) p q

module _ {R N : Type 0} (left : List (Left R N)) (right : List (Right R N)) (both : List (Item R N) × List (Item R N)) (is : (items_left left, items_right right) ≡ both) where
  first-side : items_left left ≡ both.0
  first-side = ap (λ (b : List (Item R N) × List (Item R N)). b.0) is

  second-side : items_right right ≡ both.1
  second-side = ap (λ (b : List (Item R N) × List (Item R N)). b.1) is

  pub sides-left : (new : List (Left R N)) (one : Left R N) → new ≡ left ++ one ∷ []
      → ◌≡◌ {A = List (Item R N) × List (Item R N)} (items_left new, items_right right) (both.0 ++ one.item ∷ [], both.1)
  sides-left new one pushed = pair-same (ap items_left pushed ∙ (left-push left one ∙ ap (λ a. a ++ one.item ∷ []) first-side)) second-side

  pub sides-right : (new : List (Right R N)) (one : Right R N) → new ≡ right ++ one ∷ []
      → ◌≡◌ {A = List (Item R N) × List (Item R N)} (items_left left, items_right new) (both.0, one.item ∷ both.1)
  sides-right new one pushed = pair-same first-side (ap items_right pushed ∙ (right-push right one [] ∙ ap (λ a. one.item ∷ a) second-side))

  pub sides-left_popped : (new : List (Left R N)) (one : Left R N) → left ≡ new ++ one ∷ [] → (both.0 ≡ items_left new ++ one.item ∷ []) × (items_right right ≡ both.1)
  sides-left_popped new one popped = (sym first-side ∙ (ap items_left popped ∙ left-push new one), second-side)

  pub sides-right_popped : (new : List (Right R N)) (one : Right R N) → right ≡ new ++ one ∷ [] → (both.1 ≡ one.item ∷ items_right new) × (items_left left ≡ both.0)
  sides-right_popped new one popped = (sym second-side ∙ (ap items_right popped ∙ right-push new one []), first-side)

  -- the nearest item behind the place
  pub nearest-waits : (rest : List (Right R N)) (one : Right R N) (node : N) (operands results : ℕ) → right ≡ rest ++ one ∷ [] → one.item ≡ Waits node operands
      → nat_le operands results ≡ is_next_ready results both.1
  nearest-waits rest one node operands results kept item = ap (is_next_ready results) (sym (sym second-side ∙ (ap items_right kept ∙ (right-push rest one [] ∙ ap (λ i. i ∷ items_right rest) item))))

  pub nearest-done : (rest : List (Right R N)) (one : Right R N) (result : R) (weight results : ℕ) → right ≡ rest ++ one ∷ [] → one.item ≡ Done result weight
      → false ≡ is_next_ready results both.1
  nearest-done rest one result weight results kept item = ap (is_next_ready results) (sym (sym second-side ∙ (ap items_right kept ∙ (right-push rest one [] ∙ ap (λ i. i ∷ items_right rest) item))))
