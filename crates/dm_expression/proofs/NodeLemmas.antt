-- The locks that the step of a node sees.
use Rattle.std.proofs.Common.{◌≡◌, ℕ, suc, ◌+◌, ◌-◌, List, [], ◌∷◌, ◌++◌, map, length, take, drop, refl, sym, ap, ap₂, subst, ◌∙◌, arith}
use Rattle.std.proofs.lemmas.List.{length-drop, take-append-drop, map-append}
use Rattle.dm_type.specs.Tables.{Table}
use Rattle.dm_tree.specs.declared.tree.Core as q
use Rattle.dm_tree.specs.Trees.{Tree, node}
use Rattle.dm_tree.specs.Views.{view}
use Rattle.dm_meaning.specs.Values.{At}
use Rattle.dm_meaning.specs.Running.{Run, locks_in, locks_in_all, open_of}
use Rattle.dm_row.specs.declared.item.Item.{Item}
use Rattle.dm_row.specs.declared.item.Item.TheVariants.{Done, Waits}
use Rattle.dm_row.specs.Counts.{weight_in}
use Rattle.dm_postfix.specs.Postfix.{Evaluated, Slots, no_slots, operand, closed, arity, closed_locks, locks_of, AreUnlocked}
use Rattle.dm_postfix.specs.Reductions.{filled}
use Rattle.dm_postfix.proofs.BegunLemmas.{closed-begun}
use Rattle.dm_postfix.proofs.HoleLemmas.{locks-items}
use Rattle.dm_expression.specs.declared.waiting.Doing.{Doing}
use Rattle.dm_expression.specs.declared.waiting.Doing.TheVariants.{Evaluates, GivesTruth, GivesValue}
use Rattle.dm_expression.specs.declared.waiting.Waiting.{Waiting}
use Rattle.dm_expression.specs.Left.{seen}
use Rattle.dm_expression.specs.Standing.{viewed, Stands}
use Rattle.dm_expression.specs.Taken.{dones}
use Rattle.dm_expression.specs.Waiting.{waiting_of}

-- ---- locks

-- those of results, in order
abbrev pub locks_all : List Evaluated → List At
locks_all [] = []
locks_all (one ∷ rest) = one.locks ++ locks_all rest

none-first : {X : Type 0} (xs ys : List X) → xs ++ ys ≡ [] → xs ≡ []
none-first [] ys e = refl
none-first (x ∷ xs) ys e = absurd (cc)

none-second : {X : Type 0} (xs ys : List X) → xs ++ ys ≡ [] → ys ≡ []
none-second [] ys e = e
none-second (x ∷ xs) ys e = absurd (cc)

-- the parts of a node have the locks of its operands
pub filled-locks : (slots : Slots) (all : List Evaluated) → closed_locks slots ≡ [] → arity slots ≡ length all → locks_in_all (filled slots all) ≡ locks_all all
filled-locks no_slots [] none size = refl
filled-locks no_slots (one ∷ all) none size = absurd (differ (length all) size)
  where
    differ : (n : ℕ) → 0 ≡ suc n → ⊥
    differ n e = omega (arith, e)
filled-locks (operand slots) [] none size = absurd (differ (arity slots) size)
  where
    differ : (n : ℕ) → suc n ≡ 0 → ⊥
    differ n e = omega (arith, e)
filled-locks (operand slots) (one ∷ all) none size = ap (λ rest. one.locks ++ rest) (filled-locks slots all none (fewer (arity slots) (length all) size))
  where
    fewer : (m n : ℕ) → suc m ≡ suc n → m ≡ n
    fewer m n e = omega (arith, e)
filled-locks (closed run slots) all none size =
    ap (λ first. first ++ locks_in_all (filled slots all)) (none-first (locks_in run) (closed_locks slots) none)
    ∙ filled-locks slots all (none-second (locks_in run) (closed_locks slots) none) size

-- the parts of a node of the code that aren't evaluated have none
pub closed-core : (doing : Doing) (tree : Tree) → closed_locks (waiting_of doing tree).slots ≡ []
closed-core Evaluates (node label kind spans parts) = closed-begun (open_of label) parts
closed-core GivesTruth (node label kind spans parts) = refl
closed-core GivesValue (node label kind spans parts) = refl

pub viewed-unlocked : {R L : Type 0} (see : R → List L → Evaluated) (types : Table) (locks : List L) (xs : List (Item R Waiting)) → AreUnlocked (viewed see types locks xs)
viewed-unlocked see types locks [] = tt
viewed-unlocked see types locks (Done result weight ∷ xs) = viewed-unlocked see types (drop weight locks) xs
viewed-unlocked see types locks (Waits one operands ∷ xs) = (closed-core one.doing (view types one.node.now), viewed-unlocked see types locks xs)

all-taken : {L : Type 0} (locks : List L) → 0 ≡ length locks → locks ≡ []
all-taken [] e = refl
all-taken (lock ∷ locks) e = absurd (differ (length locks) e)
  where
    differ : (n : ℕ) → 0 ≡ suc n → ⊥
    differ n e = omega (arith, e)

left-over : (w n m k : ℕ) → w + n ≡ m → k ≡ m - w → n ≡ k
left-over w n m k e f = omega (arith, e, f)

-- what results see of their locks
module _ {R L : Type 0} (see : R → List L → Evaluated) (lock_view : L → At) (saw : (result : R) (locks : List L) → (see result locks).locks ≡ map lock_view locks) where
  -- the locks of items are those of the expression
  pub viewed-locks : (types : Table) (locks : List L) (xs : List (Item R Waiting)) → weight_in xs ≡ length locks → locks_of (viewed see types locks xs) ≡ map lock_view locks
  viewed-locks types locks [] e = ap (map lock_view) (sym (all-taken locks e))
  viewed-locks types locks (Done result weight ∷ xs) e =
      ap₂ (λ p q. p ++ q) (saw result (take weight locks)) (viewed-locks types (drop weight locks) xs (left-over weight (weight_in xs) (length locks) (length (drop weight locks)) e (length-drop weight locks)))
      ∙ (sym (map-append lock_view (take weight locks) (drop weight locks)) ∙ ap (map lock_view) (take-append-drop weight locks))
  viewed-locks types locks (Waits one operands ∷ xs) e = viewed-locks types locks xs (sym (none-more (weight_in xs)) ∙ e)
    where
      none-more : (n : ℕ) → 0 + n ≡ n
      none-more n = omega arith

  -- those of operands are their own
  pub seen-locks : (own : List L) (pairs : List (R × ℕ)) → weight_in (dones {N = Waiting} pairs) ≡ length own → locks_all (seen see own pairs) ≡ map lock_view own
  seen-locks own [] e = ap (map lock_view) (sym (all-taken own e))
  seen-locks own (one ∷ pairs) e =
      ap₂ (λ p q. p ++ q) (saw one.0 (take one.1 own)) (seen-locks (drop one.1 own) pairs (left-over one.1 (weight_in (dones {N = Waiting} pairs)) (length own) (length (drop one.1 own)) e (length-drop one.1 own)))
      ∙ (sym (map-append lock_view (take one.1 own) (drop one.1 own)) ∙ ap (map lock_view) (take-append-drop one.1 own))

  -- The locks of the tree are those of the expression.
  pub locks-stand : (types : Table) (row : List (Item R Waiting) × List (Item R Waiting)) (locks : List L) (run : Run) → Stands see types row locks run → locks_in run ≡ map lock_view locks
  locks-stand types row locks run h =
      sym (locks-items run (subst AreUnlocked h.same (viewed-unlocked see types locks (row.0 ++ row.1))))
      ∙ (ap locks_of (sym h.same) ∙ viewed-locks types locks (row.0 ++ row.1) h.weighed)
