-- Trees of which nothing is evaluated, and trees that are evaluated.
use Rattle.std.proofs.Common.{◌≡◌, ℕ, ◌≤◌, Bool, true, false, List, [], ◌++◌, map, length, Option, Some, None, refl, sym, ap, ap₂, ◌∙◌, arith}
use Rattle.std.proofs.lemmas.List.{length-append, length-map}
use Rattle.std.proofs.lemmas.Option.{none-some}
use Rattle.dm_token.specs.declared.place.Place.{Place}
use Rattle.dm_type.specs.CTypes.{CType}
use Rattle.dm_tree.specs.Trees.{Tree, Trees, node, no_trees, more_trees}
use Rattle.dm_meaning.specs.Running.{Doing, Run, done, to_do, Runs, no_runs, more_runs, begun, all_begun, locks_in, locks_in_all, Open, first_open, others_open, open_parts, Hole, within, Holes, in_first, in_others}
use Rattle.dm_meaning.specs.Expressions.{where_open}
use Rattle.dm_postfix.specs.Postfix.{Evaluated, Slots, closed_locks, with_slot, slots_of, items}
use Rattle.dm_postfix.specs.Reductions.{Ready, first_evaluated, evaluated_in, ready_or_inner, ready, ready_in, ready_count}
use Rattle.dm_postfix.proofs.ReductionLemmas.{prefixed, reduction_of, reductions-ready, reductions-counted}

-- ---- trees of which nothing is evaluated have no locks

mutual
  pub begun-locks : (tree : Tree) → locks_in (begun tree) ≡ []
  begun-locks (node label kind spans parts) = all_begun-locks parts

  pub all_begun-locks : (trees : Trees) → locks_in_all (all_begun trees) ≡ []
  all_begun-locks no_trees = refl
  all_begun-locks (more_trees first rest) = ap₂ (λ p q. p ++ q) (begun-locks first) (all_begun-locks rest)

closed-first : (opened : Bool) (first : Tree) (slots : Slots) → closed_locks slots ≡ [] → closed_locks (with_slot opened (begun first) slots) ≡ []
closed-first true first slots none = none
closed-first false first slots none = ap₂ (λ p q. p ++ q) (begun-locks first) none

-- nor have the parts of a node that aren't evaluated
pub closed-begun : (opens : Open) (trees : Trees) → closed_locks (slots_of opens (all_begun trees)) ≡ []
closed-begun opens no_trees = refl
closed-begun opens (more_trees first rest) = closed-first (first_open opens) first (slots_of (others_open opens) (all_begun rest)) (closed-begun (others_open opens) rest)

-- ---- a tree that isn't evaluated has a node that is ready

where-ready : (opened : Bool) (first : Run) (found : Option (List Evaluated)) (ready_first : List (Holes × Ready)) (ready_others : List (Holes × Ready))
    → first_evaluated opened first found ≡ None → ((doing : Doing) (kind : CType) (place : Place) (parts : Runs) → first ≡ to_do doing kind place parts → 1 ≤ length ready_first)
    → (found ≡ None → 1 ≤ length ready_others) → 1 ≤ length (where_open opened ready_first ++ ready_others)
where-ready true (done kind result locks) (Some others) mine theirs is own other = absurd (none-some _ (sym is))
where-ready true (done kind result locks) None mine theirs is own other =
    let h = length-append mine theirs in let k = other refl in omega (arith, h, k)
where-ready true (to_do doing kind place parts) found mine theirs is own other =
    let h = length-append mine theirs in let k = own doing kind place parts refl in omega (arith, h, k)
where-ready false first found mine theirs is own other = other is

own-or : (doing : Doing) (kind : CType) (place : Place) (parts : Runs) (found : Option (List Evaluated)) (inner : List (Holes × Ready)) → (found ≡ None → 1 ≤ length inner)
    → 1 ≤ length (ready_or_inner doing kind place parts found inner)
own-or doing kind place parts (Some all) inner below = omega arith
own-or doing kind place parts None inner below =
    let h = length-map {B = Hole × Ready} inner (λ one. (within doing kind place one.0, one.1)) in let k = below refl in omega (arith, h, k)

first-of : (first : Run) (rest : Runs) (n : ℕ) → n ≤ length (ready first) → n ≤ length (map {B = Holes × Ready} (λ one. (in_first one.0 rest, one.1)) (ready first))
first-of first rest n h = let k = length-map {B = Holes × Ready} (ready first) (λ one. (in_first one.0 rest, one.1)) in omega (arith, h, k)

others-of : (first : Run) (found : List (Holes × Ready)) (n : ℕ) → n ≤ length found → n ≤ length (map {B = Holes × Ready} (λ one. (in_others first one.0, one.1)) found)
others-of first found n h = let k = length-map {B = Holes × Ready} found (λ one. (in_others first one.0, one.1)) in omega (arith, h, k)

-- whether a tree isn't evaluated
abbrev IsToDo : Run → Type 0
IsToDo (done kind result locks) = ⊥
IsToDo (to_do doing kind place parts) = Unit {0}

to-do-is : (first : Run) (doing : Doing) (kind : CType) (place : Place) (parts : Runs) → first ≡ to_do doing kind place parts → IsToDo first
to-do-is (done kind result locks) doing kind' place parts is = absurd (cc)
to-do-is (to_do doing kind place parts) doing' kind' place' parts' is = tt

mutual
  pub some-ready : (run : Run) → IsToDo run → 1 ≤ length (ready run)
  some-ready (done kind result locks) h = absurd h
  some-ready (to_do doing kind place parts) h =
      own-or doing kind place parts (evaluated_in (open_parts doing) parts) (ready_in (open_parts doing) parts) (some-ready_in (open_parts doing) parts)

  some-ready_in : (opens : Open) (parts : Runs) → evaluated_in opens parts ≡ None → 1 ≤ length (ready_in opens parts)
  some-ready_in opens no_runs is = absurd (none-some [] (sym is))
  some-ready_in opens (more_runs first rest) is =
      where-ready (first_open opens) first (evaluated_in (others_open opens) rest) (map (λ one. (in_first one.0 rest, one.1)) (ready first))
      (map (λ one. (in_others first one.0, one.1)) (ready_in (others_open opens) rest)) is
      (λ doing kind place parts to. first-of first rest 1 (some-ready first (to-do-is first doing kind place parts to)))
      (λ none. others-of first (ready_in (others_open opens) rest) 1 (some-ready_in (others_open opens) rest none))

ready-counted : (run : Run) → length (ready run) ≡ ready_count 0 (items run)
ready-counted run =
    sym (length-map (ready run) (λ one. prefixed [] (reduction_of one)))
    ∙ (ap length (sym (reductions-ready [] 0 run)) ∙ reductions-counted [] 0 (items run))

-- where no node is ready, the tree is evaluated
pub none-ready : (run : Run) → ready_count 0 (items run) ≡ 0 → (one : Evaluated) × (run ≡ done one.kind one.result one.locks)
none-ready (done kind result locks) none = (record { kind = kind; result = result; locks = locks }, refl)
none-ready (to_do doing kind place parts) none =
    let h = some-ready (to_do doing kind place parts) tt in let k = ready-counted (to_do doing kind place parts) in absurd (omega (arith, h, k, none))
