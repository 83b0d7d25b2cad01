-- What stands for a parameter, and how often the added function's expression names it.
use Rattle.std.specs.Prelude.{◌≡◌, refl, ◌⊎◌, ℕ, suc, ◌+◌, List, [], ◌∷◌, Some, if◌then◌else◌}
use Rattle.std.proofs.Common.{arith, ap, ◌∙◌, inl, inr}
use Rattle.dm_type.specs.CTypes.{CType}
use Rattle.dm_tree.specs.Trees.{Label, object, read, Spans, node, no_trees, more_trees}
use Rattle.dm_meaning.specs.Among.{IsAmong}
use Rattle.dm_meaning.specs.Values.{At}
use Rattle.dm_meaning.specs.Running.{Doing, evaluates, gives_truth, gives_value, Run, Runs, no_runs, more_runs, locks_in, locks_in_all, here, Holes, in_first, in_others, all_filled_in}
use Rattle.dm_meaning.specs.Replaced.{relabelled}
use Rattle.dm_meaning.specs.Called.{Called}
use Rattle.dm_meaning.specs.CalledWithAll.{given, times_here, times_named}
use Rattle.dm_meaning.proofs.AmongLemmas.{among_either}
use Rattle.dm_meaning.proofs.RunLemmas.{redone}
use Rattle.dm_meaning.proofs.GrowLemmas.{equal_is, differ_is}

-- runs as a list
abbrev pub run_list : Runs → List Run
run_list no_runs = []
run_list (more_runs first rest) = first ∷ run_list rest

-- ---- lists

-- the first, and another one
pub given_first : {A : Type 0} (p : ℕ) (ps : List ℕ) (x : A) (xs : List A) → given (p ∷ ps) (x ∷ xs) p ≡ Some x
given_first p ps x xs = ap (λ b. if b then Some x else given ps xs p) (equal_is p p refl)

pub given_later : {A : Type 0} (p : ℕ) (ps : List ℕ) (x : A) (xs : List A) (d : ℕ) → (p ≡ d → ⊥) → given (p ∷ ps) (x ∷ xs) d ≡ given ps xs d
given_later p ps x xs d differ = ap (λ b. if b then Some x else given ps xs d) (differ_is p d differ)

-- ---- how often a parameter is named

-- the form of a node
abbrev pub label_in : Doing → Label
label_in (evaluates label) = label
label_in gives_truth = read
label_in gives_value = read

module _ (change : Called) (d : ℕ) (own : (c : ℕ) → change.rename c ≡ d → ⊥) where
  -- the old program's names are others
  pub renamed_elsewhere : (label : Label) → times_here d (relabelled change.rename label) ≡ 0
  renamed_elsewhere (object c) = ap (λ b. if b then 1 else 0) (differ_is (change.rename c) d (own c))
  renamed_elsewhere label = refl

  pub doing_elsewhere : (label : Label) (doing : Doing) → evaluates label ≡ redone change.rename doing → times_here d label ≡ 0
  doing_elsewhere label (evaluates other) e = ap (times_here d) (ap label_in e) ∙ renamed_elsewhere other
  doing_elsewhere label gives_truth e = absurd (cc)
  doing_elsewhere label gives_value e = absurd (cc)

-- a parameter that is read is named
pub reading_named : (d p : ℕ) (kind named_kind : CType) (spans named_spans : Spans) → p ≡ d
    → times_named d (node read kind spans (more_trees (node (object p) named_kind named_spans no_trees) no_trees)) ≡ 1
reading_named d p kind named_kind spans named_spans e = ap (λ b. (0 + (((if b then 1 else 0) + 0) + 0))) (equal_is p d e)

-- ---- the place of a part of an argument

pub suc_same : (m n : ℕ) → suc m ≡ suc n → m ≡ n
suc_same m n e = omega (arith, e)

-- ---- steps and locks of arguments

-- a lock of one of several runs
pub record IsLockOf (runs : Runs) (lock : At) : Type 0 where
  pub holes : Holes
  pub run : Run
  pub is : runs ≡ all_filled_in holes run
  pub among : IsAmong lock (locks_in run)

pub lock_of : (runs : Runs) (lock : At) → IsAmong lock (locks_in_all runs) → IsLockOf runs lock
lock_of no_runs lock h = absurd h
lock_of (more_runs first rest) lock h = by_either (among_either lock (locks_in first) (locks_in_all rest) h) (lock_of rest lock)
  where
    by_either : IsAmong lock (locks_in first) ⊎ IsAmong lock (locks_in_all rest) → (IsAmong lock (locks_in_all rest) → IsLockOf rest lock) → IsLockOf (more_runs first rest) lock
    by_either (inl k) later = record { holes = in_first here rest; run = first; is = refl; among = k }
    by_either (inr k) later =
        let there = later k in
        record { holes = in_others first there.holes; run = there.run; is = ap (more_runs first) there.is; among = there.among }
