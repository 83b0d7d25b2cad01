-- Inside a stable argument everything is stable.
--     all_beside_first      what holds of the trees before a part, behind it and beside its node holds of those beside the part
--     still_stable      a part of a tree that is stable beside others is stable beside them and other parts
use Rattle.std.specs.Prelude.{Bool, true, false, List, [], ◌∷◌, ◌++◌, if◌then◌else◌}
use Rattle.std.specs.List.{AllByRecursion}
use Rattle.dm_runs.specs.declared.run.Run.{Run}
use Rattle.dm_tree.specs.Trees.{Tree, Trees, no_trees, more_trees, listed}
use Rattle.dm_meaning.specs.Among.{IsAmong}
use Rattle.dm_meaning.specs.Running.{Open, first_open, others_open}
use Rattle.dm_agree.specs.Agreement.{Left, AllLeft}
use Rattle.dm_late.specs.Late.{Judged, IsStable, open_trees, beside_first, before_others, trees_left}
use Rattle.dm_standing.proofs.RunLemmas.{all_append, all_weaker}
use Rattle.dm_steady.proofs.PartLemmas.{IsPartOf, itself}
use Rattle.dm_steady.proofs.SeatLemmas.{all_among}
use Rattle.dm_steady.proofs.StableLemmas.{IsCovered, pure, within, pure_part, stable_beside}

-- ---- lists of trees

module _ (P : Tree → Type 0) where
  all_opened : (opens : Open) (trees : Trees) → AllByRecursion P (listed trees) → AllByRecursion P (open_trees opens trees)
  all_opened opens no_trees h = tt
  all_opened opens (more_trees first rest) h = by_open (first_open opens) (all_opened (others_open opens) rest h.1)
    where
      by_open : (b : Bool) → AllByRecursion P (open_trees (others_open opens) rest) → AllByRecursion P ((if b then first ∷ [] else []) ++ open_trees (others_open opens) rest)
      by_open true k = (h.0, k)
      by_open false k = k

  pub all_beside_first : (opens : Open) (before outside : List Tree) (rest : Trees) → AllByRecursion P before → AllByRecursion P (listed rest) → AllByRecursion P outside
      → AllByRecursion P (beside_first opens before outside rest)
  all_beside_first opens before outside rest h k l = by_open (first_open opens)
    where
      by_open : (b : Bool) → AllByRecursion P (if b then before ++ (open_trees (others_open opens) rest ++ outside) else outside)
      by_open true =
          all_append P before (open_trees (others_open opens) rest ++ outside) h
          (all_append P (open_trees (others_open opens) rest) outside (all_opened (others_open opens) rest k) l)
      by_open false = l

  pub all_before : (opens : Open) (before : List Tree) (first : Tree) → AllByRecursion P before → P first → AllByRecursion P (before_others opens before first)
  all_before opens before first h k = by_open (first_open opens)
    where
      by_open : (b : Bool) → AllByRecursion P (if b then before ++ first ∷ [] else before)
      by_open true = all_append P before (first ∷ []) h (k, tt)
      by_open false = h

  pub all_trees_left : (lefts : List Left) → AllByRecursion (λ (left : Left). P left.tree) lefts → AllByRecursion P (trees_left lefts)
  all_trees_left [] h = tt
  all_trees_left (left ∷ lefts) h = (h.0, all_trees_left lefts h.1)

pub all_left : (R : List Run → Tree → Type 0) (P : Left → Type 0) → ((left : Left) → P left → R left.runs left.tree) → (lefts : List Left) → AllByRecursion P lefts → AllLeft R lefts
all_left R P f [] h = tt
all_left R P f (left ∷ lefts) h = (f left h.0, all_left R P f lefts h.1)

-- ---- inside

-- what stands in others too, or neither stores nor calls
same_covered : (all trees : List Tree) → AllByRecursion (λ (tree : Tree). IsAmong tree all) trees → AllByRecursion (IsCovered all) trees
same_covered all trees h = all_weaker (λ (tree : Tree). IsAmong tree all) (IsCovered all) (λ tree l. within tree l (itself tree)) trees h

module _ (judged : Judged) (outside : List Tree) (whole : Tree) (stable : IsStable judged outside whole) where
  -- parts of a tree that neither stores nor calls
  pub pure_ones : (trees : List Tree) → AllByRecursion (λ (tree : Tree). IsPartOf tree whole) trees → AllByRecursion (IsCovered outside) trees
  pure_ones trees h = all_weaker (λ (tree : Tree). IsPartOf tree whole) (IsCovered outside) (λ tree part. pure (pure_part tree whole part stable.0)) trees h

  pub outside_ones : AllByRecursion (IsCovered outside) outside
  outside_ones = same_covered outside outside (all_among outside)

  pub still_stable : (trees : List Tree) → AllByRecursion (IsCovered outside) trees → (part : Tree) → IsPartOf part whole → IsStable judged trees part
  still_stable trees covered part is = stable_beside judged outside trees covered whole part is stable
