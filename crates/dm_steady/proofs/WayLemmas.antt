-- Ways to the operands that are unsequenced to what stands at a place.
--     beside_more      what is beside a place is beside each place in it
--     beside_within      what is beside a place in a tree is beside it in the whole
--     other_operand      the other operands of a node that leaves them unsequenced
use Rattle.std.specs.Prelude.{◌≡◌, refl, ◌⊎◌, ℕ, zero, suc, ◌+◌, ◌<◌, Bool, true, false, not, ◌==◌, List, [], ◌∷◌, ◌++◌, map, filter, length, Option, Some, None, option_and_then, if◌then◌else◌}
use Rattle.std.specs.List.{range_with_len}
use Rattle.std.proofs.Common.{ap, sym, ◌∙◌, subst, arith, inl, inr}
use Rattle.dm_tree.specs.Paths.{Path, tree_in, tree_at}
use Rattle.dm_tree.specs.Trees.{Tree, Trees, no_trees, more_trees, label_of, trees_of, listed, parts_of}
use Rattle.dm_meaning.specs.Among.{IsAmong}
use Rattle.dm_meaning.proofs.AmongLemmas.{among_left, among_right, among_either, among-map, among-map_from}
use Rattle.dm_meaning.proofs.OptionLemmas.{none_is_some, some_is_some}
use Rattle.dm_effect.specs.Sequencing.{is_unsequenced, others_of, below, beside}

-- ---- below a part

below_some : (n : ℕ) (find : Tree → List Path) (part : Tree) (found : Option Tree) (way : Path) → found ≡ Some part → IsAmong way (find part) → IsAmong (n ∷ way) (below n find found)
below_some n find part found way e l =
    subst (λ (o : Option Tree). IsAmong (n ∷ way) (below n find o)) (sym e) (among-map (λ (path : Path). n ∷ path) way (find part) l)

below_more : (n : ℕ) (find other : Tree → List Path) (found : Option Tree) (way : Path) → ((part : Tree) (rest : Path) → IsAmong rest (find part) → IsAmong rest (other part))
    → IsAmong way (below n find found) → IsAmong way (below n other found)
below_more n find other None way h l = l
below_more n find other (Some part) way h l =
    let from = among-map_from (λ (path : Path). n ∷ path) way (find part) l in
    subst (λ (w : Path). IsAmong w (map (λ (path : Path). n ∷ path) (other part))) (sym from.2) (among-map (λ (path : Path). n ∷ path) from.0 (other part) (h part from.0 from.1))

pub beside_more : (path rest : Path) (whole : Tree) (way : Path) → IsAmong way (beside path whole) → IsAmong way (beside (path ++ rest) whole)
beside_more [] rest whole way l = absurd l
beside_more (n ∷ path) rest whole way l = by_side (among_either way (below n (beside path) (tree_in (trees_of whole) n)) (others_of n whole) l) (λ part more. beside_more path rest part more)
  where
    by_side : IsAmong way (below n (beside path) (tree_in (trees_of whole) n)) ⊎ IsAmong way (others_of n whole)
        → ((part : Tree) (more : Path) → IsAmong more (beside path part) → IsAmong more (beside (path ++ rest) part)) → IsAmong way (beside (n ∷ (path ++ rest)) whole)
    by_side (inl k) h =
        among_left way (below n (beside (path ++ rest)) (tree_in (trees_of whole) n)) (others_of n whole) (below_more n (beside path) (beside (path ++ rest)) (tree_in (trees_of whole) n) way h k)
    by_side (inr k) h = among_right way (below n (beside (path ++ rest)) (tree_in (trees_of whole) n)) (others_of n whole) k

pub beside_within : (path rest : Path) (whole tree : Tree) (way : Path) → tree_at path whole ≡ Some tree → IsAmong way (beside rest tree) → IsAmong (path ++ way) (beside (path ++ rest) whole)
beside_within [] rest whole tree way e l = subst (λ (t : Tree). IsAmong way (beside rest t)) (sym (some_is_some whole tree e)) l
beside_within (n ∷ path) rest whole tree way e l = by_part (tree_in (trees_of whole) n) refl e (λ part k. beside_within path rest part tree way k l)
  where
    by_part : (found : Option Tree) → tree_in (trees_of whole) n ≡ found → option_and_then (tree_at path) found ≡ Some tree
        → ((part : Tree) → tree_at path part ≡ Some tree → IsAmong (path ++ way) (beside (path ++ rest) part)) → IsAmong (n ∷ (path ++ way)) (beside (n ∷ (path ++ rest)) whole)
    by_part None is k h = absurd (none_is_some tree k)
    by_part (Some part) is k h =
        among_left (n ∷ (path ++ way)) (below n (beside (path ++ rest)) (tree_in (trees_of whole) n)) (others_of n whole)
        (below_some n (beside (path ++ rest)) part (tree_in (trees_of whole) n) (path ++ way) is (h part k))

-- ---- other operands

few : (parts : Trees) (n : ℕ) (part : Tree) → tree_in parts n ≡ Some part → n < length (listed parts)
few no_trees n part e = absurd (none_is_some part e)
few (more_trees first rest) zero part e = omega arith
few (more_trees first rest) (suc n) part e = let less = few rest n part e in omega (arith, less)

in_range : (from count n : ℕ) → n < count → IsAmong (from + n) (range_with_len from count)
in_range from zero n less = absurd (omega (arith, less))
in_range from (suc count) zero less = inl (omega arith)
in_range from (suc count) (suc n) less =
    let same : (from + 1) + n ≡ from + suc n = omega arith in inr (subst (λ (m : ℕ). IsAmong m (range_with_len (from + 1) count)) same (in_range (from + 1) count n (omega (arith, less))))

kept : (test : ℕ → Bool) (items : List ℕ) (n : ℕ) → IsAmong n items → test n ≡ true → IsAmong n (filter test items)
kept test [] n l e = absurd l
kept test (first ∷ items) n (inl same) e =
    subst (λ (b : Bool). IsAmong n (if b then first ∷ filter test items else filter test items)) (sym (sym (ap test same) ∙ e)) (inl same)
kept test (first ∷ items) n (inr l) e = by_test (test first) (kept test items n l e)
  where
    by_test : (b : Bool) → IsAmong n (filter test items) → IsAmong n (if b then first ∷ filter test items else filter test items)
    by_test true k = inr k
    by_test false k = k

equal_nat : (a b : ℕ) → (a == b) ≡ true → a ≡ b
equal_nat a b e = grind (arith, e)

other_number : (k n : ℕ) → (k ≡ n → ⊥) → not (k == n) ≡ true
other_number k n differs = by_test (k == n) refl
  where
    by_test : (b : Bool) → (k == n) ≡ b → not b ≡ true
    by_test true e = absurd (differs (equal_nat k n e))
    by_test false e = refl

pub other_operand : (n k : ℕ) (whole part : Tree) → is_unsequenced (label_of whole) ≡ true → tree_in (trees_of whole) k ≡ Some part → (k ≡ n → ⊥) → IsAmong (k ∷ []) (beside (n ∷ []) whole)
other_operand n k whole part unsequenced e differs =
    let number : 0 + k ≡ k = omega arith in
    let among = subst (λ (m : ℕ). IsAmong m (range_with_len 0 (length (parts_of whole)))) number (in_range 0 (length (parts_of whole)) k (few (trees_of whole) k part e)) in
    among_right (k ∷ []) (below n (beside []) (tree_in (trees_of whole) n)) (others_of n whole)
    (subst (λ (b : Bool). IsAmong (k ∷ []) (if b then map (λ (m : ℕ). m ∷ []) (filter (λ (m : ℕ). not (m == n)) (range_with_len 0 (length (parts_of whole)))) else [])) (sym unsequenced)
    (among-map (λ (m : ℕ). m ∷ []) k (filter (λ (m : ℕ). not (m == n)) (range_with_len 0 (length (parts_of whole))))
    (kept (λ (m : ℕ). not (m == n)) (range_with_len 0 (length (parts_of whole))) k among (other_number k n differs))))
