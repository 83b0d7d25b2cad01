-- The operands beside those on a way, level by level.
use Rattle.std.proofs.Common.{◌≡◌, ℕ, zero, suc, ◌+◌, ◌-◌, Bool, true, false, cond, not, ◌==◌, List, [], ◌∷◌, ◌++◌, map, filter, length, take, Some, None, append_assoc, length-append, refl, ap, sym, ◌∙◌, arith}
use Rattle.std.specs.List.{range_with_len}
use Rattle.std.specs.Prelude.{reverse}
use Rattle.std.proofs.Math.Seq.{take-append_seam}
use Rattle.std.proofs.lemmas.List.{map-append, reverse-append, reverse-reverse}
use Rattle.std.proofs.lemmas.List.Elements.{filter-append}
use Rattle.dm_type.specs.Tables.{Table}
use Rattle.dm_tree.specs.declared.tree.Core.{Core, out-Core}
use Rattle.dm_tree.specs.declared.tree.Form.TheVariants as form
use Rattle.dm_tree.specs.Paths.{Path, tree_in}
use Rattle.dm_tree.specs.Trees as label
use Rattle.dm_tree.specs.Trees.{Tree, listed, trees, trees_of}
use Rattle.dm_tree.specs.Views.{opened, view}
use Rattle.dm_effect.specs.Operands.{others_by, previous}
use Rattle.dm_effect.specs.Sequencing.{below, beside, others_of}
use Rattle.dm_effect.proofs.EffectLemmas.{opened-Call, seen-as}

range-last : (a n : ℕ) → range_with_len a (n + 1) ≡ range_with_len a n ++ (a + n) ∷ []
range-last a zero = let e : a ≡ a + 0 = omega arith in ap (λ (k : ℕ). k ∷ []) e
range-last a (suc n) =
    let e : suc n + 1 ≡ suc (n + 1) = omega arith in
    let f : (a + 1) + n ≡ a + suc n = omega arith in
    ap (range_with_len a) e ∙ ap (λ rest. a ∷ rest) (range-last (a + 1) n ∙ ap (λ (k : ℕ). range_with_len (a + 1) n ++ k ∷ []) f)

-- ways that go on from one
abbrev pub onto : Path → List Path → List Path
onto front ways = map (λ (way : Path). front ++ way) ways

abbrev pub steps : List ℕ → List Path
steps numbers = map (λ k. k ∷ []) numbers

abbrev pub is_other : ℕ → ℕ → Bool
is_other n k = not (k == n)

before-last : (n operand : ℕ) → steps (filter (is_other n) (range_with_len 0 operand)) ≡ others_by n (previous operand)
before-last n zero = refl
before-last n (suc k) = let e : suc k ≡ k + 1 = omega arith in ap (λ (m : ℕ). steps (filter (is_other n) (range_with_len 0 m))) e

pub others-last : (n operand : ℕ) → others_by n (Some operand) ≡ others_by n (previous operand) ++ steps (filter (is_other n) (operand ∷ []))
others-last n operand =
    let e : 0 + operand ≡ operand = omega arith in
    ap (λ (numbers : List ℕ). steps (filter (is_other n) numbers)) (range-last 0 operand ∙ ap (λ (k : ℕ). range_with_len 0 operand ++ k ∷ []) e)
    ∙ (ap steps (filter-append (is_other n) (range_with_len 0 operand) (operand ∷ []))
    ∙ (map-append (λ k. k ∷ []) (filter (is_other n) (range_with_len 0 operand)) (filter (is_other n) (operand ∷ []))
    ∙ ap (λ ways. ways ++ steps (filter (is_other n) (operand ∷ []))) (before-last n operand)))

reversed-last : (front : Path) (n operand : ℕ) → reverse (onto front (others_by n (Some operand)))
    ≡ reverse (onto front (steps (filter (is_other n) (operand ∷ [])))) ++ reverse (onto front (others_by n (previous operand)))
reversed-last front n operand =
    ap (λ ways. reverse (onto front ways)) (others-last n operand)
    ∙ (ap reverse (map-append (λ (way : Path). front ++ way) (others_by n (previous operand)) (steps (filter (is_other n) (operand ∷ []))))
    ∙ reverse-append (onto front (others_by n (previous operand))) (onto front (steps (filter (is_other n) (operand ∷ [])))))

pub one-more : (found : List Path) (front : Path) (n operand : ℕ) → (operand == n) ≡ false
    → (found ++ (front ++ operand ∷ []) ∷ []) ++ reverse (onto front (others_by n (previous operand))) ≡ found ++ reverse (onto front (others_by n (Some operand)))
one-more found front n operand other =
    append_assoc found ((front ++ operand ∷ []) ∷ []) (reverse (onto front (others_by n (previous operand))))
    ∙ ap (λ ways. found ++ ways) (sym (reversed-last front n operand
    ∙ ap (λ b. reverse (onto front (steps (cond (not b) (operand ∷ []) []))) ++ reverse (onto front (others_by n (previous operand)))) other))

pub none-more : (found : List Path) (front : Path) (n operand : ℕ) → (operand == n) ≡ true
    → found ++ reverse (onto front (others_by n (previous operand))) ≡ found ++ reverse (onto front (others_by n (Some operand)))
none-more found front n operand same =
    ap (λ ways. found ++ ways) (sym (reversed-last front n operand
    ∙ ap (λ b. reverse (onto front (steps (cond (not b) (operand ∷ []) []))) ++ reverse (onto front (others_by n (previous operand)))) same))

-- ---- the operands of a call

listed-length : (types : Table) (all : List Core) → length (listed (trees (map (view types) all))) ≡ length all
listed-length types [] = refl
listed-length types (first ∷ all) = omega (arith, listed-length types all)

pub call-others : (types : Table) (core a : Core) (arguments : List Core) (n : ℕ) → (out-Core core).form ≡ form.Call a arguments → others_of n (view types core) ≡ others_by n (Some (length arguments))
call-others types core a arguments n is =
    let e : length (view types a ∷ listed (trees (map (view types) arguments))) ≡ length arguments + 1 = omega (arith, listed-length types arguments) in
    seen-as types core (others_of n) (form.Call a arguments) (opened label.call (view types a ∷ map (view types) arguments)) is (opened-Call types a arguments)
    ∙ ap (λ (m : ℕ). steps (filter (is_other n) (range_with_len 0 m))) e

-- ---- one level

onto-append : (front : Path) (ways others : List Path) → onto front (ways ++ others) ≡ onto front ways ++ onto front others
onto-append front ways others = map-append (λ (way : Path). front ++ way) ways others

onto-below : (front : Path) (n : ℕ) (ways : List Path) → onto front (map (λ (way : Path). n ∷ way) ways) ≡ onto (front ++ n ∷ []) ways
onto-below front n [] = refl
onto-below front n (way ∷ ways) = ap (λ first. first ∷ onto front (map (λ (way : Path). n ∷ way) ways)) (sym (append_assoc front (n ∷ []) way)) ∙ ap (λ rest. ((front ++ n ∷ []) ++ way) ∷ rest) (onto-below front n ways)

level : (front way rest : Path) (n : ℕ) (tree : Tree) (found : List Path) → way ≡ n ∷ rest
    → onto front (beside way tree) ++ reverse found ≡ onto front (below n (beside rest) (tree_in (trees_of tree) n)) ++ reverse (found ++ reverse (onto front (others_of n tree)))
level front way rest n tree found is =
    let deeper = below n (beside rest) (tree_in (trees_of tree) n) in
    ap (λ them. onto front (beside them tree) ++ reverse found) is
    ∙ (ap (λ ways. ways ++ reverse found) (onto-append front deeper (others_of n tree))
    ∙ (append_assoc (onto front deeper) (onto front (others_of n tree)) (reverse found)
    ∙ ap (λ ways. onto front deeper ++ ways) (sym (reverse-append found (reverse (onto front (others_of n tree))) ∙ ap (λ ways. ways ++ reverse found) (reverse-reverse (onto front (others_of n tree)))))))

pub level-below : (front way rest : Path) (n : ℕ) (tree part : Tree) (found : List Path) → way ≡ n ∷ rest → tree_in (trees_of tree) n ≡ Some part
    → onto (front ++ n ∷ []) (beside rest part) ++ reverse (found ++ reverse (onto front (others_of n tree))) ≡ onto front (beside way tree) ++ reverse found
level-below front way rest n tree part found is there =
    sym (level front way rest n tree found is
    ∙ ap (λ ways. ways ++ reverse (found ++ reverse (onto front (others_of n tree)))) (ap (λ found. onto front (below n (beside rest) found)) there ∙ onto-below front n (beside rest part)))

pub level-last : (front way rest : Path) (n : ℕ) (tree : Tree) (found : List Path) → way ≡ n ∷ rest → tree_in (trees_of tree) n ≡ None
    → reverse (found ++ reverse (onto front (others_of n tree))) ≡ onto front (beside way tree) ++ reverse found
level-last front way rest n tree found is none =
    sym (level front way rest n tree found is ∙ ap (λ part. onto front (below n (beside rest) part) ++ reverse (found ++ reverse (onto front (others_of n tree)))) none)

pub no-level : (front way : Path) (tree : Tree) (found : List Path) → length way ≡ 0 → reverse found ≡ onto front (beside way tree) ++ reverse found
no-level front [] tree found h = refl
no-level front (n ∷ way) tree found h = absurd (omega arith)

pub front-is : (front way whole : Path) → front ++ way ≡ whole → take (length whole - length way) whole ≡ front
front-is front way whole is =
    let e : length (front ++ way) - length way ≡ length front = omega (arith, length-append front way) in
    ap (λ them. take (length them - length way) them) (sym is)
    ∙ (ap (λ (n : ℕ). take n (front ++ way)) e ∙ take-append_seam front way)

pub way-on : (front way rest whole : Path) (n : ℕ) → front ++ way ≡ whole → way ≡ n ∷ rest → (front ++ n ∷ []) ++ rest ≡ whole
way-on front way rest whole n is next = append_assoc front (n ∷ []) rest ∙ (ap (λ them. front ++ them) (sym next) ∙ is)

pub onto-nothing : (ways : List Path) → onto [] ways ≡ ways
onto-nothing [] = refl
onto-nothing (way ∷ ways) = ap (λ rest. way ∷ rest) (onto-nothing ways)
