-- Where the places inside expressions end.
use Rattle.std.proofs.Common.{◌≡◌, ℕ, zero, suc, ◌+◌, ◌<◌, ◌≤◌, ◌==◌, Bool, true, false, slice_set, List, [], ◌∷◌, ◌++◌, length, drop, Some, slice_get, append_assoc, refl, sym, ap, ◌∙◌, arith}
use Rattle.std.proofs.lemmas.Bool.{eqb-false}
use Rattle.std.proofs.lemmas.Bool.Decides.{Decides-eqb}
use Rattle.dm_tree.specs.Paths.{nodes_in}
use Rattle.dm_tree.specs.Trees.{Label, Spans, Tree, label_of, spans_of, parts_of}
use Rattle.dm_tree.specs.Units.{Declaration, TypedUnit}
use Rattle.dm_meaning.specs.Wholes.{all_expressions}
use Rattle.dm_sites.specs.Sites.{Site, operand_site, operand_sites, sites_in, all_sites, sites_of_unit}
use Rattle.dm_around.specs.Places.{ArePlain, nodes_before, number_at, jumps}
use Rattle.dm_around.proofs.WalkLemmas.{head-at, drop-front, first-expression, expression-parts, nodes-whole, sites-of, site-nodes}
use Rattle.dm_around.proofs.RootLemmas.{place-within}

-- the ends are known of the places from this one on
abbrev pub EndsFrom : ℕ → List Site → List ℕ → Type 0
EndsFrom from all ends = (n : ℕ) (site : Site) → from ≤ n → slice_get all n ≡ Some site → number_at ends n ≡ n + nodes_in site.tree

module _ (declared : List Declaration) (all rest : List Site) (site : Site) (label : Label) (spans : Spans) where
  -- the places of parts stand behind one another, from this one on
  abbrev pub Stand : ℕ → ℕ → List Tree → Type 0
  Stand pos j parts = drop pos all ≡ all_sites declared (operand_sites site label spans j parts) ++ rest

  module _ (pos j : ℕ) (part : Tree) (parts : List Tree) (plain : all_expressions (part ∷ parts) ≡ true) (stand : Stand pos j (part ∷ parts)) where
    abbrev one : Site
    one = operand_site site label spans j part

    pub part-behind : drop pos all ≡ sites_in declared part one ++ (all_sites declared (operand_sites site label spans (suc j) parts) ++ rest)
    part-behind = stand ∙ append_assoc (sites_in declared part one) (all_sites declared (operand_sites site label spans (suc j) parts)) rest

    pub part-there : slice_get all pos ≡ Some one
    part-there =
        let whole = part-behind ∙ ap (λ (them : List Site). them ++ (all_sites declared (operand_sites site label spans (suc j) parts) ++ rest)) (sites-of declared one (first-expression part parts plain).0) in
        head-at all pos one _ whole

    pub parts-stand : Stand (pos + nodes_in part) (suc j) parts
    parts-stand = drop-front pos (nodes_in part) all (sites_in declared part one) _ part-behind (site-nodes declared one (first-expression part parts plain).0)

  pub jumps-end : (ends : List ℕ) (pos j : ℕ) (parts : List Tree) → all_expressions parts ≡ true → Stand pos j parts → EndsFrom pos all ends
      → jumps ends (length parts) pos ≡ pos + nodes_before (length parts) parts
  jumps-end ends pos j [] plain stand known = omega arith
  jumps-end ends pos j (part ∷ parts) plain stand known =
      let there = part-there pos j part parts plain stand in
      let end = known pos (operand_site site label spans j part) (omega arith) there in
      let behind = jumps-end ends (pos + nodes_in part) (suc j) parts (first-expression part parts plain).1 (parts-stand pos j part parts plain stand) (λ n one le is. known n one (omega (arith, le)) is) in
      ap (jumps ends (length parts)) end ∙ (behind ∙ omega arith)

-- the parts of the expression at a place stand behind it
pub stand-behind : (one : TypedUnit) (n : ℕ) (site : Site) → ArePlain (sites_of_unit one) → slice_get (sites_of_unit one) n ≡ Some site
    → (rest : List Site) × Stand one.declared (sites_of_unit one) rest site (label_of site.tree) (spans_of site.tree) (suc n) 0 (parts_of site.tree)
stand-behind one n site plain there =
    let within = place-within one n site plain there in
    let parts = all_sites one.declared (operand_sites site (label_of site.tree) (spans_of site.tree) 0 (parts_of site.tree)) in
    let whole : drop n (sites_of_unit one) ≡ (site ∷ []) ++ (parts ++ within.0) = within.1 ∙ ap (λ (them : List Site). them ++ within.0) (sites-of one.declared site (plain n site there)) in
    let more : n + 1 ≡ suc n = omega arith in (
      within.0,
      ap (λ (m : ℕ). drop m (sites_of_unit one)) (sym more) ∙ drop-front n 1 (sites_of_unit one) (site ∷ []) (parts ++ within.0) whole refl,
    )

pub jumps-whole : (one : TypedUnit) (n : ℕ) (site : Site) (ends : List ℕ) → ArePlain (sites_of_unit one) → slice_get (sites_of_unit one) n ≡ Some site → EndsFrom (n + 1) (sites_of_unit one) ends
    → jumps ends (length (parts_of site.tree)) (n + 1) ≡ n + nodes_in site.tree
jumps-whole one n site ends plain there known =
    let behind = stand-behind one n site plain there in
    let whole = nodes-whole site.tree in
    let more : n + 1 ≡ suc n = omega arith in
    ap (jumps ends (length (parts_of site.tree))) more
    ∙ (jumps-end one.declared (sites_of_unit one) behind.0 site (label_of site.tree) (spans_of site.tree) ends (suc n) 0 (parts_of site.tree) (expression-parts site.tree (plain n site there)) behind.1
    (λ m one le is. known m one (omega (arith, le)) is)
    ∙ omega (arith, whole))

-- ---- a number that is put into a list

set-here : (numbers : List ℕ) (k x : ℕ) → k < length numbers → number_at (slice_set numbers k x) k ≡ x
set-here [] k x less = absurd (omega (arith, less))
set-here (first ∷ numbers) zero x less = refl
set-here (first ∷ numbers) (suc k) x less = set-here numbers k x (omega (arith, less))

set-apart : (numbers : List ℕ) (k n x : ℕ) → (n ≡ k → ⊥) → number_at (slice_set numbers k x) n ≡ number_at numbers n
set-apart [] k n x apart = refl
set-apart (first ∷ numbers) zero zero x apart = absurd (apart refl)
set-apart (first ∷ numbers) zero (suc n) x apart = refl
set-apart (first ∷ numbers) (suc k) zero x apart = refl
set-apart (first ∷ numbers) (suc k) (suc n) x apart = set-apart numbers k n x (λ same. apart (ap suc same))

pub one-end : (all : List Site) (ends : List ℕ) (k end : ℕ) (site : Site) → k < length ends → slice_get all k ≡ Some site → EndsFrom (k + 1) all ends → end ≡ k + nodes_in site.tree
    → EndsFrom k all (slice_set ends k end)
one-end all ends k end site less there known is n other le got = by (n == k) refl
  where
    by : (b : Bool) → (n == k) ≡ b → number_at (slice_set ends k end) n ≡ n + nodes_in other.tree
    by true same =
        let at : n ≡ k = (Decides-eqb n k).0 same in
        let both : Some site ≡ Some other = sym there ∙ (ap (slice_get all) (sym at) ∙ got) in
        let equal : site ≡ other = cc in
        let nodes = ap (λ (one : Site). nodes_in one.tree) equal in
        ap (number_at (slice_set ends k end)) at ∙ (set-here ends k end less ∙ (is ∙ omega (arith, at, nodes)))
    by false differs =
        let apart = eqb-false n k differs in
        set-apart ends k n end apart ∙ known n other (omega (arith, le, apart)) got
