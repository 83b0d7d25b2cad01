-- Places that wait.
use Rattle.std.proofs.Common.{◌≡◌, ℕ, ◌+◌, Bool, List, [], ◌∷◌, ◌++◌, map, reverse, length, append_assoc, append-nil, sym, ap, ◌∙◌, arith, Bor}
use Rattle.std.proofs.lemmas.List.{map-append, reverse-append, length-map}
use Rattle.dm_type.specs.Tables.{Table}
use Rattle.dm_tree.specs.declared.tree.Core.{Core}
use Rattle.dm_tree.specs.Paths.{Path}
use Rattle.dm_tree.specs.Trees.{Tree, label_of, spans_of}
use Rattle.dm_tree.specs.Views.{view}
use Rattle.dm_sites.specs.declared.site.Site.{Site as CodeSite}
use Rattle.dm_sites.specs.Rows.{row}
use Rattle.dm_sites.specs.Seen.{seen}
use Rattle.dm_sites.specs.Sites.{Site, whole, operand_site}
use Rattle.dm_sites.specs.Walks.{at_path, operands_at}
use Rattle.dm_sites.proofs.PlaceLemmas.{pushed, operands-last}

module _ (types : Table) (all : List Site) where
  -- one more place behind others
  pub seen-last : (waiting : List CodeSite) (site : CodeSite) → map (seen types all) (waiting ++ site ∷ []) ≡ map (seen types all) waiting ++ seen types all site ∷ []
  seen-last waiting site = map-append (seen types all) waiting (site ∷ [])

  pub row-last : (trees : List (Bor Core)) (tree : Bor Core) → row types (trees ++ tree ∷ []) ≡ row types trees ++ view types tree.now ∷ []
  row-last trees tree = map-append (λ (tree : Bor Core). view types tree.now) trees (tree ∷ [])

  -- a tree of the end of a row goes behind those that wait: `places` are those of the trees of a row
  pub pops : (places : List Tree → List Site) (waiting more before : List CodeSite) (trees left whole_row : List (Bor Core)) (tree : Bor Core) (site : CodeSite)
      → places (row types left ++ view types tree.now ∷ []) ≡ places (row types left) ++ seen types all site ∷ []
      → trees ≡ left ++ tree ∷ [] → more ≡ waiting ++ site ∷ []
      → map (seen types all) waiting ++ reverse (places (row types trees)) ≡ map (seen types all) before ++ reverse (places (row types whole_row))
      → map (seen types all) more ++ reverse (places (row types left)) ≡ map (seen types all) before ++ reverse (places (row types whole_row))
  pops places waiting more before trees left whole_row tree site last cut grown so =
      ap (λ (them : List Site). them ++ reverse (places (row types left))) (ap (map (seen types all)) grown ∙ seen-last waiting site)
      ∙ (pushed (map (seen types all) waiting) (places (row types left)) (seen types all site)
      ∙ (ap (λ (them : List Site). map (seen types all) waiting ++ reverse them) (sym last)
      ∙ (ap (λ (them : List Tree). map (seen types all) waiting ++ reverse (places them)) (sym (ap (row types) cut ∙ row-last left tree)) ∙ so)))

  -- for full expressions, and for operands
  pub whole-last : (constant fixed : Bool) (left : List Tree) (tree : Tree) (site : Site) → site ≡ whole constant fixed tree
      → map (whole constant fixed) (left ++ tree ∷ []) ≡ map (whole constant fixed) left ++ site ∷ []
  whole-last constant fixed left tree site is = map-append (whole constant fixed) left (tree ∷ []) ∙ ap (λ (one : Site). map (whole constant fixed) left ++ one ∷ []) (sym is)

  pub operand-last : (path : Path) (above : Site) (left : List (Bor Core)) (tree : Tree) (site : Site)
      → site ≡ operand_site (at_path path above) (label_of above.tree) (spans_of above.tree) (length left) tree
      → operands_at path above (row types left ++ tree ∷ []) ≡ operands_at path above (row types left) ++ site ∷ []
  operand-last path above left tree site is =
      let count : 0 + length (row types left) ≡ length left = omega (arith, length-map left (λ (tree : Bor Core). view types tree.now)) in
      operands-last (at_path path above) (label_of above.tree) (spans_of above.tree) 0 (row types left) tree
      ∙ ap (λ (one : Site). operands_at path above (row types left) ++ one ∷ [])
      (ap (λ (n : ℕ). operand_site (at_path path above) (label_of above.tree) (spans_of above.tree) n tree) count ∙ sym is)

  -- all of them are pushed
  pub popped-all : (places : List Tree → List Site) (waiting before : List CodeSite) (whole_row left : List (Bor Core)) → places [] ≡ [] → left ≡ []
      → map (seen types all) waiting ++ reverse (places (row types left)) ≡ map (seen types all) before ++ reverse (places (row types whole_row))
      → map (seen types all) waiting ≡ map (seen types all) before ++ reverse (places (row types whole_row))
  popped-all places waiting before whole_row left none empty so =
      sym (ap (λ (them : List (Bor Core)). map (seen types all) waiting ++ reverse (places (row types them))) empty
      ∙ (ap (λ (them : List Site). map (seen types all) waiting ++ reverse them) none ∙ append-nil (map (seen types all) waiting)))
      ∙ so

-- what two pushes leave
pub pushed-twice : {S : Type 0} (before between after a b : List S) → between ≡ before ++ reverse a → after ≡ between ++ reverse b → after ≡ before ++ reverse (b ++ a)
pushed-twice before between after a b first second =
    second ∙ (ap (λ them. them ++ reverse b) first ∙ (append_assoc before (reverse a) (reverse b) ∙ ap (λ them. before ++ them) (sym (reverse-append b a))))

-- a row that was empty has what was listed
pub listed-alone : (types : Table) (old new : List (Bor Core)) (trees : List Tree) → old ≡ [] → row types new ≡ row types old ++ trees → row types new ≡ trees
listed-alone types old new trees empty is = is ∙ ap (λ (them : List (Bor Core)). row types them ++ trees) empty

-- the last of some lists of places is pushed, and the others are left
pub pushed-last : {S : Type 0} (taken more whole all before here : List S) → all ≡ before ++ here → more ≡ taken ++ reverse here → taken ++ reverse all ≡ whole → more ++ reverse before ≡ whole
pushed-last taken more whole all before here cut grown so =
    ap (λ them. them ++ reverse before) grown
    ∙ (append_assoc taken (reverse here) (reverse before)
    ∙ (ap (λ them. taken ++ them) (sym (ap reverse cut ∙ reverse-append before here)) ∙ so))

pub pushed-all : {S : Type 0} (taken whole left : List S) → left ≡ [] → taken ++ reverse left ≡ whole → taken ≡ whole
pushed-all taken whole left none so = sym (ap (λ them. taken ++ reverse them) none ∙ append-nil taken) ∙ so

-- trees that are listed one list behind another
pub listed-six : {T : Type 0} (r0 r1 r2 r3 r4 r5 r6 a b c d e f : List T) → r1 ≡ r0 ++ a → r2 ≡ r1 ++ b → r3 ≡ r2 ++ c → r4 ≡ r3 ++ d → r5 ≡ r4 ++ e → r6 ≡ r5 ++ f
    → r6 ≡ r0 ++ (a ++ (b ++ (c ++ (d ++ (e ++ f)))))
listed-six r0 r1 r2 r3 r4 r5 r6 a b c d e f e1 e2 e3 e4 e5 e6 =
    e6
    ∙ (ap (λ r. r ++ f) (e5 ∙ ap (λ r. r ++ e) (e4 ∙ ap (λ r. r ++ d) (e3 ∙ ap (λ r. r ++ c) (e2 ∙ ap (λ r. r ++ b) e1))))
    ∙ simp append_assoc)
