-- In the initialisers of a settled body no expression takes the object for set, where none does that has the place of the full expression.
use Rattle.std.specs.Prelude.{◌≡◌, refl, ℕ, zero, suc, Bool, true, false, not, IsTrue, MatchBool, List, [], ◌∷◌, map, take, drop, if◌then◌else◌}
use Rattle.std.proofs.Common.{ap, sym, ◌∙◌, subst, true≢false}
use Rattle.dm_type.specs.CTypes.{CType}
use Rattle.dm_tree.specs.Trees.{Declarator, Label, declare, is_statement, Spans, Tree, Trees, node, no_trees, more_trees, label_of, listed, spans_of}
use Rattle.dm_meaning.specs.Running.{begun}
use Rattle.dm_meaning.specs.Statements.{expressions_of, with_expressions}
use Rattle.dm_meaning.specs.Wholes.{is_expression, are_expressions}
use Rattle.dm_meaning.proofs.OptionLemmas.{and_left, and_right}
use Rattle.dm_spans.specs.MovedPrograms.{StandAt}
use Rattle.dm_spans.proofs.ExpressionLemmas.{not_statement}
use Rattle.dm_late.specs.Settled.{nowhere, all_erased, spot, settled, all_settled}
use Rattle.dm_safe.specs.Spared.{Spares, AllSpare, LocalsSpare, LabelSpares, TreeSpares, TreesSpare}
use Rattle.dm_settled.specs.Apart.{IsApart, AllApart, LocalsApart, LabelApart, IsApartTree, AreApartTrees}
use Rattle.dm_settled.proofs.MovedLemmas.{all_erased_stand}
use Rattle.dm_settled.proofs.PlaceLemmas.{part_stands}

-- ---- lists

listed_settled : (trees : Trees) → listed (all_settled trees) ≡ map settled (listed trees)
listed_settled no_trees = refl
listed_settled (more_trees first rest) = ap (λ trees. settled first ∷ trees) (listed_settled rest)

take_map : (n : ℕ) (trees : List Tree) → take n (map settled trees) ≡ map settled (take n trees)
take_map zero trees = refl
take_map (suc n) [] = refl
take_map (suc n) (tree ∷ trees) = ap (λ rest. settled tree ∷ rest) (take_map n trees)

drop_map : (n : ℕ) (trees : List Tree) → drop n (map settled trees) ≡ map settled (drop n trees)
drop_map zero trees = refl
drop_map (suc n) [] = refl
drop_map (suc n) (tree ∷ trees) = drop_map n trees

-- ---- expressions

expression_stands : (tree : Tree) → IsTrue (not (is_statement (label_of tree))) → StandAt (spot (spans_of tree)) (settled tree)
expression_stands (node label kind spans parts) e =
    subst (λ b. StandAt (spot spans) (if b then node label kind nowhere (all_settled parts) else node label kind (spot spans) (all_erased (spot spans) parts)))
    (sym (not_statement (is_statement label) e)) (refl, all_erased_stand (spot spans) parts)

module _ (needs : ℕ → Bool) (sets : Tree → ℕ → Bool) where
  plain_spares : (label : Label) (parts : List Tree) → is_statement label ≡ false → LabelSpares needs sets label parts
  plain_spares (declare lengths declarators) parts e = absurd (true≢false e)
  plain_spares label parts e = tt

  below_spare : (at : Spans) (trees : Trees) → are_expressions trees ≡ true → TreesSpare needs sets (all_erased at trees)
  below_spare at no_trees e = tt
  below_spare at (more_trees (node label kind spans parts) rest) e =
      let first = and_left (is_expression (node label kind spans parts)) (are_expressions rest) e in (
        (
          plain_spares label (listed (all_erased at parts)) (not_statement (is_statement label) (and_left (not (is_statement label)) (are_expressions parts) first)),
          below_spare at parts (and_right (not (is_statement label)) (are_expressions parts) first),
        ),
        below_spare at rest (and_right (is_expression (node label kind spans parts)) (are_expressions rest) e),
      )

  -- ---- declarators

  apart_spares : (d : ℕ) (full : Tree) → IsApart needs sets d full → Spares needs sets d (begun (settled full))
  apart_spares d full a needed tree taken stands = a.1 needed tree taken (part_stands (spot (spans_of full)) tree (settled full) (expression_stands full a.0) stands)

  all_apart_spare : (d : ℕ) (trees : List Tree) → AllApart needs sets d trees → AllSpare needs sets d (map settled trees)
  all_apart_spare d [] a = tt
  all_apart_spare d (tree ∷ trees) a = (apart_spares d tree a.0, all_apart_spare d trees a.1)

  locals_spare : (declarators : List Declarator) (trees : List Tree) → LocalsApart needs sets (with_expressions declarators trees) → LocalsSpare needs sets (with_expressions declarators (map settled trees))
  locals_spare [] trees a = tt
  locals_spare (one ∷ more) trees a = (
    subst (AllSpare needs sets one.declared) (sym (take_map (expressions_of one.initialiser) trees)) (all_apart_spare one.declared (take (expressions_of one.initialiser) trees) a.0),
    subst (λ rest. LocalsSpare needs sets (with_expressions more rest)) (sym (drop_map (expressions_of one.initialiser) trees)) (locals_spare more (drop (expressions_of one.initialiser) trees) a.1),
  )

  label_spares : (label : Label) (parts : Trees) → LabelApart needs sets label (listed parts) → LabelSpares needs sets label (listed (all_settled parts))
  label_spares (declare lengths declarators) parts a =
      subst (λ trees. LocalsSpare needs sets (with_expressions declarators trees)) (sym (ap (drop lengths) (listed_settled parts) ∙ drop_map lengths (listed parts)))
      (locals_spare declarators (drop lengths (listed parts)) a)
  label_spares label parts a = tt

  -- ---- trees

  node_spares : (label : Label) (kind : CType) (spans : Spans) (parts : Trees) → (b : Bool) → is_statement label ≡ b
      → MatchBool b (LabelApart needs sets label (listed parts) × AreApartTrees needs sets parts) (IsTrue (are_expressions parts)) → (AreApartTrees needs sets parts → TreesSpare needs sets (all_settled parts))
      → TreeSpares needs sets (if b then node label kind nowhere (all_settled parts) else node label kind (spot spans) (all_erased (spot spans) parts))
  node_spares label kind spans parts true e a below = (label_spares label parts a.0, below a.1)
  node_spares label kind spans parts false e a below = (plain_spares label (listed (all_erased (spot spans) parts)) e, below_spare (spot spans) parts a)

  mutual
    pub body_spares : (tree : Tree) → IsApartTree needs sets tree → TreeSpares needs sets (settled tree)
    body_spares (node label kind spans parts) a = node_spares label kind spans parts (is_statement label) refl a (λ below. bodies_spare parts below)

    bodies_spare : (trees : Trees) → AreApartTrees needs sets trees → TreesSpare needs sets (all_settled trees)
    bodies_spare no_trees a = tt
    bodies_spare (more_trees first rest) a = (body_spares first a.0, bodies_spare rest a.1)
