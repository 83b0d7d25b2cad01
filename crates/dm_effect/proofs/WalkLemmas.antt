-- What is asked of trees, tree by tree.
use Rattle.std.proofs.Common.{◌≡◌, ℕ, max, Bool, true, false, ◌||◌, not, List, [], ◌∷◌, ◌++◌, length, append-nil, refl, ap, sym, ◌∙◌, arith}
use Rattle.std.specs.List.{list_any}
use Rattle.std.specs.Option.{option_copied, option_map_or}
use Rattle.std.proofs.lemmas.List.Folds.{list_any-append}
use denote.Param.Weighed.{most}
use Rattle.dm_type.specs.Tables.{Table}
use Rattle.dm_tree.specs.declared.tree.Core.{Core, out-Core, size-Core}
use Rattle.dm_tree.specs.declared.tree.Form.TheVariants as form
use Rattle.dm_tree.specs.declared.tree.Local.{size-Local}
use Rattle.dm_tree.specs.Paths.{all_in, all_in_trees}
use Rattle.dm_tree.specs.Trees.{Tree, trees}
use Rattle.dm_tree.specs.Views.{Opened, opened_form, view}
use Rattle.dm_tree.proofs.ViewLemmas.{view-core, opened-Comma}
use Rattle.dm_effect.specs.declared.parts.Parts.{Parts}

-- the greatest depth of some parts
abbrev pub depth_of : Parts → ℕ
depth_of parts =
    max (option_map_or size-Core (option_copied parts.first) 0)
    (max (option_map_or size-Core (option_copied parts.second) 0)
    (max (option_map_or size-Core (option_copied parts.third) 0)
    (max (option_map_or size-Core (option_copied parts.fourth) 0)
    (max (most size-Core parts.items.now) (most size-Local parts.locals.now)))))

-- ---- one of several, which a loop takes one after another

module _ {X : Type 0} (ask : List X → Bool) (one : X → Bool) (empty : ask [] ≡ false) (more : (x : X) (xs : List X) → ask (x ∷ xs) ≡ (one x || ask xs)) (all left : List X) (same : ask left ≡ ask all) where
  pub any-yes : (x : X) (rest : List X) → left ≡ x ∷ rest → one x ≡ true → true ≡ ask all
  any-yes x rest is h = sym (sym same ∙ (ap ask is ∙ (more x rest ∙ ap (λ b. b || ask rest) h)))

  pub any-no : (x : X) (rest : List X) → left ≡ x ∷ rest → one x ≡ false → ask rest ≡ ask all
  any-no x rest is h = sym (ap ask is ∙ (more x rest ∙ ap (λ b. b || ask rest) h)) ∙ same

  pub any-none : length left ≡ 0 → false ≡ ask all
  any-none h = sym (sym same ∙ (ap ask (nothing left h) ∙ empty))
    where
      nothing : (xs : List X) → length xs ≡ 0 → xs ≡ []
      nothing [] h = refl
      nothing (x ∷ xs) h = absurd (omega arith)

pub stops : (p q : Bool) → p ≡ true → (p || q) ≡ true
stops p q h = ap (λ b. b || q) h

pub skips : (p q : Bool) → p ≡ false → (p || q) ≡ q
skips p q h = ap (λ b. b || q) h

pub second-stops : (p q : Bool) → q ≡ true → (p || q) ≡ true
second-stops true q h = refl
second-stops false q h = h

pub second-skips : (p q : Bool) → q ≡ false → (p || q) ≡ p
second-skips true q h = refl
second-skips false q h = h

pub twice : (b : Bool) → not (not b) ≡ b
twice true = refl
twice false = refl

-- ---- trees in order

pub nodes-append : (test : Tree → Bool) (all others : List Tree) → list_any test (all_in_trees (trees (all ++ others))) ≡ (list_any test (all_in_trees (trees all)) || list_any test (all_in_trees (trees others)))
nodes-append test [] others = refl
nodes-append test (first ∷ all) others =
    list_any-append test (all_in first) (all_in_trees (trees (all ++ others)))
    ∙ (ap (λ b. list_any test (all_in first) || b) (nodes-append test all others)
    ∙ (sym (or_assoc (list_any test (all_in first)) (list_any test (all_in_trees (trees all))) (list_any test (all_in_trees (trees others))))
    ∙ ap (λ b. b || list_any test (all_in_trees (trees others))) (sym (list_any-append test (all_in first) (all_in_trees (trees all))))))
  where
    or_assoc : (p q r : Bool) → ((p || q) || r) ≡ (p || (q || r))
    or_assoc true q r = refl
    or_assoc false q r = refl

-- ---- nodes of the code

-- an answer at some node of a tree is one at the tree itself, or at some node of its parts
pub node-asked : (test : Tree → Bool) (types : Table) (core : Core)
    → list_any test (all_in (view types core)) ≡ (test (view types core) || list_any test (all_in_trees (trees (opened_form types (out-Core core).form).parts)))
node-asked test types core =
    ap (λ tree. list_any test (all_in tree)) (view-core types core)
    ∙ ap (λ tree. test tree || list_any test (all_in_trees (trees (opened_form types (out-Core core).form).parts))) (sym (view-core types core))

-- a comma
pub comma-asked : (test : Tree → Bool) (types : Table) (core a b : Core) → (out-Core core).form ≡ form.Comma a b
    → list_any test (all_in (view types core)) ≡ (test (view types core) || (list_any test (all_in (view types a)) || list_any test (all_in (view types b))))
comma-asked test types core a b is =
    node-asked test types core
    ∙ ap (λ b. test (view types core) || b)
    (ap (λ (o : Opened). list_any test (all_in_trees (trees o.parts))) (ap (opened_form types) is ∙ opened-Comma types a b)
    ∙ (list_any-append test (all_in (view types a)) (all_in (view types b) ++ [])
    ∙ ap (λ nodes. list_any test (all_in (view types a)) || list_any test nodes) (append-nil (all_in (view types b)))))

-- the parts of a node, one after another
pub parts-asked : (test : Tree → Bool) (a b c d e f : List Tree)
    → list_any test (all_in_trees (trees (a ++ (b ++ (c ++ (d ++ (e ++ f)))))))
    ≡ (list_any test (all_in_trees (trees a)) || (list_any test (all_in_trees (trees b)) || (list_any test (all_in_trees (trees c)) || (list_any test (all_in_trees (trees d))
    || (list_any test (all_in_trees (trees e)) || list_any test (all_in_trees (trees f)))))))
parts-asked test a b c d e f =
    nodes-append test a _ ∙ ap (λ x. list_any test (all_in_trees (trees a)) || x)
    (nodes-append test b _ ∙ ap (λ x. list_any test (all_in_trees (trees b)) || x)
    (nodes-append test c _ ∙ ap (λ x. list_any test (all_in_trees (trees c)) || x)
    (nodes-append test d _ ∙ ap (λ x. list_any test (all_in_trees (trees d)) || x) (nodes-append test e f))))
