-- The trees that wait for the walk.
use Rattle.std.proofs.Common.{rules, ◌≡◌, ◌+◌, ℕ, Bool, true, false, ◌&&◌, ◌||◌, Bor, List, [], ◌∷◌, ◌++◌, map, refl, sym, ap, ◌∙◌, arith}
use Rattle.std.specs.List.{list_any, sum_by}
use Rattle.std.proofs.lemmas.List.Folds.{list_any-append}
use Rattle.std.proofs.lemmas.List.Sums.{sum_by-append, sum_by-cons}
use Rattle.std.proofs.Math.Bool.{or-false}
use Rattle.dm_type.specs.Tables.{Table, no_type}
use Rattle.dm_tree.specs.declared.tree.Core.{Core, out-Core}
use Rattle.dm_tree.specs.declared.tree.Core as q
use Rattle.dm_tree.specs.declared.tree.Form.{Form}
use Rattle.dm_tree.specs.declared.tree.Form.TheVariants as form
use Rattle.dm_tree.specs.Paths.{nodes_in, nodes_in_trees}
use Rattle.dm_tree.specs.Trees as label
use Rattle.dm_tree.specs.Trees.{Tree, node, label_of, trees_of, trees}
use Rattle.dm_tree.specs.Views.{Opened, opened, opened_form, view}
use Rattle.dm_agree.specs.Parts.{nows}
use Rattle.dm_agree.proofs.AgreeLemmas.{trees-seen}
use Rattle.dm_plain.specs.declared.plain.Waiting.{Waiting}
use Rattle.dm_plain.specs.Walks.{is_local, is_first_inside, are_others_inside, names_local, names_below, any_names, names_inside, waits, waiting_of, waiting_parts, nodes_left}

-- ---- lists

sum-map : {A B : Type 0} (f : B → ℕ) (g : A → B) (xs : List A) → sum_by f (map g xs) ≡ sum_by (λ x. f (g x)) xs
sum-map f g [] = refl
sum-map f g (x ∷ xs) =
    let one = sum_by-cons f (g x) (map g xs) in let other = sum_by-cons (λ y. f (g y)) x xs in let rest = sum-map f g xs in omega (arith, one, other, rest)

-- ---- trees

names-node : (automatic : ℕ → Bool) (inside : Bool) (tree : Tree) → names_local automatic inside tree ≡ ((inside && is_local automatic (label_of tree)) || names_inside automatic inside tree)
names-node automatic inside (node label kind spans parts) = refl

inside-by : (automatic : ℕ → Bool) (inside : Bool) (tree : Tree)
    → names_inside automatic inside tree ≡ names_below automatic (inside || is_first_inside (label_of tree)) (inside || are_others_inside (label_of tree)) (trees_of tree)
inside-by automatic inside (node label kind spans parts) = refl

nodes-in : (tree : Tree) → nodes_in tree ≡ 1 + nodes_in_trees (trees_of tree)
nodes-in (node label kind spans parts) = refl

nodes-listed : (ts : List Tree) → nodes_in_trees (trees ts) ≡ sum_by nodes_in ts
nodes-listed [] = refl
nodes-listed (t ∷ ts) = let one = sum_by-cons nodes_in t ts in let rest = nodes-listed ts in omega (arith, one, rest)

opened-Object : (types : Table) (d : ℕ) → opened_form types (form.Object d) ≡ opened (label.object d) []
opened-Object types d = search (rules, q.the_lemmas)

pub local-Object : (types : Table) (it : Form) (d : ℕ) (automatic : ℕ → Bool) → it ≡ form.Object d → automatic d ≡ is_local automatic (opened_form types it).label
local-Object types it d automatic is = sym (ap (λ (o : Opened). is_local automatic o.label) (ap (opened_form types) is ∙ opened-Object types d))

-- ---- parts that wait

module _ (types : Table) where
  abbrev seen : List (Bor Core) → List Tree
  seen parts = map (view types) (nows parts)

  waits-all : (automatic : ℕ → Bool) (inside : Bool) (parts : List (Bor Core)) → waits automatic types (map (waiting_of inside) parts) ≡ any_names automatic inside (trees (seen parts))
  waits-all automatic inside [] = refl
  waits-all automatic inside (part ∷ parts) = ap (λ rest. names_local automatic inside (view types part.now) || rest) (waits-all automatic inside parts)

  waits-parts : (automatic : ℕ → Bool) (first others : Bool) (parts : List (Bor Core)) → waits automatic types (waiting_parts first others parts) ≡ names_below automatic first others (trees (seen parts))
  waits-parts automatic first others [] = refl
  waits-parts automatic first others (part ∷ parts) = ap (λ rest. names_local automatic first (view types part.now) || rest) (waits-all automatic others parts)

  pub entered : (core : Core) (parts : List (Bor Core)) (inside first others : Bool) (before after : List Waiting) → seen parts ≡ (opened_form types (out-Core core).form).parts
      → first ≡ (inside || is_first_inside (label_of (view types core))) → others ≡ (inside || are_others_inside (label_of (view types core))) → after ≡ before ++ waiting_parts first others parts
      → (automatic : ℕ → Bool) → waits automatic types after ≡ (waits automatic types before || names_inside automatic inside (view types core))
  entered core parts inside first others before after are one two is automatic =
      let p = λ (w : Waiting). names_local automatic w.inside (view types w.tree.now) in
      ap (list_any p) is
      ∙ (list_any-append p before (waiting_parts first others parts)
      ∙ ap (λ rest. waits automatic types before || rest)
      (waits-parts automatic first others parts
      ∙ (ap (names_below automatic first others) (ap trees are ∙ sym (trees-seen types core))
      ∙ (ap (λ b. names_below automatic b others (trees_of (view types core))) one
      ∙ (ap (λ b. names_below automatic (inside || is_first_inside (label_of (view types core))) b (trees_of (view types core))) two ∙ sym (inside-by automatic inside (view types core)))))))

-- ---- nodes that are left

abbrev nodes : Waiting → ℕ
nodes one = nodes_in (view no_type one.tree.now)

parts-nodes : (first others : Bool) (parts : List (Bor Core)) → nodes_left (waiting_parts first others parts) ≡ nodes_in_trees (trees (map (view no_type) (nows parts)))
parts-nodes first others [] = refl
parts-nodes first others (part ∷ parts) =
    let one = sum_by-cons nodes (waiting_of first part) (map (waiting_of others) parts) in
    let rest = sum-map nodes (waiting_of others) parts in
    let listed = nodes-listed (map (view no_type) (nows parts)) in
    let shown = sum-map nodes_in (view no_type) (nows parts) in
    let refs = sum-map (λ (c : Core). nodes_in (view no_type c)) (λ (each : Bor Core). each.now) parts in
    omega (arith, one, rest, listed, shown, refs)

pub nodes-entered : (core : Core) (parts : List (Bor Core)) (first others : Bool) (before after : List Waiting) → map (view no_type) (nows parts) ≡ (opened_form no_type (out-Core core).form).parts
    → after ≡ before ++ waiting_parts first others parts → nodes_left after + 1 ≡ nodes_left before + nodes_in (view no_type core)
nodes-entered core parts first others before after are is =
    let all = ap (sum_by nodes) is ∙ sum_by-append nodes before (waiting_parts first others parts) in
    let some = parts-nodes first others parts in
    let whole = nodes-in (view no_type core) in
    let below = ap nodes_in_trees (trees-seen no_type core ∙ ap trees (sym are)) in
    omega (arith, all, some, whole, below)

-- ---- what waits last

pub waits-last : (p : Waiting → Bool) (all front : List Waiting) (one : Waiting) → all ≡ front ++ one ∷ [] → list_any p all ≡ (list_any p front || p one)
waits-last p all front one is = ap (list_any p) is ∙ (list_any-append p front (one ∷ []) ∙ ap (λ last. list_any p front || last) (or-false (p one)))

-- the tree that is taken names nothing itself
pub nothing-here : (automatic : ℕ → Bool) (inside : Bool) (tree : Tree) → (inside && is_local automatic (label_of tree)) ≡ false → names_local automatic inside tree ≡ names_inside automatic inside tree
nothing-here automatic inside tree none = names-node automatic inside tree ∙ ap (λ here. here || names_inside automatic inside tree) none

pub something-here : (automatic : ℕ → Bool) (inside : Bool) (tree : Tree) → (inside && is_local automatic (label_of tree)) ≡ true → names_local automatic inside tree ≡ true
something-here automatic inside tree some = names-node automatic inside tree ∙ ap (λ here. here || names_inside automatic inside tree) some
