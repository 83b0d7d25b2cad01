-- Trees put into rows, node by node.
use Rattle.std.proofs.Common.{◌≡◌, ℕ, suc, ◌<◌, Bool, true, false, not, ◌&&◌, List, [], ◌∷◌, ◌++◌, map, length, IsTrue, refl, sym, ap, ap₂, subst, ◌∙◌, arith, append_assoc, append-nil}
use Rattle.std.proofs.lemmas.Bool.{and_parts}
use Rattle.std.proofs.lemmas.List.{length-append}
use Rattle.dm_type.specs.Tables.{Table}
use Rattle.dm_tree.specs.declared.tree.Core.{Core, out-Core}
use Rattle.dm_tree.specs.Trees.{Tree, trees, is_statement}
use Rattle.dm_tree.specs.TypeNumbers.{are_known, are_known_in_form}
use Rattle.dm_tree.specs.Views.{Opened, view, opened_form}
use Rattle.dm_tree.proofs.ViewLemmas.{view-core, known-form}
use Rattle.dm_meaning.specs.Running.{begun, all_begun, Open, every, only_first, but_first, nothing, open_of}
use Rattle.dm_row.specs.declared.item.Item.{Item}
use Rattle.dm_row.specs.declared.item.Item.TheVariants.{Waits}
use Rattle.dm_postfix.specs.Postfix as postfix
use Rattle.dm_postfix.specs.Postfix.{arity, slots_of, node_of, items, items_in}
use Rattle.dm_expression.specs.declared.waiting.Doing.TheVariants.{Evaluates}
use Rattle.dm_expression.specs.declared.waiting.Waiting.{Waiting}
use Rattle.dm_expression.specs.Operands.{open_trees, AreAllKnown}
use Rattle.dm_expression.specs.Waiting.{waiting_of, is_expression, are_expressions, items_all, AreAllExpressions, IsUnfolding}

-- a table without types
abbrev pub no_types : Table
no_types = record { shapes = []; structs = [] }

-- ---- open operands

items-nothing : (parts : List Tree) → items_in nothing (all_begun (trees parts)) ≡ []
items-nothing [] = refl
items-nothing (first ∷ rest) = items-nothing rest

items-every : (parts : List Tree) → items_in every (all_begun (trees parts)) ≡ items_all parts
items-every [] = refl
items-every (first ∷ rest) = ap (λ xs. items (begun first) ++ xs) (items-every rest)

pub items-open : (opens : Open) (parts : List Tree) → items_in opens (all_begun (trees parts)) ≡ items_all (open_trees opens parts)
items-open every parts = items-every parts
items-open only_first [] = refl
items-open only_first (first ∷ rest) = ap (λ xs. items (begun first) ++ xs) (items-nothing rest)
items-open but_first [] = refl
items-open but_first (first ∷ rest) = items-every rest
items-open nothing parts = items-nothing parts

arity-nothing : (parts : List Tree) → arity (slots_of nothing (all_begun (trees parts))) ≡ 0
arity-nothing [] = refl
arity-nothing (first ∷ rest) = arity-nothing rest

arity-every : (parts : List Tree) → arity (slots_of every (all_begun (trees parts))) ≡ length parts
arity-every [] = refl
arity-every (first ∷ rest) = ap suc (arity-every rest)

pub arity-open : (opens : Open) (parts : List Tree) → arity (slots_of opens (all_begun (trees parts))) ≡ length (open_trees opens parts)
arity-open every parts = arity-every parts
arity-open only_first [] = refl
arity-open only_first (first ∷ rest) = ap suc (arity-nothing rest)
arity-open but_first [] = refl
arity-open but_first (first ∷ rest) = arity-every rest
arity-open nothing parts = arity-nothing parts

-- ---- a node and its open operands

abbrev form-of : Table → Core → Opened
form-of types core = opened_form types (out-Core core).form

pub items-node : (types : Table) (core : Core)
    → items (begun (view types core)) ≡ items_all (open_trees (open_of (form-of types core).label) (form-of types core).parts) ++ postfix.waiting (waiting_of Evaluates (view types core)) ∷ []
items-node types core =
    let form = form-of types core in
    ap (λ tree. items (begun tree)) (view-core types core)
    ∙ ap₂ (λ own node. own ++ postfix.waiting node ∷ []) (items-open (open_of form.label) form.parts) (ap (waiting_of Evaluates) (sym (view-core types core)))

pub arity-node : (types : Table) (core : Core)
    → length (open_trees (open_of (form-of types core).label) (form-of types core).parts) ≡ arity (waiting_of Evaluates (view types core)).slots
arity-node types core =
    let form = form-of types core in
    sym (arity-open (open_of form.label) form.parts) ∙ ap (λ tree. arity (waiting_of Evaluates tree).slots) (sym (view-core types core))

pub items_all-append : (xs ys : List Tree) → items_all (xs ++ ys) ≡ items_all xs ++ items_all ys
items_all-append [] ys = refl
items_all-append (x ∷ xs) ys = ap (λ rest. items (begun x) ++ rest) (items_all-append xs ys) ∙ sym (append_assoc (items (begun x)) (items_all xs) (items_all ys))

not-statement : (b c : Bool) → IsTrue (not b && c) → (b ≡ false) × IsTrue c
not-statement true c h = absurd (cc)
not-statement false c h = (refl, h)

pub label-expression : (types : Table) (core : Core) → IsTrue (is_expression (view types core))
    → (is_statement (form-of types core).label ≡ false) × IsTrue (are_expressions (trees (form-of types core).parts))
label-expression types core h =
    let form = form-of types core in
    not-statement (is_statement form.label) (are_expressions (trees form.parts)) (ap is_expression (sym (view-core types core)) ∙ h)

-- open operands of an expression are expressions
AreTrees : List Tree → Type 0
AreTrees [] = Unit {0}
AreTrees (tree ∷ rest) = IsTrue (is_expression tree) × AreTrees rest

every-expressions : (parts : List Tree) → IsTrue (are_expressions (trees parts)) → AreTrees parts
unfolding AreTrees
every-expressions [] h = tt
every-expressions (first ∷ rest) h = let both = and_parts (is_expression first) (are_expressions (trees rest)) h in (both.0, every-expressions rest both.1)

open-expressions : (opens : Open) (parts : List Tree) → IsTrue (are_expressions (trees parts)) → AreTrees (open_trees opens parts)
unfolding AreTrees
open-expressions every parts h = every-expressions parts h
open-expressions only_first [] h = tt
open-expressions only_first (first ∷ rest) h = ((and_parts (is_expression first) (are_expressions (trees rest)) h).0, tt)
open-expressions but_first [] h = tt
open-expressions but_first (first ∷ rest) h = every-expressions rest (and_parts (is_expression first) (are_expressions (trees rest)) h).1
open-expressions nothing parts h = tt

cores-expressions : (types : Table) (cores : List Core) → AreTrees (map (view types) cores) → AreAllExpressions types cores
unfolding AreTrees
cores-expressions types [] h = tt
cores-expressions types (core ∷ rest) h = (h.0, cores-expressions types rest h.1)

pub operands-expressions : (types : Table) (core : Core) (cores : List Core) → IsTrue (is_expression (view types core))
    → map (view types) cores ≡ open_trees (open_of (form-of types core).label) (form-of types core).parts → AreAllExpressions types cores
operands-expressions types core cores h is =
    cores-expressions types cores (subst AreTrees (sym is) (open-expressions (open_of (form-of types core).label) (form-of types core).parts (label-expression types core h).1))

-- ---- lists with an end

pub expressions-both : (types : Table) (xs ys : List Core) → AreAllExpressions types xs → AreAllExpressions types ys → AreAllExpressions types (xs ++ ys)
expressions-both types [] ys a b = b
expressions-both types (x ∷ xs) ys a b = (a.0, expressions-both types xs ys a.1 b)

pub expressions-last : (types : Table) (xs : List Core) (core : Core) → AreAllExpressions types (xs ++ core ∷ []) → AreAllExpressions types xs × IsTrue (is_expression (view types core))
expressions-last types [] core h = (tt, h.0)
expressions-last types (x ∷ xs) core h = let rest = expressions-last types xs core h.1 in ((h.0, rest.0), rest.1)

pub known-both : (n : ℕ) (xs ys : List Core) → AreAllKnown n xs → AreAllKnown n ys → AreAllKnown n (xs ++ ys)
known-both n [] ys a b = b
known-both n (x ∷ xs) ys a b = (a.0, known-both n xs ys a.1 b)

pub known-last : (n : ℕ) (xs : List Core) (core : Core) → AreAllKnown n (xs ++ core ∷ []) → AreAllKnown n xs × IsTrue (are_known n core)
known-last n [] core h = (tt, h.0)
known-last n (x ∷ xs) core h = let rest = known-last n xs core h.1 in ((h.0, rest.0), rest.1)

pub map-both : {A B : Type 0} (f : A → B) (xs ys : List A) → map f (xs ++ ys) ≡ map f xs ++ map f ys
map-both f [] ys = refl
map-both f (x ∷ xs) ys = ap (λ rest. f x ∷ rest) (map-both f xs ys)

-- the items of trees, the last of which is taken apart
pub items-last : (types : Table) (xs : List Core) (core : Core) (cores : List Core)
    → map (view types) cores ≡ open_trees (open_of (form-of types core).label) (form-of types core).parts
    → items_all (map (view types) (xs ++ core ∷ [])) ≡ items_all (map (view types) (xs ++ cores)) ++ postfix.waiting (waiting_of Evaluates (view types core)) ∷ []
items-last types xs core cores is =
    let last = postfix.waiting (waiting_of Evaluates (view types core)) ∷ [] in
    let front = items_all (map (view types) xs) in
    ap items_all (map-both (view types) xs (core ∷ []))
    ∙ (items_all-append (map (view types) xs) (view types core ∷ [])
    ∙ (ap (λ rest. front ++ rest) (append-nil (items (begun (view types core))) ∙ (items-node types core ∙ ap (λ trees. items_all trees ++ last) (sym is)))
    ∙ (sym (append_assoc front (items_all (map (view types) cores)) last)
    ∙ ap (λ rest. rest ++ last) (sym (ap items_all (map-both (view types) xs cores) ∙ items_all-append (map (view types) xs) (map (view types) cores))))))

-- ---- one node

-- a node is put behind the place, and its operands are left to be put
pub one-node : {R : Type 0} (tree core : Core) (xs cores : List Core) (one : Waiting) (count : ℕ) (old before after : List (Item R Waiting) × List (Item R Waiting))
    → IsUnfolding tree (xs ++ core ∷ []) old before
    → ((types : Table) → is_statement (form-of types core).label ≡ false → map (view types) cores ≡ open_trees (open_of (form-of types core).label) (form-of types core).parts)
    → ((n : ℕ) → IsTrue (are_known_in_form n (out-Core core).form) → AreAllKnown n cores)
    → count ≡ length cores → one.doing ≡ Evaluates → one.node.now ≡ core → after ≡ (before.0, Waits one count ∷ before.1)
    → IsUnfolding tree (xs ++ cores) old after
one-node {R} tree core xs cores one count old before after h opened known counted doing at is = record {
  in_front = ap (λ (both : List (Item R Waiting) × List (Item R Waiting)). both.0) is ∙ h.in_front;
  put = Waits one count ∷ h.put;
  behind = ap (λ (both : List (Item R Waiting) × List (Item R Waiting)). both.1) is ∙ ap (λ rest. Waits one count ∷ rest) h.behind;
  waits = λ types.
      let expression = (expressions-last types xs core (h.expressions types)).1 in
      let trees = opened types (label-expression types core expression).0 in
      let before = h.waits types in
      let node = waiting_of Evaluates (view types core) in (
        postfix.waiting node ∷ before.0,
        sym (append_assoc (items_all (map (view types) (xs ++ cores))) (postfix.waiting node ∷ []) before.0)
            ∙ (ap (λ front. front ++ before.0) (sym (items-last types xs core cores trees)) ∙ before.1),
        (ap₂ (λ d c. waiting_of d (view types c)) doing at, counted ∙ (sym (length-mapped (view types) cores) ∙ (ap length trees ∙ arity-node types core)), before.2),
      );
  known = λ n tree_known.
      let before = h.known n tree_known in
      let last = known-last n xs core before.0 in
      (known-both n xs cores last.0 (known n (known-form n core last.1)), (subst (λ c. IsTrue (are_known n c)) (sym at) last.1, before.1));
  expressions = λ types.
      let last = expressions-last types xs core (h.expressions types) in
      expressions-both types xs cores last.0 (operands-expressions types core cores last.1 (opened types (label-expression types core last.1).0));
  nodes = λ types. (subst (λ c. IsTrue (is_expression (view types c))) (sym at) (expressions-last types xs core (h.expressions types)).1, h.nodes types);
}
  where
    length-mapped : {A B : Type 0} (f : A → B) (all : List A) → length (map f all) ≡ length all
    length-mapped f [] = refl
    length-mapped f (x ∷ all) = ap suc (length-mapped f all)

-- there is less to be put
pub less-left : (tree core : Core) (xs cores : List Core) → IsTrue (is_expression (view no_types core))
    → (is_statement (form-of no_types core).label ≡ false → map (view no_types) cores ≡ open_trees (open_of (form-of no_types core).label) (form-of no_types core).parts)
    → length (items_all (map (view no_types) (xs ++ cores))) < length (items_all (map (view no_types) (xs ++ core ∷ [])))
less-left tree core xs cores expression opened =
    let same = ap length (items-last no_types xs core cores (opened (label-expression no_types core expression).0)) in
    let more = length-append (items_all (map (view no_types) (xs ++ cores))) (postfix.waiting (waiting_of Evaluates (view no_types core)) ∷ []) in
    omega (arith, same, more)

-- the tree is to be put
pub at-first : {R : Type 0} (tree : Core) (row : List (Item R Waiting) × List (Item R Waiting)) → ((types : Table) → IsTrue (is_expression (view types tree))) → IsUnfolding tree (tree ∷ []) row row
at-first tree row expression = record {
  in_front = refl;
  put = [];
  behind = refl;
  waits = λ types. ([], append-nil (items (begun (view types tree)) ++ []) ∙ append-nil (items (begun (view types tree))), tt);
  known = λ n h. ((h, tt), tt);
  expressions = λ types. (expression types, tt);
  nodes = λ types. tt;
}

pub map-twice : {A B C : Type 0} (f : B → C) (g : A → B) (xs : List A) → map (λ x. f (g x)) xs ≡ map f (map g xs)
map-twice f g [] = refl
map-twice f g (x ∷ xs) = ap (λ rest. f (g x) ∷ rest) (map-twice f g xs)
