-- What the moves of a tree are in terms of its items: which node takes the step, and what the step leaves.
use Rattle.std.proofs.Common.{◌≡◌, ℕ, ◌≤◌, List, [], ◌∷◌, ◌++◌, map, length, Option, Some, None, option_map, slice_get, refl, sym, ap, ◌∙◌, arith, append_assoc, le-leb}
use Rattle.std.proofs.lemmas.List.{length-map}
use Rattle.std.proofs.lemmas.Option.{none-some, same_Some, slice_get-map}
use Rattle.dm_meaning.specs.Values.{At}
use Rattle.dm_meaning.specs.Operations.{World, Scene}
use Rattle.dm_meaning.specs.Running.{Run, Runs, open_parts, Hole, filled_in, hole_in, IsOpen}
use Rattle.dm_meaning.specs.Expressions.{Move, lifted, node_step, moves}
use Rattle.dm_postfix.specs.Postfix.{Evaluated, arity, slots_of, Waiting, node_of, Item, evaluated, waiting, items, before_of, after_of, hole_of}
use Rattle.dm_postfix.specs.Reductions.{Ready, as_operand, ready, move_of, Reduction, reduction_if, reductions, ready_count, results_behind, filled, step_at}
use Rattle.dm_postfix.proofs.ListLemmas.{each-get, get-behind, ends-same}
use Rattle.dm_postfix.proofs.MoveLemmas.{moves-ready}
use Rattle.dm_postfix.proofs.ReductionLemmas.{followed, prefixed, reductions-append, behind-append, behind-results, all-evaluated, Stands, ready-stand, reduction_of, reductions-ready, reductions-counted}
use Rattle.dm_postfix.proofs.HoleLemmas.{items-filled, hole-items}

-- ---- how many moves there are

pub moves-counted : (scene : Scene) (world : World) (locks : List At) (run : Run) → length (moves scene world locks run) ≡ ready_count 0 (items run)
moves-counted scene world locks run =
    ap length (moves-ready scene world locks run)
    ∙ (length-map (ready run) (move_of scene world locks)
    ∙ (sym (length-map (ready run) (λ one. prefixed [] (reduction_of one)))
    ∙ (ap length (sym (reductions-ready [] 0 run)) ∙ reductions-counted [] 0 (items run))))

-- ---- the ready node in front of which there are these items

record Found (run : Run) (front : List Item) (node : Waiting) (after : List Item) : Type 0 where
  one : Hole × Ready
  taken : slice_get (ready run) (ready_count 0 front) ≡ Some one
  stands : Stands run one
  same : prefixed [] (reduction_of one) ≡ record { before = front; node = node; after = after }

from-option : {A B : Type 0} (f : A → B) (o : Option A) (b : B) → option_map f o ≡ Some b → (a : A) × (o ≡ Some a) × (f a ≡ b)
from-option f None b is = absurd (none-some b is)
from-option f (Some a) b is = (a, refl, same_Some (f a) b is)

reduction-there : (front : List Item) (node : Waiting) (after : List Item) → arity node.slots ≤ results_behind 0 front
    → slice_get (reductions [] 0 (front ++ waiting node ∷ after)) (ready_count 0 front) ≡ Some (record { before = front; node = node; after = after })
reduction-there front node after enough =
    let more = waiting node ∷ after in
    let earlier = map (followed more) (reductions [] 0 front) in
    let number = length-map (reductions [] 0 front) (followed more) ∙ reductions-counted [] 0 front in
    ap (λ all. slice_get all (ready_count 0 front)) (reductions-append [] 0 front more)
    ∙ (ap (λ b. slice_get (earlier ++ (reduction_if b front node after ++ reductions (front ++ waiting node ∷ []) 0 after)) (ready_count 0 front)) (le-leb (arity node.slots) (results_behind 0 front) enough)
    ∙ (ap (slice_get (earlier ++ record { before = front; node = node; after = after } ∷ reductions (front ++ waiting node ∷ []) 0 after)) (sym number)
    ∙ get-behind earlier (record { before = front; node = node; after = after }) (reductions (front ++ waiting node ∷ []) 0 after)))

found : (run : Run) (front : List Item) (node : Waiting) (after : List Item) → items run ≡ front ++ waiting node ∷ after → arity node.slots ≤ results_behind 0 front → Found run front node after
found run front node after is enough =
    let there = ap (λ all. slice_get all (ready_count 0 front)) (sym (reductions-ready [] 0 run) ∙ ap (reductions [] 0) is) ∙ reduction-there front node after enough in
    let one = from-option (λ one. prefixed [] (reduction_of one)) (slice_get (ready run) (ready_count 0 front)) _
    (sym (slice_get-map (λ one. prefixed [] (reduction_of one)) (ready run) (ready_count 0 front)) ∙ there) in
    record { one = one.0; taken = one.1; stands = each-get (Stands run) (ready run) (ready_count 0 front) one.0 (ready-stand run) one.1; same = one.2 }

-- ---- its operands

abbrev results_in : List Item → List Evaluated
results_in [] = []
results_in (evaluated one ∷ rest) = one ∷ results_in rest
results_in (waiting node ∷ rest) = results_in rest

results-back : (all : List Evaluated) → results_in (map evaluated all) ≡ all
results-back [] = refl
results-back (one ∷ all) = ap (λ rest. one ∷ rest) (results-back all)

results-same : (xs ys : List Evaluated) → map evaluated xs ≡ map evaluated ys → xs ≡ ys
results-same xs ys same = sym (results-back xs) ∙ (ap results_in same ∙ results-back ys)

-- where a node and its operands stand, and what the tree is without them
record Placed (run : Run) (before : List Item) (operands : List Evaluated) (node : Waiting) (after : List Item) : Type 0 where
  one : Hole × Ready
  taken : slice_get (ready run) (ready_count 0 (before ++ map evaluated operands)) ≡ Some one
  opened : IsOpen one.0
  in_front : before_of one.0 ≡ before
  behind : after_of one.0 ≡ after
  results : one.1.operands ≡ operands
  waits : node_of one.1.doing one.1.kind one.1.place (slots_of (open_parts one.1.doing) one.1.parts) ≡ node
  parts : one.1.parts ≡ filled node.slots operands

placed-by : (run : Run) (before : List Item) (operands : List Evaluated) (node : Waiting) (after : List Item) → length operands ≡ arity node.slots
    → Found run (before ++ map evaluated operands) node after → Placed run before operands node after
placed-by run before operands node after size one =
    let whole = all-evaluated (open_parts one.one.1.doing) one.one.1.parts one.one.1.operands one.stands.operands in
    let waits = ap (λ (r : Reduction). r.node) one.same in
    let sizes = length-map one.one.1.operands evaluated ∙ (sym whole.as_many ∙ (ap (λ (n : Waiting). arity n.slots) waits ∙ (sym size ∙ sym (length-map operands evaluated)))) in
    let ends = ends-same (before_of one.one.0) before (map evaluated one.one.1.operands) (map evaluated operands) sizes (ap (λ (r : Reduction). r.before) one.same) in
    let results = results-same one.one.1.operands operands ends.1 in
    record {
      one = one.one;
      taken = one.taken;
      opened = one.stands.opened;
      in_front = ends.0;
      behind = ap (λ (r : Reduction). r.after) one.same;
      results = results;
      waits = waits;
      parts = sym whole.are_parts ∙ (ap (λ (n : Waiting). filled n.slots one.one.1.operands) waits ∙ ap (filled node.slots) results);
    }

enough-results : (before : List Item) (operands : List Evaluated) (n : ℕ) → length operands ≡ n → n ≤ results_behind 0 (before ++ map evaluated operands)
enough-results before operands n size =
    let all = behind-append 0 before (map evaluated operands) ∙ behind-results (results_behind 0 before) operands in
    omega (arith, all, size)

placed : (run : Run) (before : List Item) (operands : List Evaluated) (node : Waiting) (after : List Item)
    → items run ≡ before ++ (map evaluated operands ++ waiting node ∷ after) → length operands ≡ arity node.slots → Placed run before operands node after
placed run before operands node after is size =
    placed-by run before operands node after size
    (found run (before ++ map evaluated operands) node after (is ∙ sym (append_assoc before (map evaluated operands) (waiting node ∷ after)))
    (enough-results before operands (arity node.slots) size))

-- ---- its step

hole-same : (run : Run) (before : List Item) (operands : List Evaluated) (node : Waiting) (after : List Item) (one : Placed run before operands node after) → one.one.0 ≡ hole_of before after
hole-same run before operands node after one =
    sym (hole-items one.one.0) ∙ (ap (λ b. hole_of b (after_of one.one.0)) one.in_front ∙ ap (hole_of before) one.behind)

-- The step of a node whose operands stand directly in front of it is that move of the tree which has as many moves before it as there are
-- ready nodes in front of it.
pub move-at : (scene : Scene) (world : World) (locks : List At) (run : Run) (before : List Item) (operands : List Evaluated) (node : Waiting) (after : List Item)
    → items run ≡ before ++ (map evaluated operands ++ waiting node ∷ after) → length operands ≡ arity node.slots
    → slice_get (moves scene world locks run) (ready_count 0 (before ++ map evaluated operands))
    ≡ Some (lifted (filled_in (hole_of before after)) (hole_in (hole_of before after)) (step_at scene world locks node operands))
move-at scene world locks run before operands node after is size =
    let one = placed run before operands node after is size in
    let number = ready_count 0 (before ++ map evaluated operands) in
    let at : Hole → Waiting → Runs → List Evaluated → Option (Move Run Hole) = λ hole waits parts results.
    Some (lifted (filled_in hole) (hole_in hole) (node_step scene world locks waits.doing waits.kind waits.place parts (map as_operand results))) in
    let r = one.one.1 in
    let waits = node_of r.doing r.kind r.place (slots_of (open_parts r.doing) r.parts) in
    ap (λ all. slice_get all number) (moves-ready scene world locks run)
    ∙ (slice_get-map (move_of scene world locks) (ready run) number
    ∙ (ap (option_map (move_of scene world locks)) one.taken
    ∙ (ap (λ hole. at hole waits r.parts r.operands) (hole-same run before operands node after one)
    ∙ (ap (λ n. at (hole_of before after) n r.parts r.operands) one.waits
    ∙ (ap (λ parts. at (hole_of before after) node parts r.operands) one.parts
    ∙ ap (at (hole_of before after) node (filled node.slots operands)) one.results)))))

-- Another tree in place of the node and its operands: its items stand in place of theirs.
pub items-replaced : (run : Run) (before : List Item) (operands : List Evaluated) (node : Waiting) (after : List Item)
    → items run ≡ before ++ (map evaluated operands ++ waiting node ∷ after) → length operands ≡ arity node.slots
    → (other : Run) → items (filled_in (hole_of before after) other) ≡ before ++ (items other ++ after)
items-replaced run before operands node after is size other =
    let one = placed run before operands node after is size in
    ap (λ hole. items (filled_in hole other)) (sym (hole-same run before operands node after one))
    ∙ (items-filled one.one.0 other one.opened
    ∙ (ap (λ b. b ++ (items other ++ after_of one.one.0)) one.in_front ∙ ap (λ a. before ++ (items other ++ a)) one.behind))
