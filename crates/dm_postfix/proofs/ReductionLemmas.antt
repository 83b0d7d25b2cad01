-- The ready nodes of a tree are the reductions of its items, from the left.
use Rattle.std.proofs.Common.{◌≡◌, ℕ, suc, ◌+◌, ◌<◌, ◌≤◌, Bool, true, false, nat_le, List, [], ◌∷◌, ◌++◌, map, length, Option, Some, None, IsTrue, if◌then◌else◌, refl, sym, ap, ap₂, ◌∙◌, arith, append_assoc, append-nil, le-leb}
use Rattle.std.proofs.lemmas.Bool.{lt-leb}
use Rattle.std.proofs.lemmas.Option.{none-some, same_Some}
use Rattle.dm_token.specs.declared.place.Place.{Place}
use Rattle.dm_type.specs.CTypes.{CType}
use Rattle.dm_meaning.specs.Running.{Doing, Run, done, to_do, Runs, no_runs, more_runs, Open, first_open, others_open, open_parts, Hole, within, Holes, in_first, in_others, filled_in, all_filled_in, IsOpen, AreOpen}
use Rattle.dm_meaning.specs.Expressions.{where_open}
use Rattle.dm_postfix.specs.Postfix.{Evaluated, Slots, operand, arity, with_slot, slots_of, Waiting, node_of, Item, evaluated, waiting, items, items_in, slots_in_holes, before_of, before_in, after_of, after_in}
use Rattle.dm_postfix.specs.Reductions.{Ready, first_evaluated, evaluated_in, ready_or_inner, ready, ready_in, Reduction, reduction_if, reductions, ready_count, results_behind, filled}
use Rattle.dm_postfix.proofs.ListLemmas.{Each, each-append, each-map, map-square, map-square_each, map-through, append-map}

-- ---- lists that are joined

abbrev pub followed : List Item → Reduction → Reduction
followed more one = record { before = one.before; node = one.node; after = one.after ++ more }

abbrev pub prefixed : List Item → Reduction → Reduction
prefixed front one = record { before = front ++ one.before; node = one.node; after = one.after }

if-followed : (b : Bool) (before : List Item) (node : Waiting) (rest more : List Item)
    → reduction_if b before node (rest ++ more) ≡ map (followed more) (reduction_if b before node rest)
if-followed true before node rest more = refl
if-followed false before node rest more = refl

pub reductions-append : (before : List Item) (results : ℕ) (xs ys : List Item)
    → reductions before results (xs ++ ys) ≡ map (followed ys) (reductions before results xs) ++ reductions (before ++ xs) (results_behind results xs) ys
reductions-append before results [] ys = ap (λ front. reductions front results ys) (sym (append-nil before))
reductions-append before results (evaluated one ∷ xs) ys =
    reductions-append (before ++ evaluated one ∷ []) (suc results) xs ys
    ∙ ap (λ front. map (followed ys) (reductions (before ++ evaluated one ∷ []) (suc results) xs) ++ reductions front (results_behind (suc results) xs) ys)
    (append_assoc before (evaluated one ∷ []) xs)
reductions-append before results (waiting node ∷ xs) ys =
    let b = nat_le (arity node.slots) results in
    let front = before ++ waiting node ∷ [] in
    ap₂ (λ p q. p ++ q) (if-followed b before node xs ys) (reductions-append front 0 xs ys)
    ∙ (sym (append_assoc (map (followed ys) (reduction_if b before node xs)) (map (followed ys) (reductions front 0 xs)) (reductions (front ++ xs) (results_behind 0 xs) ys))
    ∙ ap₂ (λ p q. p ++ q) (sym (append-map (followed ys) (reduction_if b before node xs) (reductions front 0 xs)))
    (ap (λ all. reductions all (results_behind 0 xs) ys) (append_assoc before (waiting node ∷ []) xs)))

pub behind-append : (results : ℕ) (xs ys : List Item) → results_behind results (xs ++ ys) ≡ results_behind (results_behind results xs) ys
behind-append results [] ys = refl
behind-append results (evaluated one ∷ xs) ys = behind-append (suc results) xs ys
behind-append results (waiting node ∷ xs) ys = behind-append 0 xs ys

pub behind-results : (results : ℕ) (all : List Evaluated) → results_behind results (map evaluated all) ≡ results + length all
behind-results results [] = omega arith
behind-results results (one ∷ all) = behind-results (suc results) all ∙ omega arith

-- ---- operands that are all evaluated

pub record AllEvaluated (opens : Open) (parts : Runs) (all : List Evaluated) : Type 0 where
  pub none_ready : ready_in opens parts ≡ []
  pub are_items : items_in opens parts ≡ map evaluated all
  pub as_many : arity (slots_of opens parts) ≡ length all
  pub are_parts : filled (slots_of opens parts) all ≡ parts

-- what holds of the operands behind the first one holds of all
all-from : (opens : Open) (first : Run) (rest : Runs) (found : Option (List Evaluated)) (all : List Evaluated) (opened : Bool) → first_open opens ≡ opened
    → first_evaluated opened first found ≡ Some all → ((others : List Evaluated) → found ≡ Some others → AllEvaluated (others_open opens) rest others)
    → AllEvaluated opens (more_runs first rest) all
all-from opens (done kind result locks) rest (Some others) all true o is later =
    let behind = later others refl in
    let one : Evaluated = record { kind = kind; result = result; locks = locks } in
    let same = same_Some (one ∷ others) all is in
    record {
      none_ready = ap (λ b. where_open b [] ++ map (λ found. (in_others (done kind result locks) found.0, found.1)) (ready_in (others_open opens) rest)) o
          ∙ ap (map (λ found. (in_others (done kind result locks) found.0, found.1))) behind.none_ready;
      are_items = ap (λ b. where_open b (evaluated one ∷ []) ++ items_in (others_open opens) rest) o ∙ (ap (λ xs. evaluated one ∷ xs) behind.are_items ∙ ap (map evaluated) same);
      as_many = ap (λ b. arity (with_slot b (done kind result locks) (slots_of (others_open opens) rest))) o ∙ (ap suc behind.as_many ∙ ap length same);
      are_parts = ap (λ b. filled (with_slot b (done kind result locks) (slots_of (others_open opens) rest)) all) o
          ∙ (ap (filled (operand (slots_of (others_open opens) rest))) (sym same) ∙ ap (more_runs (done kind result locks)) behind.are_parts);
    }
all-from opens (done kind result locks) rest None all true o is later = absurd (none-some all is)
all-from opens (to_do doing kind place parts) rest found all true o is later = absurd (none-some all is)
all-from opens first rest found all false o is later =
    let behind = later all is in
    record {
      none_ready = ap (λ b. where_open b (map (λ found. (in_first found.0 rest, found.1)) (ready first)) ++ map (λ found. (in_others first found.0, found.1)) (ready_in (others_open opens) rest)) o
          ∙ ap (map (λ found. (in_others first found.0, found.1))) behind.none_ready;
      are_items = ap (λ b. where_open b (items first) ++ items_in (others_open opens) rest) o ∙ behind.are_items;
      as_many = ap (λ b. arity (with_slot b first (slots_of (others_open opens) rest))) o ∙ behind.as_many;
      are_parts = ap (λ b. filled (with_slot b first (slots_of (others_open opens) rest)) all) o ∙ ap (more_runs first) behind.are_parts;
    }

pub all-evaluated : (opens : Open) (parts : Runs) (all : List Evaluated) → evaluated_in opens parts ≡ Some all → AllEvaluated opens parts all
all-evaluated opens no_runs all is =
    let same = same_Some [] all is in
    record { none_ready = refl; are_items = ap (map evaluated) same; as_many = ap length same; are_parts = refl }
all-evaluated opens (more_runs first rest) all is =
    all-from opens first rest (evaluated_in (others_open opens) rest) all (first_open opens) refl is (all-evaluated (others_open opens) rest)

-- ---- operands that are not all evaluated

behind-waiting : (results : ℕ) (doing : Doing) (kind : CType) (place : Place) (parts : Runs) (more : List Item)
    → results_behind results (items (to_do doing kind place parts) ++ more) ≡ results_behind 0 more
behind-waiting results doing kind place parts more =
    let node = waiting (node_of doing kind place (slots_of (open_parts doing) parts)) in
    ap (results_behind results) (append_assoc (items_in (open_parts doing) parts) (node ∷ []) more)
    ∙ behind-append results (items_in (open_parts doing) parts) (node ∷ more)

fewer-from : (results : ℕ) (opened : Bool) (first : Run) (found : Option (List Evaluated)) (later : List Item) (slots : Slots) → first_evaluated opened first found ≡ None
    → ((n : ℕ) → found ≡ None → results_behind n later < arity slots)
    → ((n : ℕ) (others : List Evaluated) → found ≡ Some others → results_behind n later ≡ n + arity slots)
    → results_behind results (where_open opened (items first) ++ later) < arity (with_slot opened first slots)
fewer-from results true (done kind result locks) (Some others) later slots is fewer exact = absurd (none-some _ (sym is))
fewer-from results true (done kind result locks) None later slots is fewer exact = let h = fewer (suc results) refl in omega (arith, h)
fewer-from results true (to_do doing kind place parts) (Some others) later slots is fewer exact =
    let h = behind-waiting results doing kind place parts later ∙ exact 0 others refl in omega (arith, h)
fewer-from results true (to_do doing kind place parts) None later slots is fewer exact =
    let h = behind-waiting results doing kind place parts later in let k = fewer 0 refl in omega (arith, h, k)
fewer-from results false first found later slots is fewer exact = fewer results is

exact-behind : (opens : Open) (parts : Runs) (n : ℕ) (all : List Evaluated) → evaluated_in opens parts ≡ Some all
    → results_behind n (items_in opens parts) ≡ n + arity (slots_of opens parts)
exact-behind opens parts n all is =
    let facts = all-evaluated opens parts all is in
    ap (results_behind n) facts.are_items ∙ (behind-results n all ∙ ap (λ m. n + m) (sym facts.as_many))

pub fewer-behind : (opens : Open) (parts : Runs) (n : ℕ) → evaluated_in opens parts ≡ None → results_behind n (items_in opens parts) < arity (slots_of opens parts)
fewer-behind opens no_runs n is = absurd (none-some [] (sym is))
fewer-behind opens (more_runs first rest) n is =
    fewer-from n (first_open opens) first (evaluated_in (others_open opens) rest) (items_in (others_open opens) rest) (slots_of (others_open opens) rest) is
    (fewer-behind (others_open opens) rest) (exact-behind (others_open opens) rest)

-- ---- each ready node stands where it was found

abbrev pub run_of : Ready → Run
run_of node = to_do node.doing node.kind node.place node.parts

-- the part that is left out may be evaluated, with the node in it the tree is the whole, and the node's operands are evaluated
pub record Stands (run : Run) (one : Hole × Ready) : Type 0 where
  pub opened : IsOpen one.0
  pub fills : filled_in one.0 (run_of one.1) ≡ run
  pub operands : evaluated_in (open_parts one.1.doing) one.1.parts ≡ Some one.1.operands

pub record StandsIn (opens : Open) (parts : Runs) (one : Holes × Ready) : Type 0 where
  pub opened : AreOpen opens one.0
  pub fills : all_filled_in one.0 (run_of one.1) ≡ parts
  pub operands : evaluated_in (open_parts one.1.doing) one.1.parts ≡ Some one.1.operands

own-stands : (doing : Doing) (kind : CType) (place : Place) (parts : Runs) (found : Option (List Evaluated)) (inner : List (Holes × Ready))
    → evaluated_in (open_parts doing) parts ≡ found → Each (StandsIn (open_parts doing) parts) inner
    → Each (Stands (to_do doing kind place parts)) (ready_or_inner doing kind place parts found inner)
own-stands doing kind place parts (Some all) inner is below = (record { opened = tt; fills = refl; operands = is }, tt)
own-stands doing kind place parts None inner is below =
    each-map (StandsIn (open_parts doing) parts) (Stands (to_do doing kind place parts)) (λ one. (within doing kind place one.0, one.1))
    (λ one h. record { opened = h.opened; fills = ap (to_do doing kind place) h.fills; operands = h.operands }) inner below

first-stands : (opens : Open) (first : Run) (rest : Runs) (opened : Bool) → first_open opens ≡ opened → (found : List (Hole × Ready)) → Each (Stands first) found
    → Each (StandsIn opens (more_runs first rest)) (where_open opened (map (λ one. (in_first one.0 rest, one.1)) found))
first-stands opens first rest false o found all = tt
first-stands opens first rest true o found all =
    each-map (Stands first) (StandsIn opens (more_runs first rest)) (λ one. (in_first one.0 rest, one.1))
    (λ one h. record { opened = (o, h.opened); fills = ap (λ run. more_runs run rest) h.fills; operands = h.operands }) found all

mutual
  pub ready-stand : (run : Run) → Each (Stands run) (ready run)
  ready-stand (done kind result locks) = tt
  ready-stand (to_do doing kind place parts) =
      own-stands doing kind place parts (evaluated_in (open_parts doing) parts) (ready_in (open_parts doing) parts) refl (ready_in-stand (open_parts doing) parts)

  pub ready_in-stand : (opens : Open) (parts : Runs) → Each (StandsIn opens parts) (ready_in opens parts)
  ready_in-stand opens no_runs = tt
  ready_in-stand opens (more_runs first rest) =
      each-append (StandsIn opens (more_runs first rest)) (where_open (first_open opens) (map (λ one. (in_first one.0 rest, one.1)) (ready first)))
      (map (λ one. (in_others first one.0, one.1)) (ready_in (others_open opens) rest))
      (first-stands opens first rest (first_open opens) refl (ready first) (ready-stand first))
      (each-map (StandsIn (others_open opens) rest) (StandsIn opens (more_runs first rest)) (λ one. (in_others first one.0, one.1))
      (λ one h. record { opened = h.opened; fills = ap (more_runs first) h.fills; operands = h.operands })
      (ready_in (others_open opens) rest) (ready_in-stand (others_open opens) rest))

-- ---- slots

opened-slot : (opened : Bool) (run : Run) (slots : Slots) → IsTrue opened → with_slot opened run slots ≡ operand slots
opened-slot opened run slots o = ap (λ b. with_slot b run slots) o

pub slots-filled : (opens : Open) (holes : Holes) (run : Run) → AreOpen opens holes → slots_of opens (all_filled_in holes run) ≡ slots_in_holes opens holes
slots-filled opens (in_first hole rest) run o = opened-slot (first_open opens) (filled_in hole run) (slots_of (others_open opens) rest) o.0
slots-filled opens (in_others first holes) run o = ap (with_slot (first_open opens) first) (slots-filled (others_open opens) holes run o)

-- ---- the reductions of a tree's items

abbrev pub reduction_of : Hole × Ready → Reduction
reduction_of one = record {
  before = before_of one.0 ++ map evaluated one.1.operands;
  node = node_of one.1.doing one.1.kind one.1.place (slots_of (open_parts one.1.doing) one.1.parts);
  after = after_of one.0;
}

abbrev reduction_in_of : Open → Holes × Ready → Reduction
reduction_in_of opens one = record {
  before = before_in opens one.0 ++ map evaluated one.1.operands;
  node = node_of one.1.doing one.1.kind one.1.place (slots_of (open_parts one.1.doing) one.1.parts);
  after = after_in opens one.0;
}

node-item : Doing → CType → Place → Runs → Waiting
node-item doing kind place parts = node_of doing kind place (slots_of (open_parts doing) parts)

-- where the operands are evaluated, the node is the one reduction; where they aren't, it is none
own-reductions : (before : List Item) (results : ℕ) (doing : Doing) (kind : CType) (place : Place) (parts : Runs) (found : Option (List Evaluated))
    → evaluated_in (open_parts doing) parts ≡ found
    → reductions before results (items_in (open_parts doing) parts) ≡ map (λ one. prefixed before (reduction_in_of (open_parts doing) one)) (ready_in (open_parts doing) parts)
    → reductions before results (items (to_do doing kind place parts)) ≡ map (λ one. prefixed before (reduction_of one)) (ready_or_inner doing kind place parts found (ready_in (open_parts doing) parts))
unfolding node-item
own-reductions before results doing kind place parts (Some all) is same =
    let facts = all-evaluated (open_parts doing) parts all is in
    let node = node-item doing kind place parts in
    let own = items_in (open_parts doing) parts in
    let enough = le-leb (arity node.slots) (results_behind results own) (at_most results (arity node.slots) (results_behind results own) (exact-behind (open_parts doing) parts results all is)) in
    reductions-append before results own (waiting node ∷ [])
    ∙ (ap (λ front. map (followed (waiting node ∷ [])) front ++ (reduction_if (nat_le (arity node.slots) (results_behind results own)) (before ++ own) node [] ++ []))
    (same ∙ ap (map (λ one. prefixed before (reduction_in_of (open_parts doing) one))) facts.none_ready)
    ∙ (ap (λ b. reduction_if b (before ++ own) node [] ++ []) enough
    ∙ ap (λ items. record { before = before ++ items; node = node; after = [] } ∷ []) facts.are_items))
  where
    at_most : (n m k : ℕ) → k ≡ n + m → m ≤ k
    at_most n m k e = omega (arith, e)
own-reductions before results doing kind place parts None is same =
    let node = node-item doing kind place parts in
    let own = items_in (open_parts doing) parts in
    let all = ready_in (open_parts doing) parts in
    let few = lt-leb (arity node.slots) (results_behind results own) (fewer-behind (open_parts doing) parts results is) in
    reductions-append before results own (waiting node ∷ [])
    ∙ (ap (λ b. map (followed (waiting node ∷ [])) (reductions before results own) ++ (reduction_if b (before ++ own) node [] ++ [])) few
    ∙ (append-nil (map (followed (waiting node ∷ [])) (reductions before results own))
    ∙ (ap (map (followed (waiting node ∷ []))) same
    ∙ map-square_each (StandsIn (open_parts doing) parts) (λ one. prefixed before (reduction_in_of (open_parts doing) one)) (followed (waiting node ∷ []))
    (λ one. (within doing kind place one.0, one.1)) (λ one. prefixed before (reduction_of one))
    (λ one h. ap (λ slots. record {
      before = before ++ (before_in (open_parts doing) one.0 ++ map evaluated one.1.operands);
      node = node_of one.1.doing one.1.kind one.1.place (slots_of (open_parts one.1.doing) one.1.parts);
      after = after_in (open_parts doing) one.0 ++ waiting (node_of doing kind place slots) ∷ [];
    })
    (ap (slots_of (open_parts doing)) (sym h.fills) ∙ slots-filled (open_parts doing) one.0 (run_of one.1) h.opened))
    all (ready_in-stand (open_parts doing) parts))))

open-reductions : (before : List Item) (results : ℕ) (opened : Bool) (first : Run) → reductions before results (items first) ≡ map (λ one. prefixed before (reduction_of one)) (ready first)
    → reductions before results (where_open opened (items first)) ≡ map (λ one. prefixed before (reduction_of one)) (where_open opened (ready first))
open-reductions before results true first same = same
open-reductions before results false first same = refl

first-reductions : (before : List Item) (opens : Open) (rest : Runs) (opened : Bool) (found : List (Hole × Ready))
    → map (followed (items_in (others_open opens) rest)) (map (λ one. prefixed before (reduction_of one)) (where_open opened found))
    ≡ map (λ one. prefixed before (reduction_in_of opens one)) (where_open opened (map (λ one. (in_first one.0 rest, one.1)) found))
first-reductions before opens rest false found = refl
first-reductions before opens rest true found =
    map-square (λ one. prefixed before (reduction_of one)) (followed (items_in (others_open opens) rest)) (λ one. (in_first one.0 rest, one.1)) (λ one. prefixed before (reduction_in_of opens one))
    (λ one. refl) found

other-reductions : (before : List Item) (opens : Open) (first : Run) (found : List (Holes × Ready))
    → map (λ one. prefixed (before ++ where_open (first_open opens) (items first)) (reduction_in_of (others_open opens) one)) found
    ≡ map (λ one. prefixed before (reduction_in_of opens one)) (map (λ one. (in_others first one.0, one.1)) found)
other-reductions before opens first found =
    let own = where_open (first_open opens) (items first) in
    map-through (λ one. prefixed (before ++ own) (reduction_in_of (others_open opens) one)) (λ one. (in_others first one.0, one.1)) (λ one. prefixed before (reduction_in_of opens one))
    (λ one. ap (λ front. record { before = front; node = node_of one.1.doing one.1.kind one.1.place (slots_of (open_parts one.1.doing) one.1.parts); after = after_in (others_open opens) one.0 })
    (append_assoc before own (before_in (others_open opens) one.0 ++ map evaluated one.1.operands)
    ∙ ap (λ xs. before ++ xs) (sym (append_assoc own (before_in (others_open opens) one.0) (map evaluated one.1.operands))))) found

mutual
  -- the reductions of a tree's items are its ready nodes, whatever stands in front of it
  pub reductions-ready : (before : List Item) (results : ℕ) (run : Run) → reductions before results (items run) ≡ map (λ one. prefixed before (reduction_of one)) (ready run)
  reductions-ready before results (done kind result locks) = refl
  reductions-ready before results (to_do doing kind place parts) =
      own-reductions before results doing kind place parts (evaluated_in (open_parts doing) parts) refl (reductions_in-ready before results (open_parts doing) parts)

  reductions_in-ready : (before : List Item) (results : ℕ) (opens : Open) (parts : Runs)
      → reductions before results (items_in opens parts) ≡ map (λ one. prefixed before (reduction_in_of opens one)) (ready_in opens parts)
  reductions_in-ready before results opens no_runs = refl
  reductions_in-ready before results opens (more_runs first rest) =
      let own = where_open (first_open opens) (items first) in
      let later = items_in (others_open opens) rest in
      reductions-append before results own later
      ∙ (ap₂ (λ p q. map (followed later) p ++ q) (open-reductions before results (first_open opens) first (reductions-ready before results first))
      (reductions_in-ready (before ++ own) (results_behind results own) (others_open opens) rest)
      ∙ (ap₂ (λ p q. p ++ q) (first-reductions before opens rest (first_open opens) (ready first)) (other-reductions before opens first (ready_in (others_open opens) rest))
      ∙ sym (append-map (λ one. prefixed before (reduction_in_of opens one)) (where_open (first_open opens) (map (λ one. (in_first one.0 rest, one.1)) (ready first)))
      (map (λ one. (in_others first one.0, one.1)) (ready_in (others_open opens) rest)))))

-- ---- how many there are

count-from : (b : Bool) (before : List Item) (node : Waiting) (rest : List Item) (others : List Reduction) (n : ℕ) → length others ≡ n
    → length (reduction_if b before node rest ++ others) ≡ (if b then 1 else 0) + n
count-from true before node rest others n is = ap suc is ∙ omega arith
count-from false before node rest others n is = is ∙ omega arith

pub reductions-counted : (before : List Item) (results : ℕ) (all : List Item) → length (reductions before results all) ≡ ready_count results all
reductions-counted before results [] = refl
reductions-counted before results (evaluated one ∷ rest) = reductions-counted (before ++ evaluated one ∷ []) (suc results) rest
reductions-counted before results (waiting node ∷ rest) =
    count-from (nat_le (arity node.slots) results) before node rest (reductions (before ++ waiting node ∷ []) 0 rest) (ready_count 0 rest) (reductions-counted (before ++ waiting node ∷ []) 0 rest)
