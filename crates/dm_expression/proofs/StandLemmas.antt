-- What is taken out of an expression, and what is put into it, in terms of the tree for which it stands.
use Rattle.std.proofs.Common.{◌≡◌, ℕ, suc, ◌+◌, ◌-◌, ◌≤◌, Bool, true, false, nat_le, List, [], ◌∷◌, ◌++◌, map, length, take, drop, Some, slice_get, if◌then◌else◌, refl, sym, ap, ap₂, subst, ◌∙◌, arith, append_assoc, append-nil}
use Rattle.std.proofs.lemmas.List.{length-append, length-drop, take-append-le, drop-append-le}
use Rattle.dm_token.specs.declared.place.Place.{Place}
use Rattle.dm_type.specs.CTypes.{CType}
use Rattle.dm_type.specs.Tables.{Table}
use Rattle.dm_tree.specs.declared.tree.Core.{Core}
use Rattle.dm_tree.specs.Trees.{Tree, node, kind_of, spans_of}
use Rattle.dm_tree.specs.Views.{view}
use Rattle.dm_meaning.specs.Values.{At}
use Rattle.dm_meaning.specs.Operations.{World, Scene}
use Rattle.dm_meaning.specs.Running.{Doing, gives_truth, gives_value, Run, done, no_runs, more_runs, begun, every, open_parts, Hole, filled_in, hole_in}
use Rattle.dm_meaning.specs.Expressions.{lifted, going_on, moves}
use Rattle.dm_row.specs.declared.item.Item.{Item}
use Rattle.dm_row.specs.declared.item.Item.TheVariants.{Done, Waits}
use Rattle.dm_row.specs.Counts.{one_if, ready_in, weight_in}
use Rattle.dm_postfix.specs.Postfix as postfix
use Rattle.dm_postfix.specs.Postfix.{arity, operand, no_slots, slots_of, node_of, items, items_in, hole_of}
use Rattle.dm_postfix.specs.Reductions.{ready_count, step_at}
use Rattle.dm_postfix.proofs.StepLemmas.{moves-counted, move-at, items-replaced}
use Rattle.dm_expression.specs.declared.waiting.Waiting.{Waiting}
use Rattle.dm_expression.specs.declared.results.Taken.{Taken}
use Rattle.dm_expression.specs.Waiting.{waiting_of, view_of_waiting, AreWaiting, IsPut}
use Rattle.dm_expression.specs.declared.waiting.Doing.TheVariants.{GivesTruth, GivesValue}
use Rattle.dm_expression.specs.Taken.{dones, number_of, IsTaken}
use Rattle.dm_expression.specs.Left.{seen}
use Rattle.dm_expression.specs.Standing.{viewed, AreSized, Stands, Lacks}
use Rattle.dm_expression.proofs.TakenLemmas.{weight-append}

-- ---- lists that are joined

no-locks : {L : Type 0} (locks : List L) → 0 ≡ length locks → locks ≡ []
no-locks [] e = refl
no-locks (lock ∷ locks) e = absurd (not-suc (length locks) e)
  where
    not-suc : (n : ℕ) → 0 ≡ suc n → ⊥
    not-suc n e = omega (arith, e)

as-many : (w n m : ℕ) → w + n ≡ m → w ≤ m
as-many w n m e = omega (arith, e)

what-is-left : (w n m k : ℕ) → w + n ≡ m → k ≡ m - w → n ≡ k
what-is-left w n m k e f = omega (arith, e, f)

pub viewed-append : {R L : Type 0} (see : R → List L → postfix.Evaluated) (types : Table) (p q : List L) (xs ys : List (Item R Waiting)) → weight_in xs ≡ length p
    → viewed see types (p ++ q) (xs ++ ys) ≡ viewed see types p xs ++ viewed see types q ys
viewed-append see types p q [] ys e = ap (λ l. viewed see types (l ++ q) ys) (no-locks p e)
viewed-append see types p q (Done result weight ∷ xs) ys e =
    let few = as-many weight (weight_in xs) (length p) e in
    ap₂ (λ l rest. postfix.evaluated (see result l) ∷ rest) (take-append-le weight p q few)
    (ap (λ l. viewed see types l (xs ++ ys)) (drop-append-le weight p q few)
    ∙ viewed-append see types (drop weight p) q xs ys (what-is-left weight (weight_in xs) (length p) (length (drop weight p)) e (length-drop weight p)))
viewed-append see types p q (Waits one operands ∷ xs) ys e = ap (λ rest. postfix.waiting (view_of_waiting types one) ∷ rest) (viewed-append see types p q xs ys (sym (none-more (weight_in xs)) ∙ e))
  where
    none-more : (n : ℕ) → 0 + n ≡ n
    none-more n = omega arith

pub viewed-dones : {R L : Type 0} (see : R → List L → postfix.Evaluated) (types : Table) (locks : List L) (pairs : List (R × ℕ))
    → viewed see types locks (dones pairs) ≡ map postfix.evaluated (seen see locks pairs)
viewed-dones see types locks [] = refl
viewed-dones see types locks (one ∷ rest) = ap (λ xs. postfix.evaluated (see one.0 (take one.1 locks)) ∷ xs) (viewed-dones see types (drop one.1 locks) rest)

pub seen-length : {R L : Type 0} (see : R → List L → postfix.Evaluated) (locks : List L) (pairs : List (R × ℕ)) → length (seen see locks pairs) ≡ length pairs
seen-length see locks [] = refl
seen-length see locks (one ∷ rest) = ap suc (seen-length see (drop one.1 locks) rest)

pub sized-first : {R : Type 0} (types : Table) (xs ys : List (Item R Waiting)) → AreSized types (xs ++ ys) → AreSized types xs
sized-first types [] ys h = tt
sized-first types (Done result weight ∷ xs) ys h = sized-first types xs ys h
sized-first types (Waits one operands ∷ xs) ys h = (h.0, sized-first types xs ys h.1)

pub sized-second : {R : Type 0} (types : Table) (xs ys : List (Item R Waiting)) → AreSized types (xs ++ ys) → AreSized types ys
sized-second types [] ys h = h
sized-second types (Done result weight ∷ xs) ys h = sized-second types xs ys h
sized-second types (Waits one operands ∷ xs) ys h = sized-second types xs ys h.1

pub sized-both : {R : Type 0} (types : Table) (xs ys : List (Item R Waiting)) → AreSized types xs → AreSized types ys → AreSized types (xs ++ ys)
sized-both types [] ys a b = b
sized-both types (Done result weight ∷ xs) ys a b = sized-both types xs ys a b
sized-both types (Waits one operands ∷ xs) ys a b = (a.0, sized-both types xs ys a.1 b)

same-one : (b : Bool) → (if b then 1 else 0) ≡ one_if b
same-one true = refl
same-one false = refl

-- as many nodes are ready
pub ready-viewed : {R L : Type 0} (see : R → List L → postfix.Evaluated) (types : Table) (locks : List L) (n : ℕ) (xs : List (Item R Waiting)) → AreSized types xs
    → ready_count n (viewed see types locks xs) ≡ ready_in n xs
ready-viewed see types locks n [] h = refl
ready-viewed see types locks n (Done result weight ∷ xs) h = ready-viewed see types (drop weight locks) (suc n) xs h
ready-viewed see types locks n (Waits one operands ∷ xs) h =
    ap₂ (λ a b. a + b) (same-one (nat_le (arity (view_of_waiting types one).slots) n) ∙ ap (λ k. one_if (nat_le k n)) (sym h.0)) (ready-viewed see types locks 0 xs h.1)

-- ---- what was taken

module _ {R L : Type 0} (see : R → List L → postfix.Evaluated) (types : Table) (choice : ℕ) (old new : List (Item R Waiting) × List (Item R Waiting)) (locks first own last : List L) (run : Run) (all : Taken R)
    (stands : Stands see types old locks run) (taken : IsTaken choice old new all) (split : locks ≡ first ++ (own ++ last)) (first_weighed : length first ≡ weight_in new.0) (own_weighed : length own ≡ all.locks) where
  abbrev pub node_taken : postfix.Waiting
  node_taken = view_of_waiting types all.node

  -- its operands
  abbrev pub operands_taken : List postfix.Evaluated
  operands_taken = seen see own taken.pairs

  -- the tree without it
  abbrev pub hole_taken : Hole
  hole_taken = hole_of (viewed see types first new.0) (viewed see types last new.1)

  sized : AreSized types ((new.0 ++ dones taken.pairs) ++ Waits all.node taken.count ∷ new.1)
  sized = subst (AreSized types) taken.same stands.sized

  sized-node : AreSized types (Waits all.node taken.count ∷ new.1)
  sized-node = sized-second types (new.0 ++ dones taken.pairs) (Waits all.node taken.count ∷ new.1) sized

  sized-front : AreSized types (new.0 ++ dones taken.pairs)
  sized-front = sized-first types (new.0 ++ dones taken.pairs) (Waits all.node taken.count ∷ new.1) sized

  own-weight : weight_in (dones {N = Waiting} taken.pairs) ≡ length own
  own-weight = taken.locks ∙ sym own_weighed

  pub last-weight : length last ≡ weight_in new.1
  last-weight =
      let a = ap weight_in (sym taken.same) ∙ stands.weighed in
      let b = ap length split ∙ (length-append first (own ++ last) ∙ ap (λ n. length first + n) (length-append own last)) in
      let c = weight-append (new.0 ++ dones taken.pairs) (Waits all.node taken.count ∷ new.1) in
      let d = weight-append new.0 (dones taken.pairs) in
      sums (weight_in new.0) (weight_in (dones {N = Waiting} taken.pairs)) (weight_in new.1) (length first) (length own) (length last) _ _ _ a b c d first_weighed own-weight
    where
      sums : (x y z l m n t u v : ℕ) → t ≡ u → u ≡ l + (m + n) → t ≡ v + (0 + z) → v ≡ x + y → l ≡ x → y ≡ m → n ≡ z
      sums x y z l m n t u v a b c d e f = omega (arith, a, b, c, d, e, f)

  -- the items of the tree
  pub items-taken : items run ≡ viewed see types first new.0 ++ (map postfix.evaluated operands_taken ++ postfix.waiting node_taken ∷ viewed see types last new.1)
  items-taken =
      sym stands.same
      ∙ (ap₂ (λ l xs. viewed see types l xs) split (taken.same ∙ append_assoc new.0 (dones taken.pairs) (Waits all.node taken.count ∷ new.1))
      ∙ (viewed-append see types first (own ++ last) new.0 (dones taken.pairs ++ Waits all.node taken.count ∷ new.1) (sym first_weighed)
      ∙ ap (λ rest. viewed see types first new.0 ++ rest)
      (viewed-append see types own last (dones taken.pairs) (Waits all.node taken.count ∷ new.1) own-weight
      ∙ ap (λ xs. xs ++ postfix.waiting (view_of_waiting types all.node) ∷ viewed see types last new.1) (viewed-dones see types own taken.pairs))))

  size-taken : length operands_taken ≡ arity node_taken.slots
  size-taken = seen-length see own taken.pairs ∙ (taken.as_many ∙ sized-node.0)

  number-taken : ready_count 0 (viewed see types first new.0 ++ map postfix.evaluated operands_taken) ≡ number_of choice (ready_count 0 (items run))
  number-taken =
      ap (λ xs. ready_count 0 (viewed see types first new.0 ++ xs)) (sym (viewed-dones see types own taken.pairs))
      ∙ (ap (ready_count 0) (sym (viewed-append see types first own new.0 (dones taken.pairs) (sym first_weighed)))
      ∙ (ready-viewed see types (first ++ own) 0 (new.0 ++ dones taken.pairs) sized-front
      ∙ (taken.chosen ∙ ap (number_of choice) (sym (ready-viewed see types locks 0 (old.0 ++ old.1) stands.sized) ∙ ap (ready_count 0) stands.same))))

  -- Its step is the move of the number, or the last.
  pub move-taken : (scene : Scene) (world : World) (held : List At)
      → slice_get (moves scene world held run) (number_of choice (length (moves scene world held run))) ≡ Some (lifted (filled_in hole_taken) (hole_in hole_taken) (step_at scene world held node_taken operands_taken))
  move-taken scene world held =
      ap (λ n. slice_get (moves scene world held run) (number_of choice n)) (moves-counted scene world held run)
      ∙ (ap (slice_get (moves scene world held run)) (sym number-taken)
      ∙ move-at scene world held run (viewed see types first new.0) operands_taken node_taken (viewed see types last new.1) items-taken size-taken)

  -- The row stands for the tree without it.
  pub lacks-taken : Lacks see types new first last hole_taken
  lacks-taken = record {
    first_weighed = first_weighed;
    last_weighed = last-weight;
    sized_first = sized-first types new.0 (dones taken.pairs) sized-front;
    sized_last = sized-node.1;
    is = refl;
    fills = items-replaced run (viewed see types first new.0) operands_taken node_taken (viewed see types last new.1) items-taken size-taken;
  }

-- ---- what is put there

-- a result
pub given : {R L : Type 0} (see : R → List L → postfix.Evaluated) (types : Table) (row : List (Item R Waiting) × List (Item R Waiting)) (first own last : List L) (hole : Hole) (result : R) (weight : ℕ)
    → Lacks see types row first last hole → weight ≡ length own
    → Stands see types (row.0 ++ Done result weight ∷ [], row.1) (first ++ (own ++ last)) (filled_in hole (done (see result own).kind (see result own).result (see result own).locks))
given see types row first own last hole result weight h size = record {
  same =
      ap (viewed see types (first ++ (own ++ last))) (append_assoc row.0 (Done result weight ∷ []) row.1)
      ∙ (viewed-append see types first (own ++ last) row.0 (Done result weight ∷ row.1) (sym h.first_weighed)
      ∙ (ap (λ rest. viewed see types first row.0 ++ rest)
      (viewed-append see types own last (Done result weight ∷ []) row.1 (alone weight ∙ size)
      ∙ ap (λ l. postfix.evaluated (see result l) ∷ viewed see types last row.1) (ap (λ n. take n own) size ∙ take-whole own))
      ∙ sym (h.fills (done (see result own).kind (see result own).result (see result own).locks))));
  sized = sized-both types (row.0 ++ Done result weight ∷ []) row.1 (sized-both types row.0 (Done result weight ∷ []) h.sized_first tt) h.sized_last;
  weighed =
      let a = weight-append (row.0 ++ Done result weight ∷ []) row.1 in
      let b = weight-append row.0 (Done result weight ∷ []) in
      let c = length-append first (own ++ last) in
      let d = length-append own last in
      let e = h.first_weighed in
      let f = h.last_weighed in
      omega (arith, a, b, c, d, e, f, size);
}
  where
    alone : (n : ℕ) → n + 0 ≡ n
    alone n = omega arith

    take-whole : {X : Type 0} (xs : List X) → take (length xs) xs ≡ xs
    take-whole [] = refl
    take-whole (x ∷ xs) = ap (λ rest. x ∷ rest) (take-whole xs)

-- ---- trees of which nothing is evaluated

pub viewed-waiting : {R L : Type 0} (see : R → List L → postfix.Evaluated) (types : Table) (locks : List L) (put : List (Item R Waiting)) (others : List postfix.Item) (rest : List (Item R Waiting)) → AreWaiting types put others
    → viewed see types locks (put ++ rest) ≡ others ++ viewed see types locks rest
viewed-waiting see types locks [] [] rest h = refl
viewed-waiting see types locks [] (other ∷ others) rest h = absurd h
viewed-waiting see types locks (Done result weight ∷ put) others rest h = absurd h
viewed-waiting see types locks (Waits one operands ∷ put) [] rest h = absurd h
viewed-waiting see types locks (Waits one operands ∷ put) (postfix.evaluated other ∷ others) rest h = absurd h
viewed-waiting see types locks (Waits one operands ∷ put) (postfix.waiting other ∷ others) rest h =
    ap₂ (λ w xs. postfix.waiting w ∷ xs) h.0 (viewed-waiting see types locks put others rest h.2)

sized-waiting : {R : Type 0} (types : Table) (put : List (Item R Waiting)) (others : List postfix.Item) → AreWaiting types put others → AreSized types put
sized-waiting types [] others h = tt
sized-waiting types (Done result weight ∷ put) others h = absurd h
sized-waiting types (Waits one operands ∷ put) [] h = absurd h
sized-waiting types (Waits one operands ∷ put) (postfix.evaluated other ∷ others) h = absurd h
sized-waiting types (Waits one operands ∷ put) (postfix.waiting other ∷ others) h =
    (h.1 ∙ ap (λ (w : postfix.Waiting). arity w.slots) (sym h.0), sized-waiting types put others h.2)

weight-waiting : {R : Type 0} (types : Table) (put : List (Item R Waiting)) (others : List postfix.Item) → AreWaiting types put others → weight_in put ≡ 0
weight-waiting types [] others h = refl
weight-waiting types (Done result weight ∷ put) others h = absurd h
weight-waiting types (Waits one operands ∷ put) [] h = absurd h
weight-waiting types (Waits one operands ∷ put) (postfix.evaluated other ∷ others) h = absurd h
weight-waiting types (Waits one operands ∷ put) (postfix.waiting other ∷ others) h = let none = weight-waiting types put others h.2 in omega (arith, none)

-- an expression that begins
pub begins : {R L : Type 0} (see : R → List L → postfix.Evaluated) (types : Table) (tree : Core) (row : List (Item R Waiting) × List (Item R Waiting)) → IsPut tree ([], []) row
    → Stands see types row [] (begun (view types tree))
begins {R} {L} see types tree row h =
    let waits = h.waits types in
    let whole : row.0 ++ row.1 ≡ h.put = ap₂ (λ xs ys. xs ++ ys) h.in_front h.behind ∙ append-nil h.put in
    record {
      same = ap (viewed see types []) (whole ∙ sym (append-nil h.put)) ∙ (viewed-waiting see types [] h.put waits.0 [] waits.2 ∙ (append-nil waits.0 ∙ waits.1));
      sized = subst (AreSized types) (sym whole) (sized-waiting types h.put waits.0 waits.2);
      weighed = ap weight_in whole ∙ weight-waiting types h.put waits.0 waits.2;
    }

-- a node that waits for the value of one operand
going : (doing : Doing) → open_parts doing ≡ every → (kind : CType) (place : Place) (run : Run)
    → items (going_on doing kind place run) ≡ items run ++ postfix.waiting (node_of doing kind place (operand no_slots)) ∷ []
going doing is kind place run =
    ap (λ opens. items_in opens (more_runs run no_runs) ++ postfix.waiting (node_of doing kind place (slots_of opens (more_runs run no_runs))) ∷ []) is
    ∙ ap (λ xs. xs ++ postfix.waiting (node_of doing kind place (operand no_slots)) ∷ []) (append-nil (items run))

-- an operand that was chosen, with its node behind it
pub picked : {R L : Type 0} (see : R → List L → postfix.Evaluated) (types : Table) (row new : List (Item R Waiting) × List (Item R Waiting)) (first last : List L) (hole : Hole) (outer : Waiting) (inner : Core)
    (doing : Doing) (kind : CType) (place : Place) → open_parts doing ≡ every → view_of_waiting types outer ≡ node_of doing kind place (operand no_slots)
    → Lacks see types row first last hole → IsPut inner (row.0, Waits outer 1 ∷ row.1) new
    → Stands see types new (first ++ last) (filled_in hole (going_on doing kind place (begun (view types inner))))
picked {R} see types row new first last hole outer inner doing kind place every_open outer_is h put =
    let waits = put.waits types in
    let rest : List (Item R Waiting) = Waits outer 1 ∷ row.1 in
    let whole : new.0 ++ new.1 ≡ row.0 ++ (put.put ++ rest) = ap₂ (λ xs ys. xs ++ ys) put.in_front put.behind in
    let waiter = postfix.waiting (node_of doing kind place (operand no_slots)) in
    let last_view = viewed see types last row.1 in
    record {
      same =
          ap (viewed see types (first ++ last)) whole
          ∙ (viewed-append see types first last row.0 (put.put ++ rest) (sym h.first_weighed)
          ∙ (ap (λ xs. viewed see types first row.0 ++ xs)
          (viewed-waiting see types last put.put waits.0 rest waits.2
          ∙ (ap₂ (λ xs w. xs ++ postfix.waiting w ∷ last_view) waits.1 outer_is
          ∙ (sym (append_assoc (items (begun (view types inner))) (waiter ∷ []) last_view)
          ∙ ap (λ xs. xs ++ last_view) (sym (going doing every_open kind place (begun (view types inner)))))))
          ∙ sym (h.fills (going_on doing kind place (begun (view types inner))))));
      sized = subst (AreSized types) (sym whole)
          (sized-both types row.0 (put.put ++ rest) h.sized_first
          (sized-both types put.put rest (sized-waiting types put.put waits.0 waits.2) (sym (ap (λ (w : postfix.Waiting). arity w.slots) outer_is), h.sized_last)));
      weighed =
          let a = ap weight_in whole ∙ weight-append row.0 (put.put ++ rest) in
          let b = weight-append put.put rest in
          let c = weight-waiting types put.put waits.0 waits.2 in
          let d = length-append first last in
          let e = h.first_weighed in
          let f = h.last_weighed in
          omega (arith, a, b, c, d, e, f);
    }

-- the nodes that wait so
pub waiting-truth : (tree : Tree) → waiting_of GivesTruth tree ≡ node_of gives_truth (kind_of tree) (spans_of tree).place (operand no_slots)
waiting-truth (node label kind spans parts) = refl

pub waiting-value : (tree : Tree) → waiting_of GivesValue tree ≡ node_of gives_value (kind_of tree) (spans_of tree).place (operand no_slots)
waiting-value (node label kind spans parts) = refl
