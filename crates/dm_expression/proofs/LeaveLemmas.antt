-- What a step of an expression leaves, from the expression before the node was taken out.
use Rattle.std.proofs.Common.{◌≡◌, ℕ, zero, suc, ◌+◌, ◌≤◌, List, [], ◌∷◌, ◌++◌, length, take, drop, Option, Some, slice_get, refl, sym, ap, subst, ◌∙◌, arith, append_assoc}
use Rattle.std.proofs.lemmas.List.{length-append, length-drop, length-take-le, take-append-drop}
use Rattle.dm_token.specs.declared.place.Place.{Place}
use Rattle.dm_type.specs.CTypes.{CType}
use Rattle.dm_type.specs.Tables.{Table}
use Rattle.dm_tree.specs.declared.tree.Core.{Core}
use Rattle.dm_tree.specs.Views.{view}
use Rattle.dm_meaning.specs.Values.{At}
use Rattle.dm_meaning.specs.Operations.{World, Scene}
use Rattle.dm_meaning.specs.Running.{Doing, Run, done, begun, every, open_parts, Hole, filled_in, hole_in}
use Rattle.dm_meaning.specs.Expressions.{lifted, going_on, moves}
use Rattle.dm_row.specs.declared.item.Item.{Item}
use Rattle.dm_row.specs.declared.item.Item.TheVariants.{Done, Waits}
use Rattle.dm_row.specs.Counts.{weight_in}
use Rattle.dm_postfix.specs.Postfix as postfix
use Rattle.dm_postfix.specs.Postfix.{operand, no_slots, node_of, hole_of}
use Rattle.dm_postfix.specs.Reductions.{step_at}
use Rattle.dm_expression.specs.declared.waiting.Waiting.{Waiting}
use Rattle.dm_expression.specs.declared.results.Taken.{Taken}
use Rattle.dm_expression.specs.Given.{lock_list, with_lock, without}
use Rattle.dm_expression.specs.Left.{seen}
use Rattle.dm_expression.specs.Standing.{viewed, Stands, Lacks}
use Rattle.dm_expression.specs.Taken.{dones, number_of, IsTaken}
use Rattle.dm_expression.specs.Waiting.{view_of_waiting, IsPut}
use Rattle.dm_expression.proofs.StandLemmas.{move-taken, lacks-taken, given, picked}
use Rattle.dm_expression.proofs.TakenLemmas.{weight-append}

-- ---- locks in front of the place, of the operands, and behind the place

drop-twice : {X : Type 0} (m n : ℕ) (xs : List X) → drop n (drop m xs) ≡ drop (m + n) xs
drop-twice zero n xs = ap (λ k. drop k xs) (none-before n)
  where
    none-before : (k : ℕ) → k ≡ 0 + k
    none-before k = omega arith
drop-twice {X = X} (suc m) n [] = empty n ∙ sym (empty (suc m + n))
  where
    empty : (k : ℕ) → ◌≡◌ {A = List X} (drop k []) []
    empty zero = refl
    empty (suc k) = refl
drop-twice (suc m) n (x ∷ xs) = drop-twice m n xs ∙ ap (λ k. drop k (x ∷ xs)) (more m n)
  where
    more : (a b : ℕ) → suc (a + b) ≡ suc a + b
    more a b = omega arith

module _ {L : Type 0} (at count : ℕ) (locks : List L) (room : at + count ≤ length locks) where
  abbrev pub first_locks : List L
  first_locks = take at locks

  abbrev pub own_locks : List L
  own_locks = take count (drop at locks)

  abbrev pub last_locks : List L
  last_locks = drop count (drop at locks)

  pub split-locks : locks ≡ first_locks ++ (own_locks ++ last_locks)
  split-locks = sym (ap (λ rest. take at locks ++ rest) (take-append-drop count (drop at locks)) ∙ take-append-drop at locks)

  pub first-size : length first_locks ≡ at
  first-size = length-take-le at locks (omega (arith, room))

  pub own-size : length own_locks ≡ count
  own-size = let left = length-drop at locks in length-take-le count (drop at locks) (omega (arith, room, left))

  -- with a lock in front of those of the operands
  pub locks-given : (lock : Option L) → with_lock at lock locks ≡ first_locks ++ ((lock_list lock ++ own_locks) ++ last_locks)
  locks-given lock =
      ap (λ rest. first_locks ++ (lock_list lock ++ rest)) (sym (take-append-drop count (drop at locks)))
      ∙ ap (λ rest. first_locks ++ rest) (sym (append_assoc (lock_list lock) own_locks last_locks))

  -- without those of the operands
  pub locks-released : without at count locks ≡ first_locks ++ last_locks
  locks-released = ap (λ rest. first_locks ++ rest) (sym (drop-twice at count locks))

-- ---- the step

module _ {R L : Type 0} (see : R → List L → postfix.Evaluated) (types : Table) (choice : ℕ) (old new : List (Item R Waiting) × List (Item R Waiting)) (locks : List L) (run : Run) (all : Taken R)
    (stands : Stands see types old locks run) (taken : IsTaken choice old new all) where
  -- the operands' locks are there
  pub room-taken : weight_in new.0 + all.locks ≤ length locks
  room-taken =
      let a = ap weight_in (sym taken.same) ∙ stands.weighed in
      let b = weight-append (new.0 ++ dones taken.pairs) (Waits all.node taken.count ∷ new.1) in
      let c = weight-append new.0 (dones taken.pairs) in
      let d = taken.locks in
      omega (arith, a, b, c, d)

  abbrev pub front_of : List L
  front_of = take (weight_in new.0) locks

  abbrev pub own_of : List L
  own_of = take all.locks (drop (weight_in new.0) locks)

  abbrev pub rest_of : List L
  rest_of = drop all.locks (drop (weight_in new.0) locks)

  -- the tree without the node
  abbrev pub hole_left : Hole
  hole_left = hole_of (viewed see types front_of new.0) (viewed see types rest_of new.1)

  lacks : Lacks see types new front_of rest_of hole_left
  lacks = lacks-taken see types choice old new locks front_of own_of rest_of run all stands taken
      (split-locks (weight_in new.0) all.locks locks room-taken) (first-size (weight_in new.0) all.locks locks room-taken) (own-size (weight_in new.0) all.locks locks room-taken)

  -- The move of the number, or the last, is the step of the node with its operands.
  pub move-left : (scene : Scene) (world : World) (held : List At)
      → slice_get (moves scene world held run) (number_of choice (length (moves scene world held run)))
      ≡ Some (lifted (filled_in hole_left) (hole_in hole_left) (step_at scene world held (view_of_waiting types all.node) (seen see own_of taken.pairs)))
  move-left scene world held =
      move-taken see types choice old new locks front_of own_of rest_of run all stands taken
      (split-locks (weight_in new.0) all.locks locks room-taken) (first-size (weight_in new.0) all.locks locks room-taken) (own-size (weight_in new.0) all.locks locks room-taken) scene world held

  -- A result with the operands' locks, and with another one in front of them, if there is one.
  pub result-left : (value : R) (lock : Option L)
      → Stands see types (new.0 ++ Done value (all.locks + length (lock_list lock)) ∷ [], new.1) (with_lock (weight_in new.0) lock locks)
      (filled_in hole_left (done (see value (lock_list lock ++ own_of)).kind (see value (lock_list lock ++ own_of)).result (see value (lock_list lock ++ own_of)).locks))
  result-left value lock =
      let size = length-append (lock_list lock) own_of in
      let own = own-size (weight_in new.0) all.locks locks room-taken in
      subst (λ l. Stands see types (new.0 ++ Done value (all.locks + length (lock_list lock)) ∷ [], new.1) l
      (filled_in hole_left (done (see value (lock_list lock ++ own_of)).kind (see value (lock_list lock ++ own_of)).result (see value (lock_list lock ++ own_of)).locks)))
      (sym (locks-given (weight_in new.0) all.locks locks room-taken lock))
      (given see types new front_of (lock_list lock ++ own_of) rest_of hole_left value (all.locks + length (lock_list lock)) lacks (omega (arith, size, own)))

  -- Where the operands' locks are released, the expression stands for the tree without the node.
  pub hole-released : (without (weight_in new.0) all.locks locks ≡ front_of ++ rest_of) × Lacks see types new front_of rest_of hole_left
  hole-released = (locks-released (weight_in new.0) all.locks locks room-taken, lacks)

  -- An operand that was chosen, for whose value a node waits.
  pub operand-left : (last : List (Item R Waiting) × List (Item R Waiting)) (outer : Waiting) (inner : Core) (doing : Doing) (kind : CType) (place : Place) → open_parts doing ≡ every
      → view_of_waiting types outer ≡ node_of doing kind place (operand no_slots) → IsPut inner (new.0, Waits outer 1 ∷ new.1) last
      → Stands see types last (without (weight_in new.0) all.locks locks) (filled_in hole_left (going_on doing kind place (begun (view types inner))))
  operand-left last outer inner doing kind place every_open outer_is put =
      subst (λ l. Stands see types last l (filled_in hole_left (going_on doing kind place (begun (view types inner)))))
      (sym (locks-released (weight_in new.0) all.locks locks room-taken))
      (picked see types new last front_of rest_of hole_left outer inner doing kind place every_open outer_is lacks put)
