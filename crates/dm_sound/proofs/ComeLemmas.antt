-- Trees under evaluation: what has just begun, what the operands of a node are, and what calls leave.
use Rattle.std.specs.Prelude.{◌≡◌, refl, ℕ, zero, suc, Bool, true, false, IsTrue, MatchBool, List, [], ◌∷◌, Option, Some, None}
use Rattle.std.proofs.Common.{subst, inl, inr}
use Rattle.std.proofs.lemmas.Bool.{false≢true}
use Rattle.dm_int.specs.declared.Kind.{Kind}
use Rattle.dm_type.specs.CTypes.{CType}
use Rattle.dm_tree.specs.Trees.{Label, Spans, Tree, Trees, node, no_trees, more_trees, trees_of, listed}
use Rattle.dm_tree.specs.Trees as label
use Rattle.dm_tree.specs.Typing.{AreWellTyped, inside, switch_kind}
use Rattle.dm_meaning.specs.Values.{Value}
use Rattle.dm_meaning.specs.Objects.{Layout}
use Rattle.dm_meaning.specs.Programs.{Program}
use Rattle.dm_meaning.specs.Operations.{of_value, Operand}
use Rattle.dm_meaning.specs.Running.{Doing, evaluates, gives_truth, gives_value, done, to_do, Runs, no_runs, more_runs, begun, all_begun, Open, every, only_first, but_first, nothing, first_open, others_open, open_of, operands_in, Hole, here, within, Holes, in_first, in_others, filled_in, all_filled_in}
use Rattle.dm_meaning.proofs.OptionLemmas.{none_is_some, some_is_some, mapped_some}
use Rattle.dm_sound.specs.TypedValues.{IsGiven}
use Rattle.dm_sound.specs.TypedTrees.{AreProperTrees, scene_in, IsTyped}
use Rattle.dm_sound.specs.TypedSteps.{AreOperands}
use Rattle.dm_sound.specs.TypedRuns.{only, ComesFrom, GoesOn, AllComeFrom, HoleComesFrom, HolesComeFrom}

-- a node goes on, by what its parts have come to
abbrev pub RunsGoOn : Layout → Tree → Doing → Runs → Type 0
RunsGoOn laid tree doing runs = GoesOn tree doing (λ opens parts. AllComeFrom laid opens parts runs)

abbrev pub HolesGoOn : Layout → Tree → CType → Doing → Holes → Type 0
HolesGoOn laid tree called doing holes = GoesOn tree doing (λ opens parts. HolesComeFrom laid called opens parts holes)

-- ---- parts of typed trees

abbrev pub AllTyped : Program → CType → Trees → Type 0
AllTyped program result no_trees = Unit {0}
AllTyped program result (more_trees first rest) = IsTyped program result first × AllTyped program result rest

module _ (program : Program) (result : CType) where
  abbrev pub Inside : Bool → Bool → Option Kind → Label → List Tree → Type 0
  Inside b c l form parts = (breaks : Bool) × (continues : Bool) × (labels : Option Kind) × (inside (scene_in program result b c l) form parts ≡ scene_in program result breaks continues labels)

  inside_scene : (b c : Bool) (l : Option Kind) (form : Label) (parts : List Tree) → Inside b c l form parts
  inside_scene b c l label.switch parts = (true, c, switch_kind parts, refl)
  inside_scene b c l label.case parts = (b, c, l, refl)
  inside_scene b c l label.default parts = (b, c, l, refl)
  inside_scene b c l label.while_loop parts = (true, true, None, refl)
  inside_scene b c l label.do_loop parts = (true, true, None, refl)
  inside_scene b c l (label.for_loop first second third) parts = (true, true, None, refl)
  inside_scene b c l form parts = (b, c, None, refl)

  all_typed : (b c : Bool) (l : Option Kind) (parts : Trees) → AreWellTyped (scene_in program result b c l) parts → AreProperTrees parts → AllTyped program result parts
  all_typed b c l no_trees h p = tt
  all_typed b c l (more_trees first rest) h p =
      (record { breaks = b; continues = c; labels = l; typed = h.0; proper = p.0 }, all_typed b c l rest h.1 p.1)

  -- the parts of a typed tree are typed
  pub typed_parts : (form : Label) (kind : CType) (spans : Spans) (parts : Trees) → IsTyped program result (node form kind spans parts) → AllTyped program result parts
  typed_parts form kind spans parts h =
      let there = inside_scene h.breaks h.continues h.labels form (listed parts) in
      all_typed there.0 there.1 there.2 parts (subst (λ place. AreWellTyped place parts) there.3 h.typed.1) h.proper.1

  pub typed_only : (n : ℕ) (parts : Trees) → AllTyped program result parts → AllTyped program result (only n parts)
  typed_only n no_trees h = tt
  typed_only zero (more_trees first rest) h = (h.0, tt)
  typed_only (suc n) (more_trees first rest) h = typed_only n rest h.1

-- ---- what has begun

part_begun : (b : Bool) (P Q : Type 0) → P → Q → MatchBool b P Q
part_begun true P Q p q = p
part_begun false P Q p q = q

mutual
  pub begun_comes : (laid : Layout) (tree : Tree) → ComesFrom laid tree (begun tree)
  begun_comes laid (node form kind spans parts) = (refl, (refl, all_begun_come laid (open_of form) parts))

  pub all_begun_come : (laid : Layout) (opens : Open) (parts : Trees) → AllComeFrom laid opens parts (all_begun parts)
  all_begun_come laid opens no_trees = tt
  all_begun_come laid opens (more_trees first rest) =
      (part_begun (first_open opens) (ComesFrom laid first (begun first)) (begun first ≡ begun first) (begun_comes laid first) refl, all_begun_come laid (others_open opens) rest)

-- ---- operands

pub operands_come : (laid : Layout) (opens : Open) (parts : Trees) (runs : Runs) (operands : List Operand) → AllComeFrom laid opens parts runs → operands_in opens runs ≡ Some operands → AreOperands laid opens parts operands
operands_come laid opens no_trees no_runs operands h e = subst (λ (xs : List Operand). AreOperands laid opens no_trees xs) (some_is_some [] operands e) tt
operands_come laid opens no_trees (more_runs run runs) operands h e = absurd h
operands_come laid opens (more_trees tree parts) no_runs operands h e = absurd h
operands_come laid every (more_trees tree parts) (more_runs (done kind given locks) runs) operands h e =
    let from = mapped_some (λ (xs : List Operand). record { kind = kind; result = given } ∷ xs) (operands_in every runs) operands e in
    subst (λ (xs : List Operand). AreOperands laid every (more_trees tree parts) xs) from.2 ((h.0.0, h.0.1), operands_come laid every parts runs from.0 h.1 from.1)
operands_come laid only_first (more_trees tree parts) (more_runs (done kind given locks) runs) operands h e =
    let from = mapped_some (λ (xs : List Operand). record { kind = kind; result = given } ∷ xs) (operands_in nothing runs) operands e in
    subst (λ (xs : List Operand). AreOperands laid only_first (more_trees tree parts) xs) from.2 ((h.0.0, h.0.1), operands_come laid nothing parts runs from.0 h.1 from.1)
operands_come laid every (more_trees tree parts) (more_runs (to_do doing kind place below) runs) operands h e = absurd (none_is_some operands e)
operands_come laid only_first (more_trees tree parts) (more_runs (to_do doing kind place below) runs) operands h e = absurd (none_is_some operands e)
operands_come laid but_first (more_trees tree parts) (more_runs run runs) operands h e = operands_come laid every parts runs operands h.1 e
operands_come laid nothing (more_trees tree parts) (more_runs run runs) operands h e = operands_come laid nothing parts runs operands h.1 e

-- ---- calls that have a value

part_filled : (b : Bool) (P Q R : Type 0) → IsTrue b → R → (R → P) → MatchBool b P Q
part_filled true P Q R is r f = f r
part_filled false P Q R is r f = absurd (false≢true is)

filled_on : (laid : Layout) (tree : Tree) (called : CType) (holes : Holes) (value : Value) → HolesGoOn laid tree called gives_value holes
    → (HolesComeFrom laid called every (only 1 (trees_of tree)) holes → IsGiven laid called value → AllComeFrom laid every (only 1 (trees_of tree)) (all_filled_in holes (done called (of_value value) [])))
    → (HolesComeFrom laid called every (only 2 (trees_of tree)) holes → IsGiven laid called value → AllComeFrom laid every (only 2 (trees_of tree)) (all_filled_in holes (done called (of_value value) [])))
    → IsGiven laid called value → RunsGoOn laid tree gives_value (all_filled_in holes (done called (of_value value) []))
filled_on laid tree called holes value (inl (e, h)) f g given = inl (e, f h given)
filled_on laid tree called holes value (inr (e, inl h)) f g given = inr (e, inl (f h given))
filled_on laid tree called holes value (inr (e, inr h)) f g given = inr (e, inr (g h given))

mutual
  pub filled_comes : (laid : Layout) (tree : Tree) (called : CType) (hole : Hole) (value : Value) → HoleComesFrom laid tree called hole → IsGiven laid called value
      → ComesFrom laid tree (filled_in hole (done called (of_value value) []))
  filled_comes laid tree called here value h given = (h.0, (h.1, subst (λ (t : CType). IsGiven laid t value) h.0 given))
  filled_comes laid tree called (within (evaluates form) kind place holes) value h given = (h.0, (h.1.0, all_filled_come laid (open_of form) (trees_of tree) called holes value h.1.1 given))
  filled_comes laid tree called (within gives_truth kind place holes) value h given = (h.0, (h.1.0, all_filled_come laid every (only 1 (trees_of tree)) called holes value h.1.1 given))
  filled_comes laid tree called (within gives_value kind place holes) value h given =
      (h.0, filled_on laid tree called holes value h.1 (all_filled_come laid every (only 1 (trees_of tree)) called holes value) (all_filled_come laid every (only 2 (trees_of tree)) called holes value) given)

  pub all_filled_come : (laid : Layout) (opens : Open) (parts : Trees) (called : CType) (holes : Holes) (value : Value) → HolesComeFrom laid called opens parts holes → IsGiven laid called value
      → AllComeFrom laid opens parts (all_filled_in holes (done called (of_value value) []))
  all_filled_come laid opens no_trees called holes value h given = absurd h
  all_filled_come laid opens (more_trees tree parts) called (in_first hole rest) value h given =
      (part_filled (first_open opens) (ComesFrom laid tree (filled_in hole (done called (of_value value) []))) _ (IsGiven laid called value) h.0 given (filled_comes laid tree called hole value h.1), h.2)
  all_filled_come laid opens (more_trees tree parts) called (in_others first holes) value h given =
      (h.0, all_filled_come laid (others_open opens) parts called holes value h.1 given)
