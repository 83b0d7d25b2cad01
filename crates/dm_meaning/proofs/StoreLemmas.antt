-- What each store in an object keeps true of memory, each step of an expression does.
use Rattle.std.specs.Prelude.{◌⊎◌, ℕ, Bool, true, false, List, [], ◌∷◌, ◌++◌, map, Option, Some, None}
use Rattle.std.proofs.Common.{sym, subst, inl, inr}
use Rattle.dm_token.specs.declared.place.Place.{Place}
use Rattle.dm_type.specs.CTypes.{CType}
use Rattle.dm_tree.specs.Trees.{Label, both, either, choose, comma, call, sizeof_tree}
use Rattle.dm_tree.specs.Units.{Declaration}
use Rattle.dm_meaning.specs.Among.{IsAmong}
use Rattle.dm_meaning.specs.Values.{At, Value}
use Rattle.dm_meaning.specs.Memory.{Memory, written}
use Rattle.dm_meaning.specs.Primitives.{Answer, answers, stops, refuses, Prim}
use Rattle.dm_meaning.specs.Programs.{Definition, layout, declaration_of, definition_of}
use Rattle.dm_meaning.specs.Operations.{Operand, World, Scene, Did, gives, breaks, ends_with, Truth, holds, untold, truth_of, operate}
use Rattle.dm_meaning.specs.Running.{Doing, evaluates, gives_truth, gives_value, Run, done, to_do, Runs, no_runs, more_runs, locks_in_all, Open, first_open, others_open, open_parts, operands_in, Hole, within, Holes, in_first, in_others}
use Rattle.dm_meaning.specs.Expressions.{Move, goes, calls, fails, exits, lifted, as_move, by_truth, on_operand, value_of, answered, undefined_called, called, call_step, function_named, nth_run, form_step, node_step, own_or_inner, where_open, moves, moves_in}
use Rattle.dm_meaning.proofs.AmongLemmas.{among_either, among-map_from}
use Rattle.dm_meaning.proofs.ChangeLemmas.{Changes, DidChanges, number_changes, operate_changes}

module _ (Kept : Memory → Type 0) (stored : (at : At) (value : Value) (memory : Memory) → Kept memory → Kept (written memory at value))
    (scene : Scene) (world : World) (locks : List At) (kept : Kept world.memory) where
  abbrev pub MoveKeeps : {T H : Type 0} → Move T H → Type 0
  MoveKeeps (goes after t) = Kept after.memory
  MoveKeeps (calls f arguments kind h) = Unit {0}
  MoveKeeps (fails cause place) = Unit {0}
  MoveKeeps (exits status) = Unit {0}

  lifted_keeps : {T H U G : Type 0} (f : T → U) (g : H → G) (m : Move T H) → MoveKeeps m → MoveKeeps (lifted f g m)
  lifted_keeps f g (goes after t) h = h
  lifted_keeps f g (calls e arguments kind a) h = tt
  lifted_keeps f g (fails cause place) h = tt
  lifted_keeps f g (exits status) h = tt

  changes_keep : (later : World) (new : List At) → Changes world later new → Kept later.memory
  changes_keep later new (inl (e, f)) = subst (λ (w : World). Kept w.memory) (sym e) kept
  changes_keep later new (inr (at, value, e, f, made)) = subst (λ (w : World). Kept w.memory) (sym e) (stored at value world.memory kept)

  did_keeps : (kind : CType) (place : Place) (own : List At) (did : Did) → DidChanges scene world locks did → MoveKeeps (as_move kind place own did)
  did_keeps kind place own (gives later result new) h = changes_keep later new h
  did_keeps kind place own (breaks cause) h = tt
  did_keeps kind place own (ends_with status) h = tt

  truth_keeps : (place : Place) (truth : Truth) (following : Bool → Run) → MoveKeeps (by_truth world place truth following)
  truth_keeps place (holds b) following = kept
  truth_keeps place (untold cause) following = tt

  operand_keeps : (place : Place) (operands : List Operand) (following : Operand → Move Run Hole) → ((a : Operand) → MoveKeeps (following a)) → MoveKeeps (on_operand place operands following)
  operand_keeps place [] following h = tt
  operand_keeps place (a ∷ []) following h = h a
  operand_keeps place (a ∷ b ∷ rest) following h = tt

  answered_keeps : (kind : CType) (place : Place) (answer : Option Answer) → MoveKeeps (answered world kind place answer)
  answered_keeps kind place None = tt
  answered_keeps kind place (Some (answers value input output)) = kept
  answered_keeps kind place (Some (stops status)) = tt
  answered_keeps kind place (Some (refuses cause)) = tt

  undefined_keeps : (kind : CType) (place : Place) (arguments : List Value) (o : Option Declaration) → MoveKeeps (undefined_called scene world kind place arguments o)
  undefined_keeps kind place arguments None = tt
  undefined_keeps kind place arguments (Some declaration) = answered_keeps kind place (Prim declaration.name declaration.kind (layout scene.program) world.memory arguments world.input world.output)

  called_keeps : (kind : CType) (place : Place) (arguments : List Value) (d : ℕ) (o : Option Definition) → MoveKeeps (called scene world kind place arguments d o)
  called_keeps kind place arguments d None = undefined_keeps kind place arguments (declaration_of scene.program d)
  called_keeps kind place arguments d (Some definition) = tt

  call_keeps : (kind : CType) (place : Place) (arguments : List Value) (o : Option ℕ) → MoveKeeps (call_step scene world kind place arguments o)
  call_keeps kind place arguments None = tt
  call_keeps kind place arguments (Some d) = called_keeps kind place arguments d (definition_of scene.program d)

  form_keeps : (label : Label) (kind : CType) (place : Place) (members : Runs) (operands : List Operand) → MoveKeeps (form_step scene world locks label kind place members operands)
  form_keeps both kind place members operands = operand_keeps place operands _ (λ a. truth_keeps place (truth_of world.memory (value_of a.result)) _)
  form_keeps either kind place members operands = operand_keeps place operands _ (λ a. truth_keeps place (truth_of world.memory (value_of a.result)) _)
  form_keeps choose kind place members operands = operand_keeps place operands _ (λ a. truth_keeps place (truth_of world.memory (value_of a.result)) _)
  form_keeps comma kind place members operands = kept
  form_keeps call kind place members operands = call_keeps kind place (map (λ a. value_of a.result) operands) (function_named (nth_run 0 members))
  form_keeps sizeof_tree kind place members operands = did_keeps kind place [] _ (number_changes scene world locks kind _)
  form_keeps label kind place members operands = did_keeps kind place (locks_in_all members) (operate scene world locks label kind operands) (operate_changes scene world locks label kind operands)

  node_keeps : (doing : Doing) (kind : CType) (place : Place) (members : Runs) (operands : List Operand) → MoveKeeps (node_step scene world locks doing kind place members operands)
  node_keeps (evaluates label) kind place members operands = form_keeps label kind place members operands
  node_keeps gives_truth kind place members operands = operand_keeps place operands _ (λ a. truth_keeps place (truth_of world.memory (value_of a.result)) _)
  node_keeps gives_value kind place members operands = operand_keeps place operands _ (λ a. kept)

  own_keeps : {T H : Type 0} (o : Option (List Operand)) (own : List Operand → Move T H) (inner : List (Move T H)) → ((operands : List Operand) → MoveKeeps (own operands))
      → ((m : Move T H) → IsAmong m inner → MoveKeeps m) → (m : Move T H) → IsAmong m (own_or_inner o own inner) → MoveKeeps m
  own_keeps (Some operands) own inner h k m (inl e) = subst MoveKeeps (sym e) (h operands)
  own_keeps (Some operands) own inner h k m (inr e) = absurd e
  own_keeps None own inner h k m e = k m e

  mapped_keeps : {T H U G : Type 0} (f : T → U) (g : H → G) (ms : List (Move T H)) → ((m : Move T H) → IsAmong m ms → MoveKeeps m) → (m : Move U G) → IsAmong m (map (lifted f g) ms) → MoveKeeps m
  mapped_keeps f g ms h m e = let from = among-map_from (lifted f g) m ms e in subst MoveKeeps (sym from.2) (lifted_keeps f g from.0 (h from.0 from.1))

  open_keeps : {T H : Type 0} (opened : Bool) (xs : List (Move T H)) → ((m : Move T H) → IsAmong m xs → MoveKeeps m) → (m : Move T H) → IsAmong m (where_open opened xs) → MoveKeeps m
  open_keeps true xs h m e = h m e
  open_keeps false xs h m e = absurd e

  joined_keeps : {T H : Type 0} (xs ys : List (Move T H)) → ((m : Move T H) → IsAmong m xs → MoveKeeps m) → ((m : Move T H) → IsAmong m ys → MoveKeeps m) → (m : Move T H) → IsAmong m (xs ++ ys) → MoveKeeps m
  joined_keeps xs ys h k m e = pick (among_either m xs ys e)
    where
      pick : IsAmong m xs ⊎ IsAmong m ys → MoveKeeps m
      pick (inl a) = h m a
      pick (inr b) = k m b

  mutual
    pub moves_keep : (run : Run) (m : Move Run Hole) → IsAmong m (moves scene world locks run) → MoveKeeps m
    moves_keep (done kind result own) m e = absurd e
    moves_keep (to_do doing kind place members) m e =
        own_keeps (operands_in (open_parts doing) members) (node_step scene world locks doing kind place members)
        (map (lifted (to_do doing kind place) (within doing kind place)) (moves_in scene world locks (open_parts doing) members))
        (node_keeps doing kind place members)
        (mapped_keeps (to_do doing kind place) (within doing kind place) (moves_in scene world locks (open_parts doing) members) (moves_in_keep members (open_parts doing))) m e

    moves_in_keep : (members : Runs) (opens : Open) (m : Move Runs Holes) → IsAmong m (moves_in scene world locks opens members) → MoveKeeps m
    moves_in_keep no_runs opens m e = absurd e
    moves_in_keep (more_runs first rest) opens m e =
        joined_keeps (where_open (first_open opens) (map (lifted (λ run. more_runs run rest) (λ hole. in_first hole rest)) (moves scene world locks first)))
        (map (lifted (more_runs first) (in_others first)) (moves_in scene world locks (others_open opens) rest))
        (open_keeps (first_open opens) (map (lifted (λ run. more_runs run rest) (λ hole. in_first hole rest)) (moves scene world locks first))
        (mapped_keeps (λ run. more_runs run rest) (λ hole. in_first hole rest) (moves scene world locks first) (moves_keep first)))
        (mapped_keeps (more_runs first) (in_others first) (moves_in scene world locks (others_open opens) rest) (moves_in_keep rest (others_open opens))) m e
