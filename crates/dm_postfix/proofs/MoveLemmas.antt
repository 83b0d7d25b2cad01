-- The moves of a tree are those of its ready nodes, from the left.
use Rattle.std.proofs.Common.{◌≡◌, Bool, true, false, List, [], ◌∷◌, ◌++◌, map, Option, Some, None, option_map, refl, sym, ap, ◌∙◌}
use Rattle.dm_token.specs.declared.place.Place.{Place}
use Rattle.dm_type.specs.CTypes.{CType}
use Rattle.dm_meaning.specs.Values.{At}
use Rattle.dm_meaning.specs.Operations.{Operand, World, Scene}
use Rattle.dm_meaning.specs.Running.{Doing, Run, done, to_do, Runs, no_runs, more_runs, Open, first_open, others_open, open_parts, operands_in, first_result, Hole, within, Holes, in_first, in_others, filled_in, all_filled_in, hole_in, holes_in}
use Rattle.dm_meaning.specs.Expressions.{Move, goes, calls, fails, exits, lifted, where_open, own_or_inner, node_step, moves, moves_in}
use Rattle.dm_postfix.specs.Postfix.{Evaluated}
use Rattle.dm_postfix.specs.Reductions.{Ready, as_operand, first_evaluated, evaluated_in, ready_or_inner, ready, ready_in, step_of, move_of}
use Rattle.dm_postfix.proofs.ListLemmas.{map-square, append-map}

-- ---- steps of steps

lifted-twice : {T H U G V F : Type 0} (t : T → U) (h : H → G) (u : U → V) (g : G → F) (m : Move T H) → lifted u g (lifted t h m) ≡ lifted (λ x. u (t x)) (λ x. g (h x)) m
lifted-twice t h u g (goes world tree) = refl
lifted-twice t h u g (calls f arguments kind hole) = refl
lifted-twice t h u g (fails cause place) = refl
lifted-twice t h u g (exits status) = refl

lifted-same : {T H : Type 0} (m : Move T H) → m ≡ lifted (λ x. x) (λ x. x) m
lifted-same (goes world tree) = refl
lifted-same (calls f arguments kind hole) = refl
lifted-same (fails cause place) = refl
lifted-same (exits status) = refl

-- ---- operands

first-operand : (opened : Bool) (first : Run) (operands : Option (List Operand)) (rest : Option (List Evaluated)) → operands ≡ option_map (map as_operand) rest
    → first_result opened first operands ≡ option_map (map as_operand) (first_evaluated opened first rest)
first-operand true (done kind result locks) operands (Some others) is = ap (first_result true (done kind result locks)) is
first-operand true (done kind result locks) operands None is = ap (first_result true (done kind result locks)) is
first-operand true (to_do doing kind place parts) operands rest is = refl
first-operand false first operands rest is = is

pub operands-evaluated : (opens : Open) (parts : Runs) → operands_in opens parts ≡ option_map (map as_operand) (evaluated_in opens parts)
operands-evaluated opens no_runs = refl
operands-evaluated opens (more_runs first rest) =
    first-operand (first_open opens) first (operands_in (others_open opens) rest) (evaluated_in (others_open opens) rest) (operands-evaluated (others_open opens) rest)

-- ---- moves

-- a step of a node below another one
move_in_of : Scene → World → List At → Holes × Ready → Move Runs Holes
move_in_of scene world locks one = lifted (all_filled_in one.0) (holes_in one.0) (step_of scene world locks one.1)

own-moves : (scene : Scene) (world : World) (locks : List At) (doing : Doing) (kind : CType) (place : Place) (parts : Runs)
    (operands : Option (List Operand)) (found : Option (List Evaluated)) (inner : List (Move Runs Holes)) (below : List (Holes × Ready))
    → operands ≡ option_map (map as_operand) found → inner ≡ map (move_in_of scene world locks) below
    → own_or_inner operands (node_step scene world locks doing kind place parts) (map (lifted (to_do doing kind place) (within doing kind place)) inner)
    ≡ map (move_of scene world locks) (ready_or_inner doing kind place parts found below)
unfolding move_in_of
own-moves scene world locks doing kind place parts operands (Some all) inner below is same =
    ap (λ o. own_or_inner o (node_step scene world locks doing kind place parts) (map (lifted (to_do doing kind place) (within doing kind place)) inner)) is
    ∙ ap (λ m. m ∷ []) (lifted-same (node_step scene world locks doing kind place parts (map as_operand all)))
own-moves scene world locks doing kind place parts operands None inner below is same =
    ap (λ o. own_or_inner o (node_step scene world locks doing kind place parts) (map (lifted (to_do doing kind place) (within doing kind place)) inner)) is
    ∙ (ap (map (lifted (to_do doing kind place) (within doing kind place))) same
    ∙ map-square (move_in_of scene world locks) (lifted (to_do doing kind place) (within doing kind place)) (λ one. (within doing kind place one.0, one.1)) (move_of scene world locks)
    (λ one. lifted-twice (all_filled_in one.0) (holes_in one.0) (to_do doing kind place) (within doing kind place) (step_of scene world locks one.1)) below)

open-moves : (scene : Scene) (world : World) (locks : List At) (opened : Bool) (rest : Runs) (own : List (Move Run Hole)) (found : List (Hole × Ready))
    → own ≡ map (move_of scene world locks) found
    → where_open opened (map (lifted (λ run. more_runs run rest) (λ hole. in_first hole rest)) own)
    ≡ map (move_in_of scene world locks) (where_open opened (map (λ one. (in_first one.0 rest, one.1)) found))
unfolding move_in_of
open-moves scene world locks false rest own found same = refl
open-moves scene world locks true rest own found same =
    ap (map (lifted (λ run. more_runs run rest) (λ hole. in_first hole rest))) same
    ∙ map-square (move_of scene world locks) (lifted (λ run. more_runs run rest) (λ hole. in_first hole rest)) (λ one. (in_first one.0 rest, one.1)) (move_in_of scene world locks)
    (λ one. lifted-twice (filled_in one.0) (hole_in one.0) (λ run. more_runs run rest) (λ hole. in_first hole rest) (step_of scene world locks one.1)) found

other-moves : (scene : Scene) (world : World) (locks : List At) (first : Run) (inner : List (Move Runs Holes)) (below : List (Holes × Ready))
    → inner ≡ map (move_in_of scene world locks) below
    → map (lifted (more_runs first) (in_others first)) inner ≡ map (move_in_of scene world locks) (map (λ one. (in_others first one.0, one.1)) below)
unfolding move_in_of
other-moves scene world locks first inner below same =
    ap (map (lifted (more_runs first) (in_others first))) same
    ∙ map-square (move_in_of scene world locks) (lifted (more_runs first) (in_others first)) (λ one. (in_others first one.0, one.1)) (move_in_of scene world locks)
    (λ one. lifted-twice (all_filled_in one.0) (holes_in one.0) (more_runs first) (in_others first) (step_of scene world locks one.1)) below

mutual
  -- the moves of a tree are those of its ready nodes, from the left
  pub moves-ready : (scene : Scene) (world : World) (locks : List At) (run : Run) → moves scene world locks run ≡ map (move_of scene world locks) (ready run)
  moves-ready scene world locks (done kind result own) = refl
  moves-ready scene world locks (to_do doing kind place parts) =
      own-moves scene world locks doing kind place parts (operands_in (open_parts doing) parts) (evaluated_in (open_parts doing) parts)
      (moves_in scene world locks (open_parts doing) parts) (ready_in (open_parts doing) parts)
      (operands-evaluated (open_parts doing) parts) (moves_in-ready scene world locks (open_parts doing) parts)

  moves_in-ready : (scene : Scene) (world : World) (locks : List At) (opens : Open) (parts : Runs)
      → moves_in scene world locks opens parts ≡ map (move_in_of scene world locks) (ready_in opens parts)
  moves_in-ready scene world locks opens no_runs = refl
  moves_in-ready scene world locks opens (more_runs first rest) =
      ap (λ own. own ++ map (lifted (more_runs first) (in_others first)) (moves_in scene world locks (others_open opens) rest))
      (open-moves scene world locks (first_open opens) rest (moves scene world locks first) (ready first) (moves-ready scene world locks first))
      ∙ (ap (λ others. map (move_in_of scene world locks) (where_open (first_open opens) (map (λ one. (in_first one.0 rest, one.1)) (ready first))) ++ others)
      (other-moves scene world locks first (moves_in scene world locks (others_open opens) rest) (ready_in (others_open opens) rest) (moves_in-ready scene world locks (others_open opens) rest))
      ∙ sym (append-map (move_in_of scene world locks) (where_open (first_open opens) (map (λ one. (in_first one.0 rest, one.1)) (ready first)))
      (map (λ one. (in_others first one.0, one.1)) (ready_in (others_open opens) rest))))
