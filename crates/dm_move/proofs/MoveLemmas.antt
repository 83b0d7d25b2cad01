-- The state to which a choice leads is that of the step of the node that was taken.
use Rattle.std.proofs.Common.{◌≡◌, ℕ, ◌+◌, ◌≤◌, List, [], ◌∷◌, ◌++◌, length, map, take, drop, Some, option_map, slice_get, refl, sym, ap, subst, ◌∙◌}
use Rattle.std.proofs.lemmas.List.{length-map}
use Rattle.std.proofs.lemmas.Option.{none-some, slice_get-map}
use Rattle.dm_token.specs.declared.place.Place.{Place}
use Rattle.dm_type.specs.Tables.{Table}
use Rattle.dm_meaning.specs.Choices.{chosen}
use Rattle.dm_meaning.specs.Expressions.{Move, lifted, moves}
use Rattle.dm_meaning.specs.Programs.{Program}
use Rattle.dm_meaning.specs.Running.{Run, done, to_do, Hole, filled_in, hole_in, locks_in}
use Rattle.dm_meaning.specs.States as states
use Rattle.dm_meaning.specs.Steps.{moved, scene_of, expression_steps}
use Rattle.dm_value.specs.declared.place.At.{At}
use Rattle.dm_value.specs.Places.{view_of_at}
use Rattle.dm_operate.specs.declared.evaluation.Operand.{Operand}
use Rattle.dm_operate.specs.Evaluations.{view_of_operand}
use Rattle.dm_row.specs.Counts.{weight_in}
use Rattle.dm_row.specs.declared.item.Item.{Item}
use Rattle.dm_row.specs.declared.item.Item.TheVariants.{Waits}
use Rattle.dm_postfix.specs.Postfix as postfix
use Rattle.dm_postfix.specs.Postfix.{Evaluated, arity}
use Rattle.dm_postfix.specs.Reductions.{as_operand, step_at}
use Rattle.dm_expression.specs.declared.results.Taken.{Taken}
use Rattle.dm_expression.specs.declared.waiting.Waiting.{Waiting}
use Rattle.dm_expression.specs.Left.{seen}
use Rattle.dm_expression.specs.Standing.{viewed, AreSized, Lacks, Stands}
use Rattle.dm_expression.specs.Taken.{dones, number_of, results_of, IsTaken}
use Rattle.dm_expression.specs.Waiting.{view_of_waiting}
use Rattle.dm_expression.proofs.ChoiceLemmas.{chosen-there}
use Rattle.dm_expression.proofs.LeaveLemmas.{hole-released, move-left, own-size, room-taken}
use Rattle.dm_expression.proofs.NodeLemmas as nodes
use Rattle.dm_expression.proofs.StandLemmas.{seen-length, sized-second}
use Rattle.dm_state.specs.Standing.{see, AreFit}
use Rattle.dm_state.proofs.FitLemmas.{fit-both, fit-first, fit-second}
use Rattle.dm_move.specs.Operands.{AreKnownResults}
use Rattle.dm_move.specs.Steps.{locks_all, AreOperands}

-- ---- the state

moves-chosen : (program : Program) (choice : ℕ) (state : states.State) (names : ℕ → ℕ) (place : Place) (run : Run) (use_of : states.Use) (rest : List states.Task) (m : Move Run Hole)
    → slice_get (moves (scene_of program state) state.world (locks_in run) run) (number_of choice (length (moves (scene_of program state) state.world (locks_in run) run))) ≡ Some m
    → chosen state choice (expression_steps program names state rest place use_of run) ≡ moved program names state rest place use_of m
moves-chosen program choice state names place (done kind result locks) use_of rest m there = absurd (none-some m there)
moves-chosen program choice state names place (to_do doing kind at parts) use_of rest m there =
    let all = moves (scene_of program state) state.world (locks_in (to_do doing kind at parts)) (to_do doing kind at parts) in
    let step = moved program names state rest place use_of in
    chosen-there state choice (map step all) (step m)
    (ap (λ n. slice_get (map step all) (number_of choice n)) (length-map all step)
    ∙ (slice_get-map step all (number_of choice (length all)) ∙ ap (option_map step) there))

abbrev pub Both : Type 0
Both = List (Item Operand Waiting) × List (Item Operand Waiting)

-- ---- the operands

seen-operands : (table : Table) (locks : List At) (pairs : List (Operand × ℕ)) → map as_operand (seen (see table) locks pairs) ≡ map (view_of_operand table) (map (λ one. one.0) pairs)
seen-operands table locks [] = refl
seen-operands table locks (one ∷ pairs) = ap (λ rest. view_of_operand table one.0 ∷ rest) (seen-operands table (drop one.1 locks) pairs)

known-dones : (table : Table) (pairs : List (Operand × ℕ)) → AreFit table (dones pairs) → AreKnownResults table (map (λ one. one.0) pairs)
known-dones table [] h = tt
known-dones table (one ∷ pairs) h = (h.0, known-dones table pairs h.1)

same-locks : (own : List Evaluated) → nodes.locks_all own ≡ locks_all own
same-locks [] = refl
same-locks (one ∷ own) = ap (λ rest. one.locks ++ rest) (same-locks own)

module _ (table : Table) (choice : ℕ) (old new : Both) (locks : List At) (run : Run) (all : Taken Operand)
    (stands : Stands (see table) table old locks run) (taken : IsTaken choice old new all) (fits : AreFit table (old.0 ++ old.1)) where
  abbrev pub own-of : List At
  own-of = take all.locks (drop (weight_in new.0) locks)

  abbrev pub operands-of : List Evaluated
  operands-of = seen (see table) own-of taken.pairs

  pub room : weight_in new.0 + all.locks ≤ length locks
  room = room-taken (see table) table choice old new locks run all stands taken

  -- they are the node's
  pub are-operands : AreOperands table (results_of all.operands) (view_of_waiting table all.node).slots operands-of
  are-operands = record {
    same = seen-operands table own-of taken.pairs ∙ ap (map (view_of_operand table)) taken.results;
    all =
        let sized = sized-second table (new.0 ++ dones taken.pairs) (Waits all.node taken.count ∷ new.1) (subst (AreSized table) taken.same stands.sized) in
        seen-length (see table) own-of taken.pairs ∙ (taken.as_many ∙ sized.0);
  }

  pub locks-of : locks_all operands-of ≡ map view_of_at own-of
  locks-of =
      sym (same-locks operands-of)
      ∙ nodes.seen-locks (see table) view_of_at (λ result locks. refl) own-of taken.pairs (taken.locks ∙ sym (own-size (weight_in new.0) all.locks locks room))

  -- all locks of the tree are those of the expression
  pub held : locks_in run ≡ map view_of_at locks
  held = nodes.locks-stand (see table) view_of_at (λ result locks. refl) table old locks run stands

  left-fit : AreFit table ((new.0 ++ dones taken.pairs) ++ Waits all.node taken.count ∷ new.1)
  left-fit = subst (AreFit table) taken.same fits

  pub fits-left : AreFit table (new.0 ++ new.1)
  fits-left =
      let behind = fit-second table (new.0 ++ dones taken.pairs) (Waits all.node taken.count ∷ new.1) left-fit in
      fit-both table new.0 new.1 (fit-first table new.0 (dones taken.pairs) (fit-first table (new.0 ++ dones taken.pairs) (Waits all.node taken.count ∷ new.1) left-fit)) behind.2

  pub node-fits : AreFit table (Waits all.node taken.count ∷ new.1)
  node-fits = fit-second table (new.0 ++ dones taken.pairs) (Waits all.node taken.count ∷ new.1) left-fit

  pub results-known : AreKnownResults table (results_of all.operands)
  results-known =
      subst (AreKnownResults table) taken.results
      (known-dones table taken.pairs (fit-second table new.0 (dones taken.pairs) (fit-first table (new.0 ++ dones taken.pairs) (Waits all.node taken.count ∷ new.1) left-fit)))

  abbrev pub hole-of : Hole
  hole-of = postfix.hole_of (viewed (see table) table (take (weight_in new.0) locks) new.0) (viewed (see table) table (drop all.locks (drop (weight_in new.0) locks)) new.1)

  pub lacks-of : Lacks (see table) table new (take (weight_in new.0) locks) (drop all.locks (drop (weight_in new.0) locks)) hole-of
  lacks-of = (hole-released (see table) table choice old new locks run all stands taken).1

  -- the state that is chosen is that of the node's step
  pub step-chosen : (program : Program) (state : states.State) (names : ℕ → ℕ) (place : Place) (use_of : states.Use) (rest : List states.Task)
      → chosen state choice (expression_steps program names state rest place use_of run)
      ≡ moved program names state rest place use_of (lifted (filled_in hole-of) (hole_in hole-of)
      (step_at (scene_of program state) state.world (map view_of_at locks) (view_of_waiting table all.node) operands-of))
  step-chosen program state names place use_of rest =
      moves-chosen program choice state names place run use_of rest _
      (move-left (see table) table choice old new locks run all stands taken (scene_of program state) state.world (locks_in run))
      ∙ ap (λ l. moved program names state rest place use_of (lifted (filled_in hole-of) (hole_in hole-of)
      (step_at (scene_of program state) state.world l (view_of_waiting table all.node) operands-of))) held
