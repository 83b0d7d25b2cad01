-- The step of a node whose operands are evaluated agrees with that of the old node.
use Rattle.std.specs.Prelude.{◌≡◌, refl, ℕ, Bool, true, false, List, [], ◌∷◌, map, Option, Some, None, option_map, is_some, ℤ, pos}
use Rattle.std.proofs.Common.{true≢false, ap, sym, ◌∙◌, subst, inl, inr}
use Rattle.dm_token.specs.declared.place.Place.{Place}
use Rattle.dm_type.specs.CTypes.{CType, void}
use Rattle.dm_tree.specs.declared.unit.Sort.{Sort}
use Rattle.dm_tree.specs.Trees.{Label, enumerator, object, both, either, choose, comma, call, sizeof_tree}
use Rattle.dm_tree.specs.Units.{Declaration}
use Rattle.dm_meaning.specs.Values.{At, Value}
use Rattle.dm_meaning.specs.Primitives.{Answer, answers, stops, refuses, Prim}
use Rattle.dm_meaning.specs.Programs.{Definition, layout, declaration_of, definition_of}
use Rattle.dm_meaning.specs.Operations.{Operand, World, Objects, Did, gives, breaks, ends_with, Truth, holds, untold, truth_of, enumerator_number, number_of_sort, enumerator_in, designated, operate, number_alone}
use Rattle.dm_meaning.specs.Running.{Doing, evaluates, gives_truth, gives_value, Run, Hole, Runs, no_runs, more_runs, locks_in_all, Open, nothing, first_open, open_of, open_parts}
use Rattle.dm_meaning.specs.Expressions.{Move, as_move, by_truth, on_operand, value_of, nth_run, both_chosen, either_chosen, operand_chosen, function_named, answered, undefined_called, called, call_step, kind_of_run, form_step, node_step}
use Rattle.dm_meaning.specs.Replaced.{relabelled, facts_of}
use Rattle.dm_meaning.specs.Called.{Called, new_of}
use Rattle.dm_meaning.specs.Extending.{AreAmong}
use Rattle.dm_meaning.proofs.OptionLemmas.{none_is_some}
use Rattle.dm_meaning.proofs.FewerLemmas.{SameDid, operate_fewer}
use Rattle.dm_meaning.proofs.RunLemmas.{redone}
use Rattle.dm_meaning.proofs.MatchLemmas.{may_stand, among_joined, stands_always, truth_stands}
use Rattle.dm_rewrite.specs.Effects.{Effect, Stage}
use Rattle.dm_central.specs.Added.{IsAdded}
use Rattle.dm_central.specs.Agreement.{Mode, is_inside, AreUnbegun, IfOpen, RunAgrees, RunsAgree}
use Rattle.dm_central.specs.NodeSteps.{new_scene, old_stage, MeanTheSame}
use Rattle.dm_central.specs.Outcomes.{StepAgrees}
use Rattle.dm_central.proofs.FactLemmas.{nth_later, SameFacts, unbegun_facts, fewer_locks_all}

name_fact : Option (List ℕ × Sort × CType) → List ℕ
name_fact None = []
name_fact (Some facts) = facts.0

kind_fact : Option (List ℕ × Sort × CType) → CType
kind_fact None = void
kind_fact (Some facts) = facts.2

number_fact : Option (List ℕ × Sort × CType) → ℤ
number_fact None = pos 0
number_fact (Some facts) = number_of_sort facts.1

enumerator_fact : (o : Option Declaration) → enumerator_in o ≡ number_fact (option_map facts_of o)
unfolding number_fact
enumerator_fact None = refl
enumerator_fact (Some declaration) = refl

module _ (change : Called) (stage : Stage) (mode : Mode) (world : World) (beside : List Effect) where
  by_truth_agrees : (place at : Place) (truth : Truth) (next other : Bool → Run) → ((b : Bool) → RunAgrees change stage mode world beside (next b) (other b))
      → StepAgrees change stage mode world beside (by_truth world place truth next) (by_truth world at truth other)
  by_truth_agrees place at (holds b) next other h = (refl, h b)
  by_truth_agrees place at (untold cause) next other h = tt

  on_operand_agrees : (place at : Place) (operands : List Operand) (next other : Operand → Move Run Hole) → ((a : Operand) → StepAgrees change stage mode world beside (next a) (other a))
      → StepAgrees change stage mode world beside (on_operand place operands next) (on_operand at operands other)
  on_operand_agrees place at [] next other h = tt
  on_operand_agrees place at (a ∷ []) next other h = h a
  on_operand_agrees place at (a ∷ b ∷ rest) next other h = tt

  as_move_agrees : (kind : CType) (place at : Place) (locks others : List At) (did : Did) → AreAmong locks others → StepAgrees change stage mode world beside (as_move kind place locks did) (as_move kind at others did)
  as_move_agrees kind place at locks others (gives after result new) e = (refl, (refl, refl, among_joined new locks new others (λ lock k. k) e))
  as_move_agrees kind place at locks others (breaks cause) e = tt
  as_move_agrees kind place at locks others (ends_with status) e = refl

  did_agrees : (kind : CType) (place at : Place) (locks others : List At) (did other : Did) → SameDid did other → AreAmong locks others
      → StepAgrees change stage mode world beside (as_move kind place locks other) (as_move kind at others did)
  did_agrees kind place at locks others did other (inl e) k =
      subst (λ d. StepAgrees change stage mode world beside (as_move kind place locks d) (as_move kind at others did)) e (as_move_agrees kind place at locks others did k)
  did_agrees kind place at locks others did other (inr e) k =
      subst (λ d. StepAgrees change stage mode world beside (as_move kind place locks other) (as_move kind at others d)) (sym e.1) tt

  answered_agrees : (kind : CType) (place at : Place) (answer : Option Answer) → StepAgrees change stage mode world beside (answered world kind place answer) (answered world kind at answer)
  answered_agrees kind place at None = tt
  answered_agrees kind place at (Some (answers value input output)) = (refl, (refl, refl, λ lock k. k))
  answered_agrees kind place at (Some (stops status)) = refl
  answered_agrees kind place at (Some (refuses cause)) = tt

-- the first operand, where it may not be evaluated
first_facts : (change : Called) → IsAdded change → (stage : Stage) (mode : Mode) (world : World) (before beside : List Effect) (opens : Open) → first_open opens ≡ false → (parts others : Runs)
    → RunsAgree change stage mode world before beside opens parts others → SameFacts change (nth_run 0 parts) (nth_run 0 others)
first_facts change added stage mode world before beside opens e no_runs no_runs h = (refl, refl)
first_facts change added stage mode world before beside opens e no_runs (more_runs other others) h = absurd h
first_facts change added stage mode world before beside opens e (more_runs first rest) no_runs h = absurd h
first_facts change added stage mode world before beside opens e (more_runs first rest) (more_runs other others) h = by_open (first_open opens) _ e h.0
  where
    by_open : (b : Bool) (A : Type 0) → b ≡ false → IfOpen b A (AreUnbegun change stage mode beside first other) → SameFacts change first other
    by_open true A f x = absurd (true≢false f)
    by_open false A f x = unbegun_facts change added stage mode world beside first other x

module _ (change : Called) (added : IsAdded change) (objects others : Objects) (closed : List ℕ) (quiet : ℕ → Bool) (mode : Mode) (same_objects : MeanTheSame change mode objects others) (world : World)
    (fewer locks : List At) (among : AreAmong fewer locks) (beside : List Effect) where
  abbrev stage : Stage
  stage = old_stage change others closed quiet

  abbrev Agrees : Move Run Hole → Move Run Hole → Type 0
  Agrees m n = StepAgrees change stage mode world beside m n

  undefined_agrees : (kind : CType) (place at : Place) (arguments : List Value) (one other : Option Declaration) → option_map facts_of one ≡ option_map facts_of other
      → Agrees (undefined_called (new_scene change objects) world kind place arguments one) (undefined_called stage.scene world kind at arguments other)
  unfolding name_fact kind_fact
  undefined_agrees kind place at arguments None None e = tt
  undefined_agrees kind place at arguments None (Some other) e = absurd (none_is_some _ e)
  undefined_agrees kind place at arguments (Some one) None e = absurd (none_is_some _ (sym e))
  undefined_agrees kind place at arguments (Some one) (Some other) e =
      subst (λ answer. Agrees (answered world kind place answer) (undefined_called stage.scene world kind at arguments (Some other)))
      (sym (ap (λ facts. Prim (name_fact facts) (kind_fact facts) (layout change.old) world.memory arguments world.input world.output) e))
      (answered_agrees change stage mode world beside kind place at (Prim other.name other.kind (layout change.old) world.memory arguments world.input world.output))

  called_agrees : (kind : CType) (place at : Place) (arguments : List Value) (d : ℕ) (one other : Option Definition) → is_some one ≡ is_some other
      → Agrees (called (new_scene change objects) world kind place arguments (change.rename d) one) (called stage.scene world kind at arguments d other)
  called_agrees kind place at arguments d None None h = undefined_agrees kind place at arguments (declaration_of (new_of change) (change.rename d)) (declaration_of change.old d) (added.told d)
  called_agrees kind place at arguments d None (Some other) h = absurd (true≢false (sym h))
  called_agrees kind place at arguments d (Some one) None h = absurd (true≢false h)
  called_agrees kind place at arguments d (Some one) (Some other) h = (refl, refl, refl, λ later kept value own lacks avoids less. (refl, refl, λ lock l. absurd l))

  call_agrees : (kind : CType) (place at : Place) (arguments : List Value) (named : Option ℕ)
      → Agrees (call_step (new_scene change objects) world kind place arguments (option_map change.rename named)) (call_step stage.scene world kind at arguments named)
  call_agrees kind place at arguments None = tt
  call_agrees kind place at arguments (Some d) = called_agrees kind place at arguments d (definition_of (new_of change) (change.rename d)) (definition_of change.old d) (added.defined d)

  same_enumerator : (d : ℕ) → enumerator_number (new_of change) (change.rename d) ≡ enumerator_number change.old d
  same_enumerator d = enumerator_fact (declaration_of (new_of change) (change.rename d)) ∙ ap number_fact (added.told d) ∙ sym (enumerator_fact (declaration_of change.old d))

  operate_same : (label : Label) (kind : CType) (operands : List Operand) → may_stand change.old (is_inside mode) (evaluates label) ≡ true
      → operate (new_scene change objects) world fewer (relabelled change.rename label) kind operands ≡ operate stage.scene world fewer label kind operands
  operate_same (enumerator d) kind operands stands = ap (number_alone world kind) (same_enumerator d)
  operate_same (object d) kind operands stands = ap (designated world) (same_objects d stands)
  operate_same label kind operands stands = refl

  module _ (kind : CType) (place at : Place) (parts other_parts : Runs) where
    both_agrees : RunsAgree change stage mode world [] beside (open_of both) parts other_parts → (b : Bool) → RunAgrees change stage mode world beside (both_chosen kind place parts b) (both_chosen kind at other_parts b)
    both_agrees h true = inl (refl, refl, truth_stands change.old (is_inside mode), (nth_later change stage mode world 0 [] beside parts other_parts h, tt))
    both_agrees h false = (refl, refl, λ lock k. k)

    either_agrees : RunsAgree change stage mode world [] beside (open_of either) parts other_parts → (b : Bool) → RunAgrees change stage mode world beside (either_chosen kind place parts b) (either_chosen kind at other_parts b)
    either_agrees h true = (refl, refl, λ lock k. k)
    either_agrees h false = inl (refl, refl, truth_stands change.old (is_inside mode), (nth_later change stage mode world 0 [] beside parts other_parts h, tt))

    chosen_agrees : RunsAgree change stage mode world [] beside (open_of choose) parts other_parts → (b : Bool) → RunAgrees change stage mode world beside (operand_chosen kind place parts b) (operand_chosen kind at other_parts b)
    chosen_agrees h true = inl (refl, refl, stands_always change.old (is_inside mode), (nth_later change stage mode world 0 [] beside parts other_parts h, tt))
    chosen_agrees h false = inl (refl, refl, stands_always change.old (is_inside mode), (nth_later change stage mode world 1 [] beside parts other_parts h, tt))

  form_agrees : (label : Label) (kind : CType) (place at : Place) (parts other_parts : Runs) (operands : List Operand) → RunsAgree change stage mode world [] beside (open_of label) parts other_parts
      → may_stand change.old (is_inside mode) (evaluates label) ≡ true
      → Agrees (form_step (new_scene change objects) world fewer (relabelled change.rename label) kind place parts operands) (form_step stage.scene world locks label kind at other_parts operands)
  form_agrees both kind place at parts other_parts operands h stands =
      on_operand_agrees change stage mode world beside place at operands _ _
      (λ a. by_truth_agrees change stage mode world beside place at (truth_of world.memory (value_of a.result)) _ _ (both_agrees kind place at parts other_parts h))
  form_agrees either kind place at parts other_parts operands h stands =
      on_operand_agrees change stage mode world beside place at operands _ _
      (λ a. by_truth_agrees change stage mode world beside place at (truth_of world.memory (value_of a.result)) _ _ (either_agrees kind place at parts other_parts h))
  form_agrees choose kind place at parts other_parts operands h stands =
      on_operand_agrees change stage mode world beside place at operands _ _
      (λ a. by_truth_agrees change stage mode world beside place at (truth_of world.memory (value_of a.result)) _ _ (chosen_agrees kind place at parts other_parts h))
  form_agrees comma kind place at parts other_parts operands h stands =
      (refl, inl (refl, refl, stands_always change.old (is_inside mode), (nth_later change stage mode world 0 [] beside parts other_parts h, tt)))
  form_agrees call kind place at parts other_parts operands h stands =
      subst (λ named. Agrees (call_step (new_scene change objects) world kind place (map (λ a. value_of a.result) operands) named) (call_step stage.scene world kind at (map (λ a. value_of a.result) operands) (function_named (nth_run 0 other_parts))))
      (sym (first_facts change added stage mode world [] beside (open_of call) refl parts other_parts h).1)
      (call_agrees kind place at (map (λ a. value_of a.result) operands) (function_named (nth_run 0 other_parts)))
  form_agrees sizeof_tree kind place at parts other_parts operands h stands =
      let own : CType → Did = λ type. number_alone world kind (pos ((layout change.old).size type)) in
      let type = kind_of_run (nth_run 0 other_parts) in
      subst (λ t. Agrees (as_move kind place [] (own t)) (as_move kind at [] (own type))) (sym (first_facts change added stage mode world [] beside nothing refl parts other_parts h).0)
      (as_move_agrees change stage mode world beside kind place at [] [] (own type) (λ lock k. k))
  form_agrees label kind place at parts other_parts operands h stands =
      subst (λ did. Agrees (as_move kind place (locks_in_all parts) did) (as_move kind at (locks_in_all other_parts) (operate stage.scene world locks label kind operands)))
      (sym (operate_same label kind operands stands))
      (did_agrees change stage mode world beside kind place at (locks_in_all parts) (locks_in_all other_parts) (operate stage.scene world locks label kind operands) (operate stage.scene world fewer label kind operands)
      (operate_fewer stage.scene world locks fewer among label kind operands) (fewer_locks_all change added stage mode world [] beside (open_of label) parts other_parts h))

  -- The step of a node whose operands are evaluated.
  pub node_agrees : (doing : Doing) (kind : CType) (place at : Place) (parts other_parts : Runs) (operands : List Operand) → RunsAgree change stage mode world [] beside (open_parts doing) parts other_parts
      → may_stand change.old (is_inside mode) doing ≡ true
      → Agrees (node_step (new_scene change objects) world fewer (redone change.rename doing) kind place parts operands) (node_step stage.scene world locks doing kind at other_parts operands)
  node_agrees (evaluates label) kind place at parts other_parts operands h stands = form_agrees label kind place at parts other_parts operands h stands
  node_agrees gives_truth kind place at parts other_parts operands h stands =
      on_operand_agrees change stage mode world beside place at operands _ _
      (λ a. by_truth_agrees change stage mode world beside place at (truth_of world.memory (value_of a.result)) _ _
      (λ b. (refl, refl, fewer_locks_all change added stage mode world [] beside (open_parts gives_truth) parts other_parts h)))
  node_agrees gives_value kind place at parts other_parts operands h stands =
      on_operand_agrees change stage mode world beside place at operands _ _ (λ a. (refl, (refl, refl, fewer_locks_all change added stage mode world [] beside (open_parts gives_value) parts other_parts h)))
