-- The steps of typed expressions: each leaves a tree to which the evaluation of the same tree has come.
use Rattle.std.specs.Prelude.{◌≡◌, refl, ◌⊎◌, ℕ, Bool, true, false, not, IsTrue, IsSome, MatchBool, List, [], ◌∷◌, ◌++◌, map, Option, Some, None, pos}
use Rattle.std.proofs.Common.{arith, ap, sym, ◌∙◌, subst, inl, inr}
use Rattle.std.proofs.lemmas.Bool.{false≢true}
use Rattle.std.proofs.lemmas.Int.{ints}
use Rattle.dm_token.specs.declared.place.Place.{Place}
use Rattle.dm_int.specs.declared.Kind.TheVariants.{Int, ULong}
use Rattle.dm_type.specs.CTypes.{CType, integer}
use Rattle.dm_type.specs.Layouts.{size_of}
use Rattle.dm_tree.specs.Constants.{integer_kind}
use Rattle.dm_tree.specs.Scenes.{Scene as Standing, IsValue, is_lvalue}
use Rattle.dm_tree.specs.Trees.{Label, Spans, Tree, Trees, node, no_trees, more_trees, kind_of, trees_of, listed}
use Rattle.dm_tree.specs.Trees as label
use Rattle.dm_tree.specs.Typing.{Fits}
use Rattle.dm_meaning.specs.Among.{IsAmong}
use Rattle.dm_meaning.specs.Values.{At}
use Rattle.dm_meaning.specs.Objects.{Layout}
use Rattle.dm_meaning.specs.Programs.{layout, or_zero as or_no_size}
use Rattle.dm_meaning.specs.Operations.{Result, of_value, designates, Operand, World, Scene, Did, gives, breaks, ends_with, ill, number_alone, Truth, holds, untold, truth_of, truth_in, operate}
use Rattle.dm_meaning.specs.Running.{Doing, evaluates, gives_truth, gives_value, Run, done, to_do, Runs, no_runs, more_runs, begun, Open, every, only_first, but_first, nothing, first_open, others_open, open_of, open_parts, operands_in, locks_in_all, Hole, within, Holes, in_first, in_others}
use Rattle.dm_meaning.specs.Expressions.{Move, goes, calls, fails, exits, lifted, as_move, unlocked, by_truth, on_operand, value_of, nth_run, going_on, both_chosen, either_chosen, operand_chosen, kind_of_run, form_step, node_step, own_or_inner, where_open, moves, moves_in}
use Rattle.dm_meaning.specs.Units.{AreBytes}
use Rattle.dm_meaning.proofs.AmongLemmas.{among_either, among-map_from}
use Rattle.dm_meaning.proofs.ChangeLemmas.{Changes, DidChanges, operate_changes, number_changes}
use Rattle.dm_sound.specs.TypedValues.{IsGiven, AreTyped, StaySet}
use Rattle.dm_sound.specs.TypedTrees.{scene_in, IsTyped}
use Rattle.dm_sound.specs.TypedSteps.{IsResult, AreOperands, is_operated, DidFits}
use Rattle.dm_sound.specs.TypedRuns.{IsTypedProgram, IsTypedWorld, only, is_logical, ComesFrom, AllComeFrom, HolesComeFrom, CallFits, MoveFits}
use Rattle.dm_sound.proofs.SetLemmas.{stay_same}
use Rattle.dm_sound.proofs.ComeLemmas.{RunsGoOn, HolesGoOn, AllTyped, typed_parts, typed_only, begun_comes, operands_come}
use Rattle.dm_sound.proofs.OperateLemmas.{value_no_lvalue, number_fits}
use Rattle.dm_sound.proofs.GivenLemmas.{given_number, size_number}
use Rattle.dm_sound.proofs.NodeLemmas.{node_fits}
use Rattle.dm_sound.proofs.PlainLemmas.{plain_first}
use Rattle.dm_sound.proofs.CallLemmas.{call_fits}

-- a kind in which form_step and operate agree
pub operated_step : (scene : Scene) (world : World) (locks : List At) (form : Label) (kind : CType) (place : Place) (runs : Runs) (operands : List Operand) → IsTrue (is_operated form)
    → form_step scene world locks form kind place runs operands ≡ as_move kind place (locks_in_all runs) (operate scene world locks form kind operands)
operated_step scene world locks label.both kind place runs operands is = absurd (false≢true is)
operated_step scene world locks label.either kind place runs operands is = absurd (false≢true is)
operated_step scene world locks label.choose kind place runs operands is = absurd (false≢true is)
operated_step scene world locks label.comma kind place runs operands is = absurd (false≢true is)
operated_step scene world locks label.call kind place runs operands is = absurd (false≢true is)
operated_step scene world locks label.sizeof_tree kind place runs operands is = absurd (false≢true is)
operated_step scene world locks form kind place runs operands is = refl

-- the first operand that may be evaluated, of two
second_come : (laid : Layout) (a b : Tree) (rest : Trees) (runs : Runs) → AllComeFrom laid only_first (more_trees a (more_trees b rest)) runs → ComesFrom laid b (nth_run 1 runs)
second_come laid a b rest no_runs h = absurd h
second_come laid a b rest (more_runs first no_runs) h = absurd h.1
second_come laid a b rest (more_runs first (more_runs second others)) h = subst (λ (run : Run). ComesFrom laid b run) (sym h.1.0) (begun_comes laid b)

third_come : (laid : Layout) (a b c : Tree) (runs : Runs) → AllComeFrom laid only_first (more_trees a (more_trees b (more_trees c no_trees))) runs → ComesFrom laid c (nth_run 2 runs)
third_come laid a b c no_runs h = absurd h
third_come laid a b c (more_runs first no_runs) h = absurd h.1
third_come laid a b c (more_runs first (more_runs second no_runs)) h = absurd h.1.1
third_come laid a b c (more_runs first (more_runs second (more_runs third others))) h = subst (λ (run : Run). ComesFrom laid c run) (sym h.1.1.0) (begun_comes laid c)

begun_kind : (tree : Tree) → kind_of_run (begun tree) ≡ kind_of tree
begun_kind (node form kind spans parts) = refl

pub sized_first : (laid : Layout) (a : Tree) (runs : Runs) → AllComeFrom laid nothing (more_trees a no_trees) runs → kind_of_run (nth_run 0 runs) ≡ kind_of a
sized_first laid a no_runs h = absurd h
sized_first laid a (more_runs first rest) h = ap kind_of_run h.0 ∙ begun_kind a

abbrev pub IsLogicalForm : Label → Type 0
IsLogicalForm form = (form ≡ label.both) ⊎ (form ≡ label.either)

logical_is : (form : Label) → IsLogicalForm form → IsTrue (is_logical form)
logical_is form (inl e) = ap is_logical e
logical_is form (inr e) = ap is_logical e

pub form_of_logical : (form : Label) → IsTrue (is_logical form) → IsLogicalForm form
form_of_logical label.both is = inl refl
form_of_logical label.either is = inr refl
form_of_logical form is = absurd (false≢true is)

value_is : (form : Label) → IsLogicalForm form → (kind : CType) (spans : Spans) (parts : Trees) → IsTrue (not (is_lvalue (node form kind spans parts)))
value_is form (inl e) kind spans parts = subst (λ (f : Label). IsTrue (not (is_lvalue (node f kind spans parts)))) (sym e) refl
value_is form (inr e) kind spans parts = subst (λ (f : Label). IsTrue (not (is_lvalue (node f kind spans parts)))) (sym e) refl

-- ---- the step of a node

module _ (scene : Scene) (sound : IsTypedProgram scene.program) (world : World) (well : IsTypedWorld scene.program world) (locks : List At) (answer : CType) where
  abbrev laid : Layout
  laid = layout scene.program

  abbrev FitsOn : Tree → Move Run Hole → Type 0
  FitsOn tree move = MoveFits scene.program world.memory tree move

  changed_world : (after : World) (new : List At) → Changes world after new → AreTyped laid after.memory → IsTypedWorld scene.program after
  changed_world after new (inl (e, f)) typed = record { memory = typed; input = subst (λ (w : World). AreBytes w.input) (sym e) well.input }
  changed_world after new (inr (at, value, e, f, made)) typed = record { memory = typed; input = subst (λ (w : World). AreBytes w.input) (sym e) well.input }

  did_moves : (tree : Tree) (operands : List Operand) (place : Place) (own : List At) (did : Did) → DidChanges scene world locks did → DidFits scene world tree operands did → FitsOn tree (as_move (kind_of tree) place own did)
  did_moves tree operands place own (gives after result new) changes fits = (changed_world after new changes fits.0, fits.1, (refl, fits.2))
  did_moves tree operands place own (breaks cause) changes fits = tt
  did_moves tree operands place own (ends_with status) changes fits = tt

  truth_moves : (tree : Tree) (place : Place) (truth : Truth) (following : Bool → Run) → ((b : Bool) → ComesFrom laid tree (following b)) → FitsOn tree (by_truth world place truth following)
  truth_moves tree place (holds b) following h = (well, stay_same world.memory, h b)
  truth_moves tree place (untold cause) following h = tt

  operand_moves : (tree : Tree) (place : Place) (operands : List Operand) (following : Operand → Move Run Hole) → ((x : Operand) → operands ≡ x ∷ [] → FitsOn tree (following x)) → FitsOn tree (on_operand place operands following)
  operand_moves tree place [] following h = tt
  operand_moves tree place (x ∷ []) following h = h x refl
  operand_moves tree place (x ∷ y ∷ rest) following h = tt

  truth_result : (kind : CType) (b : Bool) → kind ≡ integer Int → IsGiven laid kind (truth_in kind b)
  truth_result kind b e = subst (λ (t : CType). IsGiven laid t (truth_in t b)) (sym e) (by_truth_value b)
    where
      by_truth_value : (c : Bool) → IsGiven laid (integer Int) (truth_in (integer Int) c)
      by_truth_value true = given_number laid (integer Int) Int (pos 1) refl (omega (arith, ints), omega (arith, ints))
      by_truth_value false = given_number laid (integer Int) Int (pos 0) refl (omega (arith, ints), omega (arith, ints))

  both_come : (form : Label) (kind : CType) (spans : Spans) (a b : Tree) (place : Place) (runs : Runs) → IsLogicalForm form → kind ≡ integer Int → AllComeFrom laid only_first (more_trees a (more_trees b no_trees)) runs
      → ComesFrom laid (node form kind spans (more_trees a (more_trees b no_trees))) (going_on gives_truth kind place (nth_run 1 runs))
  both_come form kind spans a b place runs is e h = (refl, (logical_is form is, (second_come laid a b no_trees runs h, tt)))

  truth_comes : (form : Label) (kind : CType) (spans : Spans) (parts : Trees) (b : Bool) → IsLogicalForm form → kind ≡ integer Int → ComesFrom laid (node form kind spans parts) (unlocked kind (truth_in kind b))
  truth_comes form kind spans parts b is e = (refl, (value_is form is kind spans parts, truth_result kind b e))

  both_by : (form : Label) (kind : CType) (spans : Spans) (a b : Tree) (place : Place) (runs : Runs) → IsLogicalForm form → kind ≡ integer Int → AllComeFrom laid only_first (more_trees a (more_trees b no_trees)) runs
      → (c : Bool) → ComesFrom laid (node form kind spans (more_trees a (more_trees b no_trees))) (both_chosen kind place runs c)
  both_by form kind spans a b place runs is e h true = both_come form kind spans a b place runs is e h
  both_by form kind spans a b place runs is e h false = truth_comes form kind spans (more_trees a (more_trees b no_trees)) false is e

  either_by : (form : Label) (kind : CType) (spans : Spans) (a b : Tree) (place : Place) (runs : Runs) → IsLogicalForm form → kind ≡ integer Int → AllComeFrom laid only_first (more_trees a (more_trees b no_trees)) runs
      → (c : Bool) → ComesFrom laid (node form kind spans (more_trees a (more_trees b no_trees))) (either_chosen kind place runs c)
  either_by form kind spans a b place runs is e h true = truth_comes form kind spans (more_trees a (more_trees b no_trees)) true is e
  either_by form kind spans a b place runs is e h false = both_come form kind spans a b place runs is e h

  chosen_by : (kind : CType) (spans : Spans) (a b c : Tree) (place : Place) (runs : Runs) → AllComeFrom laid only_first (more_trees a (more_trees b (more_trees c no_trees))) runs
      → (t : Bool) → ComesFrom laid (node label.choose kind spans (more_trees a (more_trees b (more_trees c no_trees)))) (operand_chosen kind place runs t)
  chosen_by kind spans a b c place runs h true = (refl, inr (refl, inl (second_come laid a b (more_trees c no_trees) runs h, tt)))
  chosen_by kind spans a b c place runs h false = (refl, inr (refl, inr (third_come laid a b c runs h, tt)))

  sized_fits : (kind : CType) (spans : Spans) (a : Tree) (place : Place) (runs : Runs) → IsSome (size_of scene.program.table (kind_of a)) → kind ≡ integer ULong → AllComeFrom laid nothing (more_trees a no_trees) runs
      → FitsOn (node label.sizeof_tree kind spans (more_trees a no_trees)) (as_move kind place [] (number_alone world kind (pos (laid.size (kind_of_run (nth_run 0 runs))))))
  sized_fits kind spans a place runs complete e h =
      let n = size_number scene.program.table sound.scope.table (kind_of a) complete in
      let size : laid.size (kind_of_run (nth_run 0 runs)) ≡ n.0 = ap laid.size (sized_first laid a runs h) ∙ ap or_no_size n.1 in
      subst (λ (m : ℕ). FitsOn (node label.sizeof_tree kind spans (more_trees a no_trees)) (as_move kind place [] (number_alone world kind (pos m)))) (sym size)
      (did_moves (node label.sizeof_tree kind spans (more_trees a no_trees)) [] place [] (number_alone world kind (pos n.0)) (number_changes scene world locks kind (pos n.0))
      (number_fits scene world well.memory label.sizeof_tree kind spans (more_trees a no_trees) [] ULong (pos n.0) (ap integer_kind e) n.2 refl))

  plain_step : (form : Label) (kind : CType) (spans : Spans) (parts : Trees) → IsTyped scene.program answer (node form kind spans parts) → (place : Place) (runs : Runs) (operands : List Operand)
      → (is_operated form ≡ true) ⊎ (operate scene world locks form kind operands ≡ ill) → AreOperands laid (open_of form) parts operands
      → FitsOn (node form kind spans parts) (as_move kind place (locks_in_all runs) (operate scene world locks form kind operands))
  plain_step form kind spans parts t place runs operands (inl is) g =
      did_moves (node form kind spans parts) operands place (locks_in_all runs) (operate scene world locks form kind operands) (operate_changes scene world locks form kind operands)
      (node_fits scene sound.scope world locks well.memory answer t.breaks t.continues t.labels form kind spans parts operands is t.typed.0 t.proper
      (plain_first scene.program sound.scope (scene_in scene.program answer t.breaks t.continues t.labels) refl refl form kind spans parts t.typed t.proper) g)
  plain_step form kind spans parts t place runs operands (inr e) g =
      subst (λ (did : Did). FitsOn (node form kind spans parts) (as_move kind place (locks_in_all runs) did)) (sym e) tt

  -- a node whose operands are evaluated
  form_fits : (form : Label) (kind : CType) (spans : Spans) (parts : Trees) → IsTyped scene.program answer (node form kind spans parts) → (place : Place) (runs : Runs) (operands : List Operand)
      → AllComeFrom laid (open_of form) parts runs → AreOperands laid (open_of form) parts operands → FitsOn (node form kind spans parts) (form_step scene world locks form kind place runs operands)
  form_fits label.both kind spans (more_trees a (more_trees b no_trees)) t place runs operands h g =
      operand_moves (node label.both kind spans (more_trees a (more_trees b no_trees))) place operands _
      (λ x e. truth_moves (node label.both kind spans (more_trees a (more_trees b no_trees))) place (truth_of world.memory (value_of x.result)) (both_chosen kind place runs) (both_by label.both kind spans a b place runs (inl refl) t.typed.0.2 h))
  form_fits label.both kind spans parts t place runs operands h g = absurd t.typed.0
  form_fits label.either kind spans (more_trees a (more_trees b no_trees)) t place runs operands h g =
      operand_moves (node label.either kind spans (more_trees a (more_trees b no_trees))) place operands _
      (λ x e. truth_moves (node label.either kind spans (more_trees a (more_trees b no_trees))) place (truth_of world.memory (value_of x.result)) (either_chosen kind place runs) (either_by label.either kind spans a b place runs (inr refl) t.typed.0.2 h))
  form_fits label.either kind spans parts t place runs operands h g = absurd t.typed.0
  form_fits label.choose kind spans (more_trees a (more_trees b (more_trees c no_trees))) t place runs operands h g =
      operand_moves (node label.choose kind spans (more_trees a (more_trees b (more_trees c no_trees)))) place operands _
      (λ x e. truth_moves (node label.choose kind spans (more_trees a (more_trees b (more_trees c no_trees)))) place (truth_of world.memory (value_of x.result)) (operand_chosen kind place runs) (chosen_by kind spans a b c place runs h))
  form_fits label.choose kind spans parts t place runs operands h g = absurd t.typed.0
  form_fits label.comma kind spans (more_trees a (more_trees b no_trees)) t place runs operands h g = (well, stay_same world.memory, (refl, inl (refl, (second_come laid a b no_trees runs h, tt))))
  form_fits label.comma kind spans parts t place runs operands h g = absurd t.typed.0
  form_fits label.sizeof_tree kind spans (more_trees a no_trees) t place runs operands h g = sized_fits kind spans a place runs t.typed.0.1 t.typed.0.2 h
  form_fits label.sizeof_tree kind spans parts t place runs operands h g = absurd t.typed.0
  form_fits label.call kind spans parts t place runs operands h g = call_fits scene sound world well answer kind spans parts t place runs operands h g
  form_fits label.block kind spans parts t place runs operands h g = tt
  form_fits (label.declare lengths declarators) kind spans parts t place runs operands h g = tt
  form_fits label.full kind spans parts t place runs operands h g = tt
  form_fits label.empty kind spans parts t place runs operands h g = tt
  form_fits label.if_statement kind spans parts t place runs operands h g = tt
  form_fits label.switch kind spans parts t place runs operands h g = tt
  form_fits label.case kind spans parts t place runs operands h g = tt
  form_fits label.default kind spans parts t place runs operands h g = tt
  form_fits label.while_loop kind spans parts t place runs operands h g = tt
  form_fits label.do_loop kind spans parts t place runs operands h g = tt
  form_fits (label.for_loop first second third) kind spans parts t place runs operands h g = tt
  form_fits label.break kind spans parts t place runs operands h g = tt
  form_fits label.continue kind spans parts t place runs operands h g = tt
  form_fits label.return kind spans parts t place runs operands h g = tt
  form_fits form kind spans parts t place runs operands h g = plain_step form kind spans parts t place runs operands (inl refl) g

  -- an operand that was chosen
  picked_result : (tree b : Tree) → IsTrue (not (is_lvalue tree)) → IsValue b → kind_of b ≡ kind_of tree → (result : Result) → IsResult laid b result → IsResult laid tree result
  picked_result tree b v w e (of_value value) h = (v, subst (λ (t : CType). IsGiven laid t value) e h.1)
  picked_result tree b v w e (designates at) h = absurd (false≢true (sym (ap not h) ∙ value_no_lvalue b w))

  picked_fits : (tree b : Tree) → IsTrue (not (is_lvalue tree)) → IsValue b → kind_of b ≡ kind_of tree → (place : Place) (runs : Runs) (operands : List Operand) → AreOperands laid every (more_trees b no_trees) operands
      → FitsOn tree (on_operand place operands (λ x. goes world (done (kind_of tree) x.result (locks_in_all runs))))
  picked_fits tree b v w e place runs operands g =
      operand_moves tree place operands _ (λ x f. (well, stay_same world.memory, (refl, picked_result tree b v w e x.result (subst (λ (xs : List Operand). AreOperands laid every (more_trees b no_trees) xs) f g).0.1)))

  logical_kind : (form : Label) → IsLogicalForm form → (place : Standing) (kind : CType) (parts : Trees) → Fits place form kind (listed parts) → kind ≡ integer Int
  logical_kind form (inl e) place kind parts fits = by_parts parts (subst (λ (f : Label). Fits place f kind (listed parts)) e fits)
    where
      by_parts : (all : Trees) → Fits place label.both kind (listed all) → kind ≡ integer Int
      by_parts (more_trees a (more_trees b no_trees)) f = f.2
      by_parts all f = absurd f
  logical_kind form (inr e) place kind parts fits = by_parts parts (subst (λ (f : Label). Fits place f kind (listed parts)) e fits)
    where
      by_parts : (all : Trees) → Fits place label.either kind (listed all) → kind ≡ integer Int
      by_parts (more_trees a (more_trees b no_trees)) f = f.2
      by_parts all f = absurd f

  comma_fits : (kind : CType) (spans : Spans) (parts : Trees) → (place : Standing) → Fits place label.comma kind (listed parts) → (at : Place) (runs : Runs) (operands : List Operand) → AreOperands laid every (only 1 parts) operands
      → FitsOn (node label.comma kind spans parts) (on_operand at operands (λ x. goes world (done kind x.result (locks_in_all runs))))
  comma_fits kind spans (more_trees a (more_trees b no_trees)) place fits at runs operands g = picked_fits (node label.comma kind spans (more_trees a (more_trees b no_trees))) b refl fits.1 (sym fits.2) at runs operands g
  comma_fits kind spans parts place fits at runs operands g = absurd fits

  second_fits : (kind : CType) (spans : Spans) (parts : Trees) → (place : Standing) → Fits place label.choose kind (listed parts) → (at : Place) (runs : Runs) (operands : List Operand) → AreOperands laid every (only 1 parts) operands
      → FitsOn (node label.choose kind spans parts) (on_operand at operands (λ x. goes world (done kind x.result (locks_in_all runs))))
  second_fits kind spans (more_trees a (more_trees b (more_trees c no_trees))) place fits at runs operands g =
      picked_fits (node label.choose kind spans (more_trees a (more_trees b (more_trees c no_trees)))) b refl fits.1 fits.3 at runs operands g
  second_fits kind spans parts place fits at runs operands g = absurd fits

  third_fits : (kind : CType) (spans : Spans) (parts : Trees) → (place : Standing) → Fits place label.choose kind (listed parts) → (at : Place) (runs : Runs) (operands : List Operand) → AreOperands laid every (only 2 parts) operands
      → FitsOn (node label.choose kind spans parts) (on_operand at operands (λ x. goes world (done kind x.result (locks_in_all runs))))
  third_fits kind spans (more_trees a (more_trees b (more_trees c no_trees))) place fits at runs operands g =
      picked_fits (node label.choose kind spans (more_trees a (more_trees b (more_trees c no_trees)))) c refl fits.2 fits.4 at runs operands g
  third_fits kind spans parts place fits at runs operands g = absurd fits

  -- what a node does whose operands are evaluated
  doing_fits : (form : Label) (kind : CType) (spans : Spans) (parts : Trees) → IsTyped scene.program answer (node form kind spans parts) → (doing : Doing) (at : Place) (runs : Runs) (operands : List Operand)
      → RunsGoOn laid (node form kind spans parts) doing runs → operands_in (open_parts doing) runs ≡ Some operands → FitsOn (node form kind spans parts) (node_step scene world locks doing kind at runs operands)
  doing_fits form kind spans parts t (evaluates other) at runs operands h e =
      subst (λ (f : Label). AllComeFrom laid (open_of f) parts runs → operands_in (open_of f) runs ≡ Some operands → FitsOn (node form kind spans parts) (form_step scene world locks f kind at runs operands)) (sym h.0)
      (λ c g. form_fits form kind spans parts t at runs operands c (operands_come laid (open_of form) parts runs operands c g)) h.1 e
  doing_fits form kind spans parts t gives_truth at runs operands h e =
      let is = form_of_logical form h.0 in
      operand_moves (node form kind spans parts) at operands _
      (λ x f. truth_moves (node form kind spans parts) at (truth_of world.memory (value_of x.result)) _
      (λ b. (refl, (value_is form is kind spans parts, truth_result kind b (logical_kind form is (scene_in scene.program answer t.breaks t.continues t.labels) kind parts t.typed.0)))))
  doing_fits form kind spans parts t gives_value at runs operands (inl (e, c)) g =
      subst (λ (f : Label). Fits (scene_in scene.program answer t.breaks t.continues t.labels) f kind (listed parts) → FitsOn (node f kind spans parts) (on_operand at operands (λ x. goes world (done kind x.result (locks_in_all runs))))) (sym e)
      (λ fits. comma_fits kind spans parts (scene_in scene.program answer t.breaks t.continues t.labels) fits at runs operands (operands_come laid every (only 1 parts) runs operands c g)) t.typed.0
  doing_fits form kind spans parts t gives_value at runs operands (inr (e, inl c)) g =
      subst (λ (f : Label). Fits (scene_in scene.program answer t.breaks t.continues t.labels) f kind (listed parts) → FitsOn (node f kind spans parts) (on_operand at operands (λ x. goes world (done kind x.result (locks_in_all runs))))) (sym e)
      (λ fits. second_fits kind spans parts (scene_in scene.program answer t.breaks t.continues t.labels) fits at runs operands (operands_come laid every (only 1 parts) runs operands c g)) t.typed.0
  doing_fits form kind spans parts t gives_value at runs operands (inr (e, inr c)) g =
      subst (λ (f : Label). Fits (scene_in scene.program answer t.breaks t.continues t.labels) f kind (listed parts) → FitsOn (node f kind spans parts) (on_operand at operands (λ x. goes world (done kind x.result (locks_in_all runs))))) (sym e)
      (λ fits. third_fits kind spans parts (scene_in scene.program answer t.breaks t.continues t.labels) fits at runs operands (operands_come laid every (only 2 parts) runs operands c g)) t.typed.0

  -- ---- all steps of a tree

  -- a step of the trees below a node
  abbrev PartsFit : Open → Trees → Move Runs Holes → Type 0
  PartsFit opens parts (goes after runs) = IsTypedWorld scene.program after × StaySet world.memory after.memory × AllComeFrom laid opens parts runs
  PartsFit opens parts (calls f arguments kind holes) = CallFits scene.program f arguments kind × HolesComeFrom laid kind opens parts holes
  PartsFit opens parts (fails cause at) = Unit {0}
  PartsFit opens parts (exits status) = Unit {0}

  abbrev AnyFits : (opens : Open) (parts : Trees) (runs : Runs) → Type 0
  AnyFits opens parts runs = (move : Move Runs Holes) → IsAmong move (moves_in scene world locks opens runs) → PartsFit opens parts move

  go_on : (tree : Tree) (doing : Doing) (opens : Open) (parts : Trees) (at : Place) → ((runs : Runs) → AllComeFrom laid opens parts runs → RunsGoOn laid tree doing runs)
      → ((kind : CType) (holes : Holes) → HolesComeFrom laid kind opens parts holes → HolesGoOn laid tree kind doing holes)
      → (move : Move Runs Holes) → PartsFit opens parts move → FitsOn tree (lifted (to_do doing (kind_of tree) at) (within doing (kind_of tree) at) move)
  go_on tree doing opens parts at f g (goes after runs) h = (h.0, h.1, (refl, f runs h.2))
  go_on tree doing opens parts at f g (calls d arguments kind holes) h = (h.0, (refl, g kind holes h.1))
  go_on tree doing opens parts at f g (fails cause place) h = tt
  go_on tree doing opens parts at f g (exits status) h = tt

  mapped_fits : (tree : Tree) (doing : Doing) (opens : Open) (parts : Trees) (runs : Runs) (at : Place) → ((rs : Runs) → AllComeFrom laid opens parts rs → RunsGoOn laid tree doing rs)
      → ((kind : CType) (holes : Holes) → HolesComeFrom laid kind opens parts holes → HolesGoOn laid tree kind doing holes) → AnyFits opens parts runs
      → (move : Move Run Hole) → IsAmong move (map (lifted (to_do doing (kind_of tree) at) (within doing (kind_of tree) at)) (moves_in scene world locks opens runs)) → FitsOn tree move
  mapped_fits tree doing opens parts runs at f g h move e =
      let from = among-map_from (lifted (to_do doing (kind_of tree) at) (within doing (kind_of tree) at)) move (moves_in scene world locks opens runs) e in
      subst (FitsOn tree) (sym from.2) (go_on tree doing opens parts at f g from.0 (h from.0 from.1))

  own_fits : (tree : Tree) (o : Option (List Operand)) (own : List Operand → Move Run Hole) (inner : List (Move Run Hole)) → ((operands : List Operand) → o ≡ Some operands → FitsOn tree (own operands))
      → ((move : Move Run Hole) → IsAmong move inner → FitsOn tree move) → (move : Move Run Hole) → IsAmong move (own_or_inner o own inner) → FitsOn tree move
  own_fits tree (Some operands) own inner h k move (inl e) = subst (FitsOn tree) (sym e) (h operands refl)
  own_fits tree (Some operands) own inner h k move (inr e) = absurd e
  own_fits tree None own inner h k move e = k move e

  -- the trees below by what the node does
  inner_fits : (tree : Tree) (doing : Doing) (runs : Runs) (at : Place) → RunsGoOn laid tree doing runs
      → ((opens : Open) (parts : Trees) → AllTyped scene.program answer parts → AllComeFrom laid opens parts runs → AnyFits opens parts runs) → AllTyped scene.program answer (trees_of tree)
      → (move : Move Run Hole) → IsAmong move (map (lifted (to_do doing (kind_of tree) at) (within doing (kind_of tree) at)) (moves_in scene world locks (open_parts doing) runs)) → FitsOn tree move
  inner_fits tree (evaluates form) runs at h k t move e =
      mapped_fits tree (evaluates form) (open_of form) (trees_of tree) runs at (λ rs c. (h.0, c)) (λ kind holes c. (h.0, c)) (k (open_of form) (trees_of tree) t h.1) move e
  inner_fits tree gives_truth runs at h k t move e =
      mapped_fits tree gives_truth every (only 1 (trees_of tree)) runs at (λ rs c. (h.0, c)) (λ kind holes c. (h.0, c)) (k every (only 1 (trees_of tree)) (typed_only scene.program answer 1 (trees_of tree) t) h.1) move e
  inner_fits tree gives_value runs at (inl (f, h)) k t move e =
      mapped_fits tree gives_value every (only 1 (trees_of tree)) runs at (λ rs c. inl (f, c)) (λ kind holes c. inl (f, c)) (k every (only 1 (trees_of tree)) (typed_only scene.program answer 1 (trees_of tree) t) h) move e
  inner_fits tree gives_value runs at (inr (f, inl h)) k t move e =
      mapped_fits tree gives_value every (only 1 (trees_of tree)) runs at (λ rs c. inr (f, inl c)) (λ kind holes c. inr (f, inl c)) (k every (only 1 (trees_of tree)) (typed_only scene.program answer 1 (trees_of tree) t) h) move e
  inner_fits tree gives_value runs at (inr (f, inr h)) k t move e =
      mapped_fits tree gives_value every (only 2 (trees_of tree)) runs at (λ rs c. inr (f, inr c)) (λ kind holes c. inr (f, inr c)) (k every (only 2 (trees_of tree)) (typed_only scene.program answer 2 (trees_of tree) t) h) move e

  whole_typed : (tree : Tree) → IsTyped scene.program answer tree → AllTyped scene.program answer (trees_of tree)
  whole_typed (node form kind spans parts) t = typed_parts scene.program answer form kind spans parts t

  own_step : (tree : Tree) → IsTyped scene.program answer tree → (doing : Doing) (at : Place) (runs : Runs) (operands : List Operand) → RunsGoOn laid tree doing runs → operands_in (open_parts doing) runs ≡ Some operands
      → FitsOn tree (node_step scene world locks doing (kind_of tree) at runs operands)
  own_step (node form kind spans parts) t doing at runs operands h e = doing_fits form kind spans parts t doing at runs operands h e

  -- a step of the first of some trees, and of one behind it
  first_moves : (opens : Open) (tree : Tree) (parts : Trees) (rest : Runs) → AllComeFrom laid (others_open opens) parts rest → IsTrue (first_open opens) → (move : Move Run Hole) → FitsOn tree move
      → PartsFit opens (more_trees tree parts) (lifted (λ run. more_runs run rest) (λ hole. in_first hole rest) move)
  first_moves every tree parts rest h is (goes after run) c = (c.0, c.1, (c.2, h))
  first_moves every tree parts rest h is (calls f arguments kind hole) c = (c.0, (refl, c.1, h))
  first_moves only_first tree parts rest h is (goes after run) c = (c.0, c.1, (c.2, h))
  first_moves only_first tree parts rest h is (calls f arguments kind hole) c = (c.0, (refl, c.1, h))
  first_moves but_first tree parts rest h is move c = absurd (false≢true is)
  first_moves nothing tree parts rest h is move c = absurd (false≢true is)
  first_moves opens tree parts rest h is (fails cause at) c = tt
  first_moves opens tree parts rest h is (exits status) c = tt

  rest_moves : (opens : Open) (tree : Tree) (parts : Trees) (first : Run) → MatchBool (first_open opens) (ComesFrom laid tree first) (first ≡ begun tree) → (move : Move Runs Holes) → PartsFit (others_open opens) parts move
      → PartsFit opens (more_trees tree parts) (lifted (more_runs first) (in_others first) move)
  rest_moves opens tree parts first h (goes after runs) c = (c.0, c.1, (h, c.2))
  rest_moves opens tree parts first h (calls f arguments kind holes) c = (c.0, (h, c.1))
  rest_moves opens tree parts first h (fails cause at) c = tt
  rest_moves opens tree parts first h (exits status) c = tt

  part_open : (b : Bool) (P Q : Type 0) → MatchBool b P Q → IsTrue b → P
  part_open true P Q h is = h
  part_open false P Q h is = absurd (false≢true is)

  open_fits : (b : Bool) (P : Move Runs Holes → Type 0) (xs : List (Move Runs Holes)) → (IsTrue b → (move : Move Runs Holes) → IsAmong move xs → P move) → (move : Move Runs Holes) → IsAmong move (where_open b xs) → P move
  open_fits true P xs h move e = h refl move e
  open_fits false P xs h move e = absurd e

  joined_fits : (P : Move Runs Holes → Type 0) (xs ys : List (Move Runs Holes)) → ((move : Move Runs Holes) → IsAmong move xs → P move) → ((move : Move Runs Holes) → IsAmong move ys → P move)
      → (move : Move Runs Holes) → IsAmong move (xs ++ ys) → P move
  joined_fits P xs ys h k move e = pick (among_either move xs ys e)
    where
      pick : IsAmong move xs ⊎ IsAmong move ys → P move
      pick (inl a) = h move a
      pick (inr b) = k move b

  first_mapped : (opens : Open) (tree : Tree) (parts : Trees) (first : Run) (rest : Runs) → AllComeFrom laid (others_open opens) parts rest → IsTrue (first_open opens)
      → ((move : Move Run Hole) → IsAmong move (moves scene world locks first) → FitsOn tree move) → (move : Move Runs Holes) → IsAmong move (map (lifted (λ run. more_runs run rest) (λ hole. in_first hole rest)) (moves scene world locks first))
      → PartsFit opens (more_trees tree parts) move
  first_mapped opens tree parts first rest h is k move e =
      let from = among-map_from (lifted (λ run. more_runs run rest) (λ hole. in_first hole rest)) move (moves scene world locks first) e in
      subst (PartsFit opens (more_trees tree parts)) (sym from.2) (first_moves opens tree parts rest h is from.0 (k from.0 from.1))

  rest_mapped : (opens : Open) (tree : Tree) (parts : Trees) (first : Run) (rest : Runs) → MatchBool (first_open opens) (ComesFrom laid tree first) (first ≡ begun tree) → AnyFits (others_open opens) parts rest
      → (move : Move Runs Holes) → IsAmong move (map (lifted (more_runs first) (in_others first)) (moves_in scene world locks (others_open opens) rest)) → PartsFit opens (more_trees tree parts) move
  rest_mapped opens tree parts first rest h k move e =
      let from = among-map_from (lifted (more_runs first) (in_others first)) move (moves_in scene world locks (others_open opens) rest) e in
      subst (PartsFit opens (more_trees tree parts)) (sym from.2) (rest_moves opens tree parts first h from.0 (k from.0 from.1))

  mutual
    -- Each step of a tree under evaluation.
    pub moves_fit : (run : Run) (tree : Tree) → IsTyped scene.program answer tree → ComesFrom laid tree run → (move : Move Run Hole) → IsAmong move (moves scene world locks run) → FitsOn tree move
    moves_fit (done kind result own) tree t h move e = absurd e
    moves_fit (to_do doing kind at runs) tree t h move e =
        own_fits tree (operands_in (open_parts doing) runs) (node_step scene world locks doing (kind_of tree) at runs)
        (map (lifted (to_do doing (kind_of tree) at) (within doing (kind_of tree) at)) (moves_in scene world locks (open_parts doing) runs))
        (λ operands f. own_step tree t doing at runs operands h.1 f)
        (inner_fits tree doing runs at h.1 (moves_in_fit runs) (whole_typed tree t))
        move (subst (λ (k : CType). IsAmong move (moves scene world locks (to_do doing k at runs))) h.0 e)

    moves_in_fit : (runs : Runs) (opens : Open) (parts : Trees) → AllTyped scene.program answer parts → AllComeFrom laid opens parts runs → AnyFits opens parts runs
    moves_in_fit no_runs opens parts t h move e = absurd e
    moves_in_fit (more_runs first rest) opens no_trees t h move e = absurd h
    moves_in_fit (more_runs first rest) opens (more_trees tree parts) t h move e =
        joined_fits (PartsFit opens (more_trees tree parts))
        (where_open (first_open opens) (map (lifted (λ run. more_runs run rest) (λ hole. in_first hole rest)) (moves scene world locks first)))
        (map (lifted (more_runs first) (in_others first)) (moves_in scene world locks (others_open opens) rest))
        (open_fits (first_open opens) (PartsFit opens (more_trees tree parts)) (map (lifted (λ run. more_runs run rest) (λ hole. in_first hole rest)) (moves scene world locks first))
        (λ is. first_mapped opens tree parts first rest h.1 is (moves_fit first tree t.0 (part_open (first_open opens) (ComesFrom laid tree first) (first ≡ begun tree) h.0 is))))
        (rest_mapped opens tree parts first rest h.0 (moves_in_fit rest (others_open opens) parts t.1 h.1)) move e
