-- Trees under evaluation in two programs of which one reads an added const object where the other has an integer constant expression: each
-- step of the new tree is met in the old one by the same step, or, at such a read, by none and then by the evaluation of the expression, or
-- the old one goes wrong there.
use Rattle.std.specs.Prelude.{not, ◌≡◌, refl, ◌⊎◌, ℕ, zero, suc, ◌==◌, Bool, true, false, IsTrue, List, [], ◌∷◌, ◌++◌, map, Option, Some, None, option_map, ℤ, pos, if◌then◌else◌}
use Rattle.std.proofs.Common.{ap, sym, ◌∙◌, subst, inl, inr}
use Rattle.dm_token.specs.declared.place.Place.{Place}
use Rattle.dm_type.specs.CTypes.{CType, void, integer}
use Rattle.dm_tree.specs.declared.unit.Sort.{Sort}
use Rattle.dm_tree.specs.Constants as constants
use Rattle.dm_tree.specs.Constants.{is_constant_form, constant_forms, constant_value, enumerator_value}
use Rattle.dm_int.specs.declared.Kind.{Kind}
use Rattle.dm_int.specs.declared.Kind.TheVariants.{Bool as CBool, Char, SChar, UChar, Short, UShort, Int, UInt, Long, ULong, LLong, ULLong}
use Rattle.dm_meaning.specs.declared.cause.Cause.{Cause}
use Rattle.dm_meaning.specs.declared.cause.Cause.TheVariants.{Conflict, Bounds, Life, Unset, OtherType}
use Rattle.dm_meaning.specs.Objects.{agree_without_const}
use Rattle.dm_meaning.specs.Memory.{Block, reached_in, value_in, or_unset, lives}
use Rattle.dm_meaning.specs.Causes.{when, is_outside, is_other, is_unset_object}
use Rattle.dm_tree.specs.Trees.{read, Label, enumerator, object, function, both, either, choose, comma, call, sizeof_tree, Tree, Trees, node, no_trees, more_trees, kind_of}
use Rattle.dm_tree.specs.Units.{Declaration}
use Rattle.dm_meaning.specs.Among.{IsAmong}
use Rattle.dm_meaning.specs.Values.{At, Value, numbered, integer_value, overlaps_any}
use Rattle.dm_meaning.specs.Primitives.{Answer, answers, stops, refuses, Prim}
use Rattle.dm_meaning.specs.Programs.{Definition, layout, declaration_of, definition_in, definition_of}
use Rattle.dm_meaning.specs.Operations.{of_value, Operand, World, Objects, Scene, Did, gives, breaks, ends_with, typed, Truth, holds, untold, truth_of, enumerator_number, number_of_sort, enumerator_in, designates, designated, whole, unless, on_place, read_at, operate, number_alone, plain}
use Rattle.dm_meaning.specs.Running.{Doing, evaluates, gives_truth, gives_value, Run, done, to_do, Runs, no_runs, more_runs, begun, all_begun, locks_in, locks_in_all, Open, every, first_open, others_open, open_of, open_parts, first_result, operands_in, Hole, here, within, Holes, in_first, in_others, filled_in, all_filled_in, AreOpen}
use Rattle.dm_meaning.specs.Expressions.{Move, goes, lifted, as_move, by_truth, on_operand, value_of, nth_run, both_chosen, either_chosen, function_in, function_named, answered, undefined_called, called, call_step, kind_of_run, form_step, node_step, own_or_inner, where_open, moves, moves_in}
use Rattle.dm_meaning.specs.Replaced.{relabelled, Zipped, facts_of}
use Rattle.dm_meaning.proofs.RunLemmas.{redone, MoveAgrees, lifted_agrees, same_renamed, OptionAgrees}
use Rattle.dm_meaning.proofs.AmongLemmas.{among_right, among_either, among-map, among-map_from}
use Rattle.dm_meaning.proofs.MoveLemmas.{inner_steps, open_steps}
use Rattle.dm_meaning.proofs.OptionLemmas.{none_is_some}
use Rattle.dm_meaning.proofs.QuietLemmas.{Quietly, quietly_inside, Fails, fails_inside}
use Rattle.dm_meaning.proofs.ConstantLemmas.{no_locks, kind_begun, own_step, no_form, constant_parts, constant_evaluates, Comes}
use Rattle.dm_rewrite.specs.NamedConstants.{Named, new_of, IsConstant, Agrees, AllAgree, DefinitionAgrees, IsNaming, held, HasHeld, NameAlike, NamesAdded, IsUnread, RunAgrees, RunsAgree, HoleAgrees, HolesAgree, RunMoveAgrees, Matched}

-- ---- what renaming keeps

open_of_relabelled : (rename : ℕ → ℕ) (label : Label) → open_of (relabelled rename label) ≡ open_of label
open_of_relabelled rename (enumerator d) = refl
open_of_relabelled rename label = refl

open_parts_redone : (rename : ℕ → ℕ) (doing : Doing) → open_parts (redone rename doing) ≡ open_parts doing
open_parts_redone rename (evaluates label) = open_of_relabelled rename label
open_parts_redone rename gives_truth = refl
open_parts_redone rename gives_value = refl

function_in_redone : (rename : ℕ → ℕ) (doing : Doing) → function_in (redone rename doing) ≡ option_map rename (function_in doing)
function_in_redone rename (evaluates (function d)) = refl
function_in_redone rename (evaluates label) = refl
function_in_redone rename gives_truth = refl
function_in_redone rename gives_value = refl

if_agrees : {X Y : Type 0} (R : X → Y → Type 0) (b : Bool) (x x' : Option X) (y y' : Option Y) → OptionAgrees R x y → OptionAgrees R x' y' → OptionAgrees R (if b then x else x') (if b then y else y')
if_agrees R true x x' y y' h k = h
if_agrees R false x x' y y' h k = k

pub definition_agrees : (change : Named) → ((c d : ℕ) → change.rename c ≡ change.rename d → c ≡ d) → (fs gs : List Definition) → Zipped (DefinitionAgrees change) fs gs → (d : ℕ)
    → OptionAgrees (DefinitionAgrees change) (definition_in fs (change.rename d)) (definition_in gs d)
definition_agrees change injective [] [] h d = tt
definition_agrees change injective [] (g ∷ gs) h d = absurd h
definition_agrees change injective (f ∷ fs) [] h d = absurd h
definition_agrees change injective (f ∷ fs) (g ∷ gs) h d =
    let same : (f.function == change.rename d) ≡ (g.function == d) = ap (λ n. n == change.rename d) h.0.0 ∙ same_renamed change.rename injective g.function d in
    subst (λ b. OptionAgrees (DefinitionAgrees change) (if b then Some f else definition_in fs (change.rename d)) (if g.function == d then Some g else definition_in gs d)) (sym same)
    (if_agrees (DefinitionAgrees change) (g.function == d) (Some f) (definition_in fs (change.rename d)) (Some g) (definition_in gs d) h.0 (definition_agrees change injective fs gs h.1 d))

-- ---- what agreeing trees have in common

mutual
  pub begun_agrees : (change : Named) (number : ℕ) (tree other : Tree) → Agrees change tree other → RunAgrees change number (begun tree) (begun other)
  begun_agrees change number (node label kind spans parts) (node other other_kind other_spans others) (inl h) =
      inl (ap evaluates h.0, h.1, all_begun_agree change number parts others h.3)
  begun_agrees change number (node label kind spans parts) (node other other_kind other_spans others) (inr h) =
      inr (record {
        name = begun (node (object change.added) h.named_kind h.named_spans no_trees);
        tree = node other other_kind other_spans others;
        is = ap evaluates h.is;
        one = ap all_begun h.names;
        names = (refl, refl);
        typed = h.typed;
        untouched = refl;
        constant = h.constant;
      })

  pub all_begun_agree : (change : Named) (number : ℕ) (trees others : Trees) → AllAgree change trees others → RunsAgree change number (all_begun trees) (all_begun others)
  all_begun_agree change number no_trees no_trees h = tt
  all_begun_agree change number (more_trees first rest) (more_trees other others) h = (begun_agrees change number first other h.0, all_begun_agree change number rest others h.1)
  all_begun_agree change number no_trees (more_trees other others) h = absurd h
  all_begun_agree change number (more_trees first rest) no_trees h = absurd h

same_first : (change : Named) (number : ℕ) (opened : Bool) (run other : Run) (rest : Option (List Operand)) → RunAgrees change number run other → first_result opened run rest ≡ first_result opened other rest
same_first change number true (done kind result locks) (done other_kind other_result other_locks) rest h =
    ap (λ k. first_result true (done k result locks) rest) h.0 ∙ ap (λ r. first_result true (done other_kind r locks) rest) h.1
same_first change number true (done kind result locks) (to_do doing other_kind place parts) rest h = absurd h
same_first change number true (to_do doing kind place parts) (done other_kind result locks) rest h = absurd h
same_first change number true (to_do doing kind place parts) (to_do other other_kind other_place others) rest h = refl
same_first change number false run other rest h = refl

pub same_operands : (change : Named) (number : ℕ) (parts others : Runs) (opens : Open) → RunsAgree change number parts others → operands_in opens parts ≡ operands_in opens others
same_operands change number no_runs no_runs opens h = refl
same_operands change number no_runs (more_runs other others) opens h = absurd h
same_operands change number (more_runs first rest) no_runs opens h = absurd h
same_operands change number (more_runs first rest) (more_runs other others) opens h =
    ap (first_result (first_open opens) first) (same_operands change number rest others (others_open opens) h.1)
    ∙ same_first change number (first_open opens) first other (operands_in (others_open opens) others) h.0

-- naming the added object locks nothing
name_unlocked : (change : Named) (number : ℕ) (name : Run) → NamesAdded change number name → locks_in name ≡ []
name_unlocked change number (done kind result locks) h = h.1
name_unlocked change number (to_do doing kind place parts) h = ap locks_in_all h.1

mutual
  pub same_locks : (change : Named) (number : ℕ) (run other : Run) → RunAgrees change number run other → locks_in run ≡ locks_in other
  same_locks change number (done kind result locks) (done other_kind other_result other_locks) h = h.2
  same_locks change number (done kind result locks) (to_do doing other_kind place parts) h = absurd h
  same_locks change number (to_do doing kind place parts) (done other_kind result locks) h = absurd h
  same_locks change number (to_do doing kind place parts) (to_do other other_kind other_place others) (inl h) = same_locks_all change number parts others h.2
  same_locks change number (to_do doing kind place parts) (to_do other other_kind other_place others) (inr h) =
      ap locks_in_all h.one ∙ ap (λ l. l ++ []) (name_unlocked change number h.name h.names) ∙ sym (ap locks_in h.untouched ∙ no_locks h.tree)

  pub same_locks_all : (change : Named) (number : ℕ) (parts others : Runs) → RunsAgree change number parts others → locks_in_all parts ≡ locks_in_all others
  same_locks_all change number no_runs no_runs h = refl
  same_locks_all change number no_runs (more_runs other others) h = absurd h
  same_locks_all change number (more_runs first rest) no_runs h = absurd h
  same_locks_all change number (more_runs first rest) (more_runs other others) h =
      ap (λ l. l ++ locks_in_all rest) (same_locks change number first other h.0) ∙ ap (λ l. locks_in other ++ l) (same_locks_all change number rest others h.1)

pub same_kind : (change : Named) (number : ℕ) (run other : Run) → RunAgrees change number run other → kind_of_run run ≡ kind_of_run other
same_kind change number (done kind result locks) (done other_kind other_result other_locks) h = h.0
same_kind change number (done kind result locks) (to_do doing other_kind place parts) h = absurd h
same_kind change number (to_do doing kind place parts) (done other_kind result locks) h = absurd h
same_kind change number (to_do doing kind place parts) (to_do other other_kind other_place others) (inl h) = h.1
same_kind change number (to_do doing kind place parts) (to_do other other_kind other_place others) (inr h) =
    h.typed ∙ sym (ap kind_of_run h.untouched ∙ kind_begun h.tree ∙ h.constant.kind)

pub nth_agrees : (change : Named) (number : ℕ) (n : ℕ) (parts others : Runs) → RunsAgree change number parts others → RunAgrees change number (nth_run n parts) (nth_run n others)
nth_agrees change number n no_runs no_runs h = (refl, refl, refl)
nth_agrees change number n no_runs (more_runs other others) h = absurd h
nth_agrees change number n (more_runs first rest) no_runs h = absurd h
nth_agrees change number zero (more_runs first rest) (more_runs other others) h = h.0
nth_agrees change number (suc n) (more_runs first rest) (more_runs other others) h = nth_agrees change number n rest others h.1

-- a constant expression names no function
not_function : (label : Label) (kind : CType) (passes : List Bool) → constants.has_constant_form label kind passes ≡ true → function_in (evaluates label) ≡ None
not_function (function d) kind passes h = absurd (no_form (function d) kind passes refl refl h)
not_function label kind passes h = refl

tree_not_function : (tree : Tree) → is_constant_form tree ≡ true → function_named (begun tree) ≡ None
tree_not_function (node label kind spans parts) h = not_function label kind (constant_forms parts) h

pub same_function : (change : Named) (number : ℕ) (run other : Run) → RunAgrees change number run other → function_named run ≡ option_map change.rename (function_named other)
same_function change number (done kind result locks) (done other_kind other_result other_locks) h = refl
same_function change number (done kind result locks) (to_do doing other_kind place parts) h = absurd h
same_function change number (to_do doing kind place parts) (done other_kind result locks) h = absurd h
same_function change number (to_do doing kind place parts) (to_do other other_kind other_place others) (inl h) = ap function_in h.0 ∙ function_in_redone change.rename other
same_function change number (to_do doing kind place parts) (to_do other other_kind other_place others) (inr h) =
    ap function_in h.is
    ∙ sym (ap (option_map change.rename) (ap function_named h.untouched ∙ tree_not_function h.tree (constant_parts change.old h.tree change.value h.constant.value).0))

mutual
  pub filled_agrees : (change : Named) (number : ℕ) (hole other : Hole) (run other_run : Run) → HoleAgrees change number hole other → RunAgrees change number run other_run → RunAgrees change number (filled_in hole run) (filled_in other other_run)
  filled_agrees change number here here run other_run h k = k
  filled_agrees change number here (within other other_kind other_place others) run other_run h k = absurd h
  filled_agrees change number (within doing kind place holes) here run other_run h k = absurd h
  filled_agrees change number (within doing kind place holes) (within other other_kind other_place others) run other_run h k =
      inl (h.0, h.1, all_filled_agree change number holes others run other_run h.2 k)

  pub all_filled_agree : (change : Named) (number : ℕ) (holes others : Holes) (run other_run : Run) → HolesAgree change number holes others → RunAgrees change number run other_run → RunsAgree change number (all_filled_in holes run) (all_filled_in others other_run)
  all_filled_agree change number (in_first hole rest) (in_first other others) run other_run h k = (filled_agrees change number hole other run other_run h.0 k, h.1)
  all_filled_agree change number (in_others first holes) (in_others other others) run other_run h k = (h.0, all_filled_agree change number holes others run other_run h.1 k)
  all_filled_agree change number (in_first hole rest) (in_others other others) run other_run h k = absurd h
  all_filled_agree change number (in_others first holes) (in_first other others) run other_run h k = absurd h

-- ---- the step of a node

by_truth_agrees : (change : Named) (number : ℕ) (world : World) (place at : Place) (truth : Truth) (next other : Bool → Run)
    → ((b : Bool) → RunAgrees change number (next b) (other b)) → RunMoveAgrees change number (by_truth world place truth next) (by_truth world at truth other)
by_truth_agrees change number world place at (holds b) next other h = (refl, h b)
by_truth_agrees change number world place at (untold cause) next other h = tt

on_operand_agrees : (change : Named) (number : ℕ) (place at : Place) (operands : List Operand) (next other : Operand → Move Run Hole)
    → ((a : Operand) → RunMoveAgrees change number (next a) (other a)) → RunMoveAgrees change number (on_operand place operands next) (on_operand at operands other)
on_operand_agrees change number place at [] next other h = tt
on_operand_agrees change number place at (a ∷ []) next other h = h a
on_operand_agrees change number place at (a ∷ b ∷ rest) next other h = tt

as_move_agrees : (change : Named) (number : ℕ) (kind : CType) (place at : Place) (locks others : List At) (did : Did) → locks ≡ others → RunMoveAgrees change number (as_move kind place locks did) (as_move kind at others did)
as_move_agrees change number kind place at locks others (gives world result new) e = (refl, (refl, refl, ap (λ l. new ++ l) e))
as_move_agrees change number kind place at locks others (breaks cause) e = tt
as_move_agrees change number kind place at locks others (ends_with status) e = refl

answered_agrees : (change : Named) (number : ℕ) (world : World) (kind : CType) (place at : Place) (answer : Option Answer) → RunMoveAgrees change number (answered world kind place answer) (answered world kind at answer)
answered_agrees change number world kind place at None = tt
answered_agrees change number world kind place at (Some (answers value input output)) = (refl, (refl, refl, refl))
answered_agrees change number world kind place at (Some (stops status)) = refl
answered_agrees change number world kind place at (Some (refuses cause)) = tt

name_fact : Option (List ℕ × Sort × CType) → List ℕ
name_fact None = []
name_fact (Some facts) = facts.0

kind_fact : Option (List ℕ × Sort × CType) → CType
kind_fact None = void
kind_fact (Some facts) = facts.2

module _ (change : Named) (number : ℕ) (naming : IsNaming change) (news objects : Objects) (alike : NameAlike change number news objects)
    (world : World) (has : HasHeld change number world.memory) (locks : List At) (free : overlaps_any (whole (numbered number)) locks ≡ false) where
  -- what names mean in the two programs
  abbrev new_scene : Scene
  new_scene = record { program = new_of change; objects = news }

  abbrev old_scene : Scene
  old_scene = record { program = change.old; objects = objects }

  undefined_agrees : (kind : CType) (place at : Place) (arguments : List Value) (one other : Option Declaration) → option_map facts_of one ≡ option_map facts_of other
      → RunMoveAgrees change number (undefined_called new_scene world kind place arguments one) (undefined_called old_scene world kind at arguments other)
  unfolding name_fact kind_fact
  undefined_agrees kind place at arguments None None e = tt
  undefined_agrees kind place at arguments None (Some other) e = absurd (none_is_some _ e)
  undefined_agrees kind place at arguments (Some one) None e = absurd (none_is_some _ (sym e))
  undefined_agrees kind place at arguments (Some one) (Some other) e =
      subst (λ answer. RunMoveAgrees change number (answered world kind place answer) (undefined_called old_scene world kind at arguments (Some other)))
      (sym (ap (λ facts. Prim (name_fact facts) (kind_fact facts) (layout change.old) world.memory arguments world.input world.output) e))
      (answered_agrees change number world kind place at (Prim other.name other.kind (layout change.old) world.memory arguments world.input world.output))

  called_agrees : (kind : CType) (place at : Place) (arguments : List Value) (d : ℕ) (one other : Option Definition) → OptionAgrees (DefinitionAgrees change) one other
      → RunMoveAgrees change number (called new_scene world kind place arguments (change.rename d) one) (called old_scene world kind at arguments d other)
  called_agrees kind place at arguments d None None h = undefined_agrees kind place at arguments (declaration_of (new_of change) (change.rename d)) (declaration_of change.old d) (naming.told d)
  called_agrees kind place at arguments d None (Some other) h = absurd h
  called_agrees kind place at arguments d (Some one) None h = absurd h
  called_agrees kind place at arguments d (Some one) (Some other) h = (refl, refl, refl, tt)

  call_agrees : (kind : CType) (place at : Place) (arguments : List Value) (named : Option ℕ)
      → RunMoveAgrees change number (call_step new_scene world kind place arguments (option_map change.rename named)) (call_step old_scene world kind at arguments named)
  call_agrees kind place at arguments None = tt
  call_agrees kind place at arguments (Some d) =
      called_agrees kind place at arguments d (definition_of (new_of change) (change.rename d)) (definition_of change.old d)
      (definition_agrees change naming.injective change.functions change.old.functions naming.functions d)

  number_fact : Option (List ℕ × Sort × CType) → ℤ
  number_fact None = pos 0
  number_fact (Some facts) = number_of_sort facts.1

  enumerator_fact : (o : Option Declaration) → enumerator_in o ≡ number_fact (option_map facts_of o)
  unfolding number_fact
  enumerator_fact None = refl
  enumerator_fact (Some declaration) = refl

  same_enumerator : (d : ℕ) → enumerator_number (new_of change) (change.rename d) ≡ enumerator_number change.old d
  same_enumerator d = enumerator_fact (declaration_of (new_of change) (change.rename d)) ∙ ap number_fact (naming.told d) ∙ sym (enumerator_fact (declaration_of change.old d))

  operate_same : (label : Label) (kind : CType) (operands : List Operand) → operate new_scene world locks (relabelled change.rename label) kind operands ≡ operate old_scene world locks label kind operands
  operate_same (enumerator d) kind operands = ap (number_alone world kind) (same_enumerator d)
  operate_same (object d) kind operands = ap (designated world) (alike.same d)
  operate_same label kind operands = refl

  form_agrees : (label : Label) (kind : CType) (place at : Place) (parts others : Runs) (operands : List Operand) → RunsAgree change number parts others
      → RunMoveAgrees change number (form_step new_scene world locks (relabelled change.rename label) kind place parts operands) (form_step old_scene world locks label kind at others operands)
  form_agrees both kind place at parts others operands h =
      on_operand_agrees change number place at operands _ _ (λ a. by_truth_agrees change number world place at (truth_of world.memory (value_of a.result)) _ _ (both_agrees))
    where
      both_agrees : (b : Bool) → RunAgrees change number (both_chosen kind place parts b) (both_chosen kind at others b)
      both_agrees true = inl (refl, refl, (nth_agrees change number 1 parts others h, tt))
      both_agrees false = (refl, refl, refl)
  form_agrees either kind place at parts others operands h =
      on_operand_agrees change number place at operands _ _ (λ a. by_truth_agrees change number world place at (truth_of world.memory (value_of a.result)) _ _ (either_agrees))
    where
      either_agrees : (b : Bool) → RunAgrees change number (either_chosen kind place parts b) (either_chosen kind at others b)
      either_agrees true = (refl, refl, refl)
      either_agrees false = inl (refl, refl, (nth_agrees change number 1 parts others h, tt))
  form_agrees choose kind place at parts others operands h =
      on_operand_agrees change number place at operands _ _ (λ a. by_truth_agrees change number world place at (truth_of world.memory (value_of a.result)) _ _
      (λ b. inl (refl, refl, (nth_agrees change number (if b then 1 else 2) parts others h, tt))))
  form_agrees comma kind place at parts others operands h = (refl, inl (refl, refl, (nth_agrees change number 1 parts others h, tt)))
  form_agrees call kind place at parts others operands h =
      subst (λ named. RunMoveAgrees change number (call_step new_scene world kind place (map (λ a. value_of a.result) operands) named) (call_step old_scene world kind at (map (λ a. value_of a.result) operands) (function_named (nth_run 0 others))))
      (sym (same_function change number (nth_run 0 parts) (nth_run 0 others) (nth_agrees change number 0 parts others h)))
      (call_agrees kind place at (map (λ a. value_of a.result) operands) (function_named (nth_run 0 others)))
  form_agrees sizeof_tree kind place at parts others operands h =
      let own : CType → Did = λ type. number_alone world kind (pos ((layout change.old).size type)) in
      let type = kind_of_run (nth_run 0 others) in
      subst (λ t. RunMoveAgrees change number (as_move kind place [] (own t)) (as_move kind at [] (own type))) (sym (same_kind change number (nth_run 0 parts) (nth_run 0 others) (nth_agrees change number 0 parts others h)))
      (as_move_agrees change number kind place at [] [] (own type) refl)
  form_agrees label kind place at parts others operands h =
      subst (λ did. RunMoveAgrees change number (as_move kind place (locks_in_all parts) did) (as_move kind at (locks_in_all others) (operate old_scene world locks label kind operands)))
      (sym (operate_same label kind operands))
      (as_move_agrees change number kind place at (locks_in_all parts) (locks_in_all others) (operate old_scene world locks label kind operands) (same_locks_all change number parts others h))

  node_agrees : (doing : Doing) (kind : CType) (place at : Place) (parts others : Runs) (operands : List Operand) → RunsAgree change number parts others
      → RunMoveAgrees change number (node_step new_scene world locks (redone change.rename doing) kind place parts operands) (node_step old_scene world locks doing kind at others operands)
  node_agrees (evaluates label) kind place at parts others operands h = form_agrees label kind place at parts others operands h
  node_agrees gives_truth kind place at parts others operands h =
      on_operand_agrees change number place at operands _ _ (λ a. by_truth_agrees change number world place at (truth_of world.memory (value_of a.result)) _ _
      (λ b. (refl, refl, same_locks_all change number parts others h)))
  node_agrees gives_value kind place at parts others operands h =
      on_operand_agrees change number place at operands _ _ (λ a. (refl, (refl, refl, same_locks_all change number parts others h)))

  -- ---- all steps

  abbrev MatchedIn : Open → Runs → Move Runs Holes → Type 0
  MatchedIn opens others m =
      ((n : Move Runs Holes) × IsAmong n (moves_in old_scene world locks opens others) × MoveAgrees change.rename (RunsAgree change number) (HolesAgree change number) m n)
      ⊎ (((parts : Runs) × (m ≡ goes world parts) × (n : ℕ) × (holes : Holes) × AreOpen opens holes × (a b : Run) × (others ≡ all_filled_in holes a)
      × Quietly old_scene world n a b × RunsAgree change number parts (all_filled_in holes b))
      ⊎ ((holes : Holes) × AreOpen opens holes × (a : Run) × (others ≡ all_filled_in holes a) × Fails old_scene world a))

  -- the step of a node whose operands are evaluated, or one of its operands
  by_operands : (doing : Doing) (kind : CType) (place at : Place) (parts others : Runs) → RunsAgree change number parts others
      → (o : Option (List Operand)) → operands_in (open_parts doing) others ≡ o
      → ((m : Move Runs Holes) → IsAmong m (moves_in new_scene world locks (open_parts doing) parts) → MatchedIn (open_parts doing) others m)
      → (m : Move Run Hole) → IsAmong m (own_or_inner o (node_step new_scene world locks (redone change.rename doing) kind place parts)
      (map (lifted (to_do (redone change.rename doing) kind place) (within (redone change.rename doing) kind place)) (moves_in new_scene world locks (open_parts doing) parts)))
      → Matched change number old_scene world locks (to_do doing kind at others) m
  by_operands doing kind place at parts others h (Some operands) e inner m (inl k) =
      inl (
        node_step old_scene world locks doing kind at others operands,
        own_step (operands_in (open_parts doing) others) operands _ _ _ e refl,
        subst (λ x. RunMoveAgrees change number x (node_step old_scene world locks doing kind at others operands)) (sym k) (node_agrees doing kind place at parts others operands h),
      )
  by_operands doing kind place at parts others h (Some operands) e inner m (inr k) = absurd k
  by_operands doing kind place at parts others h None e inner m k =
      let from = among-map_from _ m _ k in
      lifted_match from.0 from.2 (inner from.0 from.1)
    where
      lifted_match : (x : Move Runs Holes) → m ≡ lifted (to_do (redone change.rename doing) kind place) (within (redone change.rename doing) kind place) x → MatchedIn (open_parts doing) others x → Matched change number old_scene world locks (to_do doing kind at others) m
      lifted_match x f (inl (n, among, agrees)) =
          inl (
            lifted (to_do doing kind at) (within doing kind at) n,
            inner_steps (operands_in (open_parts doing) others) _ _ _ e (among-map _ _ _ among),
            subst (λ y. RunMoveAgrees change number y (lifted (to_do doing kind at) (within doing kind at) n)) (sym f)
                (lifted_agrees change.rename (RunsAgree change number) (HolesAgree change number) (RunAgrees change number) (HoleAgrees change number)
                (to_do (redone change.rename doing) kind place) (within (redone change.rename doing) kind place) (to_do doing kind at) (within doing kind at)
                (λ t u r. inl (refl, refl, r)) (λ a b r. (refl, refl, r)) x n agrees),
          )
      lifted_match x f (inr (inl (run, g, n, holes, opened, a, b, here_it_is, quiet, agrees))) =
          inr (inl (
            to_do (redone change.rename doing) kind place run,
            f ∙ ap (lifted (to_do (redone change.rename doing) kind place) (within (redone change.rename doing) kind place)) g,
            n,
            to_do doing kind at (all_filled_in holes b),
            subst (λ y. Quietly old_scene world n (to_do doing kind at y) (to_do doing kind at (all_filled_in holes b))) (sym here_it_is)
                (quietly_inside old_scene world (within doing kind at holes) opened n a b quiet),
            inl (refl, refl, agrees),
          ))
      lifted_match x f (inr (inr (holes, opened, a, here_it_is, k))) =
          inr (inr (subst (λ y. Fails old_scene world (to_do doing kind at y)) (sym here_it_is) (fails_inside old_scene world (within doing kind at holes) opened a k)))

  -- a node of the same form
  node_matched : (doing other : Doing) (kind other_kind : CType) (place at : Place) (parts others : Runs) → doing ≡ redone change.rename other → kind ≡ other_kind → RunsAgree change number parts others
      → ((opens : Open) (m : Move Runs Holes) → IsAmong m (moves_in new_scene world locks opens parts) → MatchedIn opens others m)
      → (m : Move Run Hole) → IsAmong m (moves new_scene world locks (to_do doing kind place parts)) → Matched change number old_scene world locks (to_do other other_kind at others) m
  node_matched doing other kind other_kind place at parts others e f h inner m k =
      let same : IsAmong m (moves new_scene world locks (to_do (redone change.rename other) other_kind place parts)) =
      subst (λ d. IsAmong m (moves new_scene world locks (to_do d other_kind place parts))) e (subst (λ t. IsAmong m (moves new_scene world locks (to_do doing t place parts))) f k) in
      let opened : IsAmong m (own_or_inner (operands_in (open_parts other) parts) (node_step new_scene world locks (redone change.rename other) other_kind place parts)
      (map (lifted (to_do (redone change.rename other) other_kind place) (within (redone change.rename other) other_kind place)) (moves_in new_scene world locks (open_parts other) parts))) =
      subst (λ opens. IsAmong m (own_or_inner (operands_in opens parts) (node_step new_scene world locks (redone change.rename other) other_kind place parts)
      (map (lifted (to_do (redone change.rename other) other_kind place) (within (redone change.rename other) other_kind place)) (moves_in new_scene world locks opens parts))))
      (open_parts_redone change.rename other) same in
      by_operands other other_kind place at parts others h (operands_in (open_parts other) others) refl (inner (open_parts other)) m
      (subst (λ o. IsAmong m (own_or_inner o (node_step new_scene world locks (redone change.rename other) other_kind place parts)
      (map (lifted (to_do (redone change.rename other) other_kind place) (within (redone change.rename other) other_kind place)) (moves_in new_scene world locks (open_parts other) parts))))
      (same_operands change number parts others (open_parts other) h) opened)

  -- ---- the read of the added object

  agrees_itself : (kind : Kind) → agree_without_const (integer kind) (integer kind) ≡ true
  agrees_itself CBool = refl
  agrees_itself Char = refl
  agrees_itself SChar = refl
  agrees_itself UChar = refl
  agrees_itself Short = refl
  agrees_itself UShort = refl
  agrees_itself Int = refl
  agrees_itself UInt = refl
  agrees_itself Long = refl
  agrees_itself ULong = refl
  agrees_itself LLong = refl
  agrees_itself ULLong = refl

  abbrev at : At
  at = whole (numbered number)

  -- by what stands there, why reading it is undefined
  abbrev read_by_causes : Bool → Option Block → Bool → List Cause
  read_by_causes locked block other =
      (when Conflict locked ++ when Bounds (is_outside (reached_in (layout change.old) [] block)) ++ when Life (not (lives block)) ++ when OtherType other)
      ++ when Unset (is_unset_object (or_unset (value_in [] block)) (reached_in (layout change.old) [] block))

  -- the read comes to the value
  read_held : read_at new_scene world locks (integer change.kind) at ≡ plain world (integer_value change.kind change.value)
  read_held =
      ap (λ block. unless (read_by_causes (overlaps_any at locks) block (is_other (integer change.kind) (reached_in (layout change.old) [] block))) (plain world (or_unset (value_in [] block)))) has
      ∙ ap (λ locked. unless (read_by_causes locked (Some (held change)) (not (agree_without_const (integer change.kind) (integer change.kind)))) (plain world (integer_value change.kind change.value))) free
      ∙ ap (λ agrees. unless (read_by_causes false (Some (held change)) (not agrees)) (plain world (integer_value change.kind change.value))) (agrees_itself change.kind)

  -- where the name designates the object, the value is read, and the old program evaluates the constant expression, or goes wrong
  value_matched : (kind named_kind : CType) (place : Place) (other : Run) (tree : Tree) → kind ≡ integer change.kind → other ≡ begun tree → IsConstant change tree
      → Matched change number old_scene world locks other (as_move kind place [] (read_at new_scene world locks kind at))
  value_matched kind named_kind place other tree same_kind_here untouched constant = by_evaluation (constant_evaluates change.old objects world tree constant.scene constant.typed change.value constant.value)
    where
      gives_value_here : as_move kind place [] (read_at new_scene world locks kind at) ≡ goes world (done kind (of_value (integer_value change.kind change.value)) [])
      gives_value_here = ap (λ k. as_move kind place [] (read_at new_scene world locks k at)) same_kind_here ∙ ap (as_move kind place []) read_held

      last_value : typed (kind_of tree) change.value ≡ integer_value change.kind change.value
      last_value = ap (λ k. typed k change.value) constant.kind

      by_evaluation : Comes change.old objects world (begun tree) (kind_of tree) change.value
          → Matched change number old_scene world locks other (as_move kind place [] (read_at new_scene world locks kind at))
      by_evaluation (inl (n, quiet, fits)) =
          inr (inl (
            done kind (of_value (integer_value change.kind change.value)) [],
            gives_value_here,
            n,
            done (kind_of tree) (of_value (typed (kind_of tree) change.value)) [],
            subst (λ x. Quietly old_scene world n x (done (kind_of tree) (of_value (typed (kind_of tree) change.value)) [])) (sym untouched) quiet,
            (same_kind_here ∙ sym constant.kind, sym (ap of_value last_value), refl),
          ))
      by_evaluation (inr k) = inr (inr (subst (Fails old_scene world) (sym untouched) k))

  -- the name of the added object designates it, and the old program stands still
  name_step : (name : Run) → NamesAdded change number name → (x : Move Run Hole) → IsAmong x (moves new_scene world locks name)
      → (kind : CType) × (x ≡ goes world (done kind (designates at) []))
  name_step (done kind result own) h x k = absurd k
  name_step (to_do doing kind place parts) h x k = (
    kind,
    by_form (subst (λ p. IsAmong x (moves new_scene world locks (to_do (evaluates (object change.added)) kind place p))) h.1
        (subst (λ d. IsAmong x (moves new_scene world locks (to_do d kind place parts))) h.0 k)),
  )
    where
      by_form : IsAmong x (moves new_scene world locks (to_do (evaluates (object change.added)) kind place no_runs)) → x ≡ goes world (done kind (designates at) [])
      by_form (inl e) = e ∙ ap (λ o. as_move kind place [] (designated world o)) alike.added
      by_form (inr e) = absurd e

  unread_matched : (doing : Doing) (kind : CType) (place : Place) (parts : Runs) (other_doing : Doing) (other_kind : CType) (other_place : Place) (others : Runs)
      → IsUnread change number doing kind parts (to_do other_doing other_kind other_place others)
      → (m : Move Run Hole) → IsAmong m (moves new_scene world locks (to_do doing kind place parts))
      → Matched change number old_scene world locks (to_do other_doing other_kind other_place others) m
  unread_matched doing kind place parts other_doing other_kind other_place others h m k =
      by_name h.name h.names
      (subst (λ p. IsAmong m (moves new_scene world locks (to_do (evaluates read) kind place p))) h.one
      (subst (λ d. IsAmong m (moves new_scene world locks (to_do d kind place parts))) h.is k))
    where
      by_name : (name : Run) → NamesAdded change number name → IsAmong m (moves new_scene world locks (to_do (evaluates read) kind place (more_runs name no_runs)))
          → Matched change number old_scene world locks (to_do other_doing other_kind other_place others) m
      by_name (done named_kind result own) names (inl e) =
          subst (Matched change number old_scene world locks (to_do other_doing other_kind other_place others))
          (sym (e ∙ ap (λ r. as_move kind place (own ++ []) (on_place r (read_at new_scene world locks kind))) names.0 ∙ ap (λ l. as_move kind place (l ++ []) (read_at new_scene world locks kind at)) names.1))
          (value_matched kind named_kind place (to_do other_doing other_kind other_place others) h.tree h.typed h.untouched h.constant)
      by_name (done named_kind result own) names (inr e) = absurd e
      by_name (to_do named_doing named_kind named_place named_parts) names e =
          let run = to_do named_doing named_kind named_place named_parts in
          let from = among-map_from (lifted (to_do (evaluates read) kind place) (within (evaluates read) kind place)) m (moves_in new_scene world locks every (more_runs run no_runs)) e in
          by_operand from.0 from.2 (among_either from.0 (map (lifted (λ r. more_runs r no_runs) (λ hole. in_first hole no_runs)) (moves new_scene world locks run)) [] from.1)
        where
          stood : (x : Move Run Hole) → m ≡ lifted (to_do (evaluates read) kind place) (within (evaluates read) kind place) (lifted (λ r. more_runs r no_runs) (λ hole. in_first hole no_runs) x)
              → (found : CType) → x ≡ goes world (done found (designates at) []) → Matched change number old_scene world locks (to_do other_doing other_kind other_place others) m
          stood x f found e =
              inr (inl (
                to_do (evaluates read) kind place (more_runs (done found (designates at) []) no_runs),
                f ∙ ap (λ y. lifted (to_do (evaluates read) kind place) (within (evaluates read) kind place) (lifted (λ r. more_runs r no_runs) (λ hole. in_first hole no_runs) y)) e,
                0,
                to_do other_doing other_kind other_place others,
                refl,
                inr (record {
                  name = done found (designates at) [];
                  tree = h.tree;
                  is = refl;
                  one = refl;
                  names = (refl, refl);
                  typed = h.typed;
                  untouched = h.untouched;
                  constant = h.constant;
                }),
              ))

          by_operand : (x : Move Runs Holes) → m ≡ lifted (to_do (evaluates read) kind place) (within (evaluates read) kind place) x
              → IsAmong x (map (lifted (λ r. more_runs r no_runs) (λ hole. in_first hole no_runs)) (moves new_scene world locks (to_do named_doing named_kind named_place named_parts))) ⊎ ⊥
              → Matched change number old_scene world locks (to_do other_doing other_kind other_place others) m
          by_operand x f (inr e) = absurd e
          by_operand x f (inl e) =
              let from = among-map_from (lifted (λ r. more_runs r no_runs) (λ hole. in_first hole no_runs)) x (moves new_scene world locks (to_do named_doing named_kind named_place named_parts)) e in
              let step = name_step (to_do named_doing named_kind named_place named_parts) names from.0 from.1 in
              stood from.0 (f ∙ ap (lifted (to_do (evaluates read) kind place) (within (evaluates read) kind place)) from.2) step.0 step.1

  -- a step of the first operand, or of another one
  where_open_from : {M : Type 0} (opened : Bool) (xs : List M) (m : M) → IsAmong m (where_open opened xs) → IsTrue opened × IsAmong m xs
  where_open_from true xs m k = (refl, k)
  where_open_from false xs m k = absurd k

  first_or_rest : (first : Run) (rest : Runs) (other : Run) (others : Runs) → RunAgrees change number first other × RunsAgree change number rest others → (opens : Open) (m : Move Runs Holes)
      → ((x : Move Run Hole) → IsAmong x (moves new_scene world locks first) → Matched change number old_scene world locks other x)
      → ((x : Move Runs Holes) → IsAmong x (moves_in new_scene world locks (others_open opens) rest) → MatchedIn (others_open opens) others x)
      → IsAmong m (where_open (first_open opens) (map (lifted (λ run. more_runs run rest) (λ hole. in_first hole rest)) (moves new_scene world locks first)))
      ⊎ IsAmong m (map (lifted (more_runs first) (in_others first)) (moves_in new_scene world locks (others_open opens) rest))
      → MatchedIn opens (more_runs other others) m
  first_or_rest first rest other others h opens m one more (inl k) =
      let open_here = where_open_from (first_open opens) _ m k in
      let from = among-map_from _ m _ open_here.1 in
      first_match open_here.0 from.0 from.2 (one from.0 from.1)
    where
      first_match : IsTrue (first_open opens) → (x : Move Run Hole) → m ≡ lifted (λ run. more_runs run rest) (λ hole. in_first hole rest) x → Matched change number old_scene world locks other x → MatchedIn opens (more_runs other others) m
      first_match opened x f (inl (n, among, agrees)) =
          inl (
            lifted (λ run. more_runs run others) (λ hole. in_first hole others) n,
            open_steps (first_open opens) _ _ _ opened (among-map _ _ _ among),
            subst (λ y. MoveAgrees change.rename (RunsAgree change number) (HolesAgree change number) y (lifted (λ run. more_runs run others) (λ hole. in_first hole others) n)) (sym f)
                (lifted_agrees change.rename (RunAgrees change number) (HoleAgrees change number) (RunsAgree change number) (HolesAgree change number)
                (λ run. more_runs run rest) (λ hole. in_first hole rest) (λ run. more_runs run others) (λ hole. in_first hole others)
                (λ t u r. (r, h.1)) (λ a b r. (r, h.1)) x n agrees),
          )
      first_match opened x f (inr (inl (run, g, n, last, quiet, agrees))) =
          inr (inl (
            more_runs run rest,
            f ∙ ap (lifted (λ r. more_runs r rest) (λ hole. in_first hole rest)) g,
            n,
            in_first here others,
            (opened, tt),
            other,
            last,
            refl,
            quiet,
            (agrees, h.1),
          ))
      first_match opened x f (inr (inr k)) = inr (inr (in_first here others, (opened, tt), other, refl, k))
  first_or_rest first rest other others h opens m one more (inr k) =
      let from = among-map_from _ m _ k in
      rest_match from.0 from.2 (more from.0 from.1)
    where
      rest_match : (x : Move Runs Holes) → m ≡ lifted (more_runs first) (in_others first) x → MatchedIn (others_open opens) others x → MatchedIn opens (more_runs other others) m
      rest_match x f (inl (n, among, agrees)) =
          inl (
            lifted (more_runs other) (in_others other) n,
            among_right _ (where_open (first_open opens) (map (lifted (λ run. more_runs run others) (λ hole. in_first hole others)) (moves old_scene world locks other))) _ (among-map _ _ _ among),
            subst (λ y. MoveAgrees change.rename (RunsAgree change number) (HolesAgree change number) y (lifted (more_runs other) (in_others other) n)) (sym f)
                (lifted_agrees change.rename (RunsAgree change number) (HolesAgree change number) (RunsAgree change number) (HolesAgree change number)
                (more_runs first) (in_others first) (more_runs other) (in_others other)
                (λ t u r. (h.0, r)) (λ a b r. (h.0, r)) x n agrees),
          )
      rest_match x f (inr (inl (run, g, n, holes, opened, a, b, e, quiet, agrees))) =
          inr (inl (
            more_runs first run,
            f ∙ ap (lifted (more_runs first) (in_others first)) g,
            n,
            in_others other holes,
            opened,
            a,
            b,
            ap (more_runs other) e,
            quiet,
            (h.0, agrees),
          ))
      rest_match x f (inr (inr (holes, opened, a, e, k))) = inr (inr (in_others other holes, opened, a, ap (more_runs other) e, k))

  mutual
    pub run_matched : (run other : Run) → RunAgrees change number run other → (m : Move Run Hole) → IsAmong m (moves new_scene world locks run) → Matched change number old_scene world locks other m
    run_matched (done kind result own) (done other_kind other_result other_own) h m k = absurd k
    run_matched (done kind result own) (to_do doing other_kind place parts) h m k = absurd h
    run_matched (to_do doing kind place parts) (done other_kind result own) h m k = absurd h
    run_matched (to_do doing kind place parts) (to_do other other_kind at others) (inl h) m k =
        node_matched doing other kind other_kind place at parts others h.0 h.1 h.2 (λ opens. runs_matched parts others h.2 opens) m k
    run_matched (to_do doing kind place parts) (to_do other other_kind at others) (inr h) m k =
        unread_matched doing kind place parts other other_kind at others h m k

    pub runs_matched : (parts others : Runs) → RunsAgree change number parts others → (opens : Open) (m : Move Runs Holes) → IsAmong m (moves_in new_scene world locks opens parts) → MatchedIn opens others m
    runs_matched no_runs no_runs h opens m k = absurd k
    runs_matched no_runs (more_runs other others) h opens m k = absurd h
    runs_matched (more_runs first rest) no_runs h opens m k = absurd h
    runs_matched (more_runs first rest) (more_runs other others) h opens m k =
        first_or_rest first rest other others h opens m (run_matched first other h.0) (runs_matched rest others h.1 (others_open opens)) (among_either m _ _ k)
