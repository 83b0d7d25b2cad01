-- Trees under evaluation in the two programs, and that each step of the new one is met in the old one: by the same step, or, at an
-- enumerator, by the evaluation of the constant expression, or the old one goes wrong there.
use Rattle.std.specs.Prelude.{◌≡◌, refl, ◌⊎◌, ℕ, zero, suc, ◌==◌, Bool, true, false, IsTrue, List, [], ◌∷◌, ◌++◌, map, slice_get, Option, Some, None, option_map, ℤ, pos, if◌then◌else◌}
use Rattle.std.proofs.Common.{arith, ap, sym, ◌∙◌, subst, inl, inr}
use Rattle.dm_token.specs.declared.place.Place.{Place}
use Rattle.dm_type.specs.CTypes.{CType, void}
use Rattle.dm_tree.specs.declared.unit.Sort.{Sort}
use Rattle.dm_tree.specs.Constants as constants
use Rattle.dm_tree.specs.Constants.{is_constant_form, constant_forms, constant_value, enumerator_value}
use Rattle.dm_tree.specs.Trees.{Label, enumerator, object, function, both, either, choose, comma, call, sizeof_tree, Tree, Trees, node, no_trees, more_trees, kind_of}
use Rattle.dm_tree.specs.Units.{Declaration}
use Rattle.dm_meaning.specs.Among.{IsAmong}
use Rattle.dm_meaning.specs.Values.{At, Value}
use Rattle.dm_meaning.specs.Primitives.{Answer, answers, stops, refuses, Prim}
use Rattle.dm_meaning.specs.Programs.{Definition, layout, declaration_of, definition_in, definition_of}
use Rattle.dm_meaning.specs.Operations.{of_value, Operand, World, Objects, Scene, Did, gives, breaks, ends_with, typed, Truth, holds, untold, truth_of, enumerator_number, number_of_sort, enumerator_in, object_named, designated, operate, number_alone, Result, provided, plain, is_of_kind}
use Rattle.dm_meaning.specs.Running.{Doing, evaluates, gives_truth, gives_value, Run, done, to_do, Runs, no_runs, more_runs, begun, all_begun, locks_in, locks_in_all, Open, first_open, others_open, open_of, open_parts, first_result, operands_in, Hole, here, within, Holes, in_first, in_others, filled_in, all_filled_in, AreOpen}
use Rattle.dm_meaning.specs.Expressions.{Move, goes, calls, fails, exits, lifted, as_move, by_truth, on_operand, value_of, nth_run, both_chosen, either_chosen, function_in, function_named, answered, undefined_called, called, call_step, kind_of_run, form_step, node_step, own_or_inner, where_open, moves, moves_in}
use Rattle.dm_meaning.specs.Replaced.{Replaced, new_of, relabelled, Zipped, IsEnumerated, Agrees, AllAgree, facts_of, DefinitionAgrees, IsReplacement}
use Rattle.dm_meaning.proofs.AmongLemmas.{among_right, among_either, among-map, among-map_from}
use Rattle.dm_meaning.proofs.MoveLemmas.{inner_steps, open_steps}
use Rattle.dm_meaning.proofs.OptionLemmas.{none_is_some}
use Rattle.dm_meaning.proofs.QuietLemmas.{Quietly, quietly_inside, Fails, fails_inside}
use Rattle.dm_meaning.proofs.ConstantLemmas.{no_locks, kind_begun, own_step, no_form, entry_number, constant_parts, constant_evaluates, Comes}

-- ---- how trees, and trees with a part left out, agree

abbrev pub redone : (ℕ → ℕ) → Doing → Doing
redone rename (evaluates label) = evaluates (relabelled rename label)
redone rename gives_truth = gives_truth
redone rename gives_value = gives_value

-- an enumerator that isn't evaluated yet, where the old program has the constant expression
pub record IsEnumeratedRun (change : Replaced) (doing : Doing) (kind : CType) (parts : Runs) (other : Run) : Type 0 where
  pub label : Label
  pub tree : Tree
  pub is : doing ≡ evaluates label
  pub leaf : parts ≡ no_runs
  pub untouched : other ≡ begun tree
  pub enumerated : IsEnumerated change label kind no_trees tree

abbrev mutual
  pub RunAgrees : Replaced → Run → Run → Type 0
  RunAgrees change (done kind result locks) (done other_kind other_result other_locks) = (kind ≡ other_kind) × (result ≡ other_result) × (locks ≡ other_locks)
  RunAgrees change (done kind result locks) (to_do doing other_kind place parts) = ⊥
  RunAgrees change (to_do doing kind place parts) (done other_kind result locks) = ⊥
  RunAgrees change (to_do doing kind place parts) (to_do other other_kind other_place others) =
      ((doing ≡ redone change.rename other) × (kind ≡ other_kind) × RunsAgree change parts others)
      ⊎ IsEnumeratedRun change doing kind parts (to_do other other_kind other_place others)

  pub RunsAgree : Replaced → Runs → Runs → Type 0
  RunsAgree change no_runs no_runs = Unit {0}
  RunsAgree change (more_runs first rest) (more_runs other others) = RunAgrees change first other × RunsAgree change rest others
  RunsAgree change no_runs (more_runs other others) = ⊥
  RunsAgree change (more_runs first rest) no_runs = ⊥

abbrev mutual
  pub HoleAgrees : Replaced → Hole → Hole → Type 0
  HoleAgrees change here here = Unit {0}
  HoleAgrees change (within doing kind place holes) (within other other_kind other_place others) =
      (doing ≡ redone change.rename other) × (kind ≡ other_kind) × HolesAgree change holes others
  HoleAgrees change here (within other other_kind other_place others) = ⊥
  HoleAgrees change (within doing kind place holes) here = ⊥

  pub HolesAgree : Replaced → Holes → Holes → Type 0
  HolesAgree change (in_first hole rest) (in_first other others) = HoleAgrees change hole other × RunsAgree change rest others
  HolesAgree change (in_others first holes) (in_others other others) = RunAgrees change first other × HolesAgree change holes others
  HolesAgree change (in_first hole rest) (in_others other others) = ⊥
  HolesAgree change (in_others first holes) (in_first other others) = ⊥

-- a step and another one come to the same
abbrev pub MoveAgrees : {T H U G : Type 0} → (ℕ → ℕ) → (T → U → Type 0) → (H → G → Type 0) → Move T H → Move U G → Type 0
MoveAgrees rename R S (goes world t) (goes other u) = (world ≡ other) × R t u
MoveAgrees rename R S (calls f arguments kind h) (calls g others other g_hole) = (f ≡ rename g) × (arguments ≡ others) × (kind ≡ other) × S h g_hole
MoveAgrees rename R S (fails cause place) (fails other at) = Unit {0}
MoveAgrees rename R S (exits status) (exits other) = status ≡ other
MoveAgrees rename R S m n = ⊥

pub lifted_agrees : {T H U G T' H' U' G' : Type 0} (rename : ℕ → ℕ) (R : T → U → Type 0) (S : H → G → Type 0) (R' : T' → U' → Type 0) (S' : H' → G' → Type 0)
    (f : T → T') (g : H → H') (f' : U → U') (g' : G → G')
    → ((t : T) (u : U) → R t u → R' (f t) (f' u)) → ((h : H) (k : G) → S h k → S' (g h) (g' k))
    → (m : Move T H) (n : Move U G) → MoveAgrees rename R S m n → MoveAgrees rename R' S' (lifted f g m) (lifted f' g' n)
lifted_agrees rename R S R' S' f g f' g' p q (goes world t) (goes other u) h = (h.0, p t u h.1)
lifted_agrees rename R S R' S' f g f' g' p q (goes world t) (calls e others kind k) h = absurd h
lifted_agrees rename R S R' S' f g f' g' p q (goes world t) (fails cause place) h = absurd h
lifted_agrees rename R S R' S' f g f' g' p q (goes world t) (exits status) h = absurd h
lifted_agrees rename R S R' S' f g f' g' p q (calls e arguments kind a) (calls d others other b) h = (h.0, h.1, h.2, q a b h.3)
lifted_agrees rename R S R' S' f g f' g' p q (calls e arguments kind a) (goes world u) h = absurd h
lifted_agrees rename R S R' S' f g f' g' p q (calls e arguments kind a) (fails cause place) h = absurd h
lifted_agrees rename R S R' S' f g f' g' p q (calls e arguments kind a) (exits status) h = absurd h
lifted_agrees rename R S R' S' f g f' g' p q (fails cause place) (fails other at) h = tt
lifted_agrees rename R S R' S' f g f' g' p q (fails cause place) (goes world u) h = absurd h
lifted_agrees rename R S R' S' f g f' g' p q (fails cause place) (calls e others kind k) h = absurd h
lifted_agrees rename R S R' S' f g f' g' p q (fails cause place) (exits status) h = absurd h
lifted_agrees rename R S R' S' f g f' g' p q (exits status) (exits other) h = h
lifted_agrees rename R S R' S' f g f' g' p q (exits status) (goes world u) h = absurd h
lifted_agrees rename R S R' S' f g f' g' p q (exits status) (calls e others kind k) h = absurd h
lifted_agrees rename R S R' S' f g f' g' p q (exits status) (fails cause place) h = absurd h

-- a tree of which nothing is evaluated isn't done
never_done : (tree : Tree) (kind : CType) (result : Result) (locks : List At) → begun tree ≡ done kind result locks → ⊥
never_done (node label own spans parts) kind result locks e = cc

-- ---- what renaming keeps

open_of_relabelled : (rename : ℕ → ℕ) (label : Label) → open_of (relabelled rename label) ≡ open_of label
open_of_relabelled rename (enumerator d) = refl
open_of_relabelled rename label = refl

open_parts_redone : (rename : ℕ → ℕ) (doing : Doing) → open_parts (redone rename doing) ≡ open_parts doing
open_parts_redone rename (evaluates label) = open_of_relabelled rename label
open_parts_redone rename gives_truth = refl
open_parts_redone rename gives_value = refl

function_in_redone : (rename : ℕ → ℕ) (doing : Doing) → function_in (redone rename doing) ≡ option_map rename (function_in doing)
function_in_redone rename (evaluates (function d)) = refl
function_in_redone rename (evaluates label) = refl
function_in_redone rename gives_truth = refl
function_in_redone rename gives_value = refl

-- two names are equal where they were
pub same_renamed : (rename : ℕ → ℕ) → ((c d : ℕ) → rename c ≡ rename d → c ≡ d) → (c d : ℕ) → (rename c == rename d) ≡ (c == d)
same_renamed rename injective c d = by_case (c == d) refl
  where
    equal_of : (m n : ℕ) → (m == n) ≡ true → m ≡ n
    equal_of m n e = grind arith

    equal_is : (m n : ℕ) → m ≡ n → (m == n) ≡ true
    equal_is m n e = grind arith

    by_other : (b : Bool) → (rename c == rename d) ≡ b → (c == d) ≡ false → b ≡ false
    by_other true e f = absurd (cc (equal_is c d (injective c d (equal_of (rename c) (rename d) e))))
    by_other false e f = refl

    by_case : (b : Bool) → (c == d) ≡ b → (rename c == rename d) ≡ b
    by_case true e = equal_is (rename c) (rename d) (ap rename (equal_of c d e))
    by_case false e = by_other (rename c == rename d) refl e

-- the objects that declarations name, by their new numbers
abbrev pub renamed_objects : (ℕ → ℕ) → Objects → Objects
renamed_objects rename objects = map (λ entry. (rename entry.0, entry.1)) objects

pub object_renamed : (rename : ℕ → ℕ) → ((c d : ℕ) → rename c ≡ rename d → c ≡ d) → (objects : Objects) (d : ℕ) → object_named (renamed_objects rename objects) (rename d) ≡ object_named objects d
object_renamed rename injective [] d = refl
object_renamed rename injective (entry ∷ entries) d =
    ap (λ b. if b then Some entry.1 else object_named (renamed_objects rename entries) (rename d)) (same_renamed rename injective entry.0 d)
    ∙ ap (λ o. if entry.0 == d then Some entry.1 else o) (object_renamed rename injective entries d)

-- two options agree
abbrev pub OptionAgrees : {X Y : Type 0} → (X → Y → Type 0) → Option X → Option Y → Type 0
OptionAgrees R None None = Unit {0}
OptionAgrees R (Some x) (Some y) = R x y
OptionAgrees R None (Some y) = ⊥
OptionAgrees R (Some x) None = ⊥

if_agrees : {X Y : Type 0} (R : X → Y → Type 0) (b : Bool) (x x' : Option X) (y y' : Option Y) → OptionAgrees R x y → OptionAgrees R x' y' → OptionAgrees R (if b then x else x') (if b then y else y')
if_agrees R true x x' y y' h k = h
if_agrees R false x x' y y' h k = k

pub definition_agrees : (change : Replaced) → ((c d : ℕ) → change.rename c ≡ change.rename d → c ≡ d) → (fs gs : List Definition) → Zipped (DefinitionAgrees change) fs gs → (d : ℕ)
    → OptionAgrees (DefinitionAgrees change) (definition_in fs (change.rename d)) (definition_in gs d)
definition_agrees change injective [] [] h d = tt
definition_agrees change injective [] (g ∷ gs) h d = absurd h
definition_agrees change injective (f ∷ fs) [] h d = absurd h
definition_agrees change injective (f ∷ fs) (g ∷ gs) h d =
    let same : (f.function == change.rename d) ≡ (g.function == d) = ap (λ n. n == change.rename d) h.0.0 ∙ same_renamed change.rename injective g.function d in
    subst (λ b. OptionAgrees (DefinitionAgrees change) (if b then Some f else definition_in fs (change.rename d)) (if g.function == d then Some g else definition_in gs d)) (sym same)
    (if_agrees (DefinitionAgrees change) (g.function == d) (Some f) (definition_in fs (change.rename d)) (Some g) (definition_in gs d) h.0 (definition_agrees change injective fs gs h.1 d))

-- ---- what agreeing trees have in common

mutual
  pub begun_agrees : (change : Replaced) (tree other : Tree) → Agrees change tree other → RunAgrees change (begun tree) (begun other)
  begun_agrees change (node label kind spans parts) (node other other_kind other_spans others) (inl h) =
      inl (ap evaluates h.0, h.1, all_begun_agree change parts others h.2)
  begun_agrees change (node label kind spans parts) (node other other_kind other_spans others) (inr h) =
      inr (record {
        label = label;
        tree = node other other_kind other_spans others;
        is = refl;
        leaf = ap all_begun h.leaf;
        untouched = refl;
        enumerated = record {
          declared = h.declared;
          value = h.value;
          is = h.is;
          leaf = refl;
          int = h.int;
          other_int = h.other_int;
          constant = h.constant;
          named = h.named;
          scene = h.scene;
          typed = h.typed;
        };
      })

  pub all_begun_agree : (change : Replaced) (trees others : Trees) → AllAgree change trees others → RunsAgree change (all_begun trees) (all_begun others)
  all_begun_agree change no_trees no_trees h = tt
  all_begun_agree change (more_trees first rest) (more_trees other others) h = (begun_agrees change first other h.0, all_begun_agree change rest others h.1)
  all_begun_agree change no_trees (more_trees other others) h = absurd h
  all_begun_agree change (more_trees first rest) no_trees h = absurd h

same_first : (change : Replaced) (opened : Bool) (run other : Run) (rest : Option (List Operand)) → RunAgrees change run other → first_result opened run rest ≡ first_result opened other rest
same_first change true (done kind result locks) (done other_kind other_result other_locks) rest h =
    ap (λ k. first_result true (done k result locks) rest) h.0 ∙ ap (λ r. first_result true (done other_kind r locks) rest) h.1
same_first change true (done kind result locks) (to_do doing other_kind place parts) rest h = absurd h
same_first change true (to_do doing kind place parts) (done other_kind result locks) rest h = absurd h
same_first change true (to_do doing kind place parts) (to_do other other_kind other_place others) rest h = refl
same_first change false run other rest h = refl

pub same_operands : (change : Replaced) (parts others : Runs) (opens : Open) → RunsAgree change parts others → operands_in opens parts ≡ operands_in opens others
same_operands change no_runs no_runs opens h = refl
same_operands change no_runs (more_runs other others) opens h = absurd h
same_operands change (more_runs first rest) no_runs opens h = absurd h
same_operands change (more_runs first rest) (more_runs other others) opens h =
    ap (first_result (first_open opens) first) (same_operands change rest others (others_open opens) h.1)
    ∙ same_first change (first_open opens) first other (operands_in (others_open opens) others) h.0

mutual
  pub same_locks : (change : Replaced) (run other : Run) → RunAgrees change run other → locks_in run ≡ locks_in other
  same_locks change (done kind result locks) (done other_kind other_result other_locks) h = h.2
  same_locks change (done kind result locks) (to_do doing other_kind place parts) h = absurd h
  same_locks change (to_do doing kind place parts) (done other_kind result locks) h = absurd h
  same_locks change (to_do doing kind place parts) (to_do other other_kind other_place others) (inl h) = same_locks_all change parts others h.2
  same_locks change (to_do doing kind place parts) (to_do other other_kind other_place others) (inr h) =
      ap locks_in_all h.leaf ∙ sym (ap locks_in h.untouched ∙ no_locks h.tree)

  pub same_locks_all : (change : Replaced) (parts others : Runs) → RunsAgree change parts others → locks_in_all parts ≡ locks_in_all others
  same_locks_all change no_runs no_runs h = refl
  same_locks_all change no_runs (more_runs other others) h = absurd h
  same_locks_all change (more_runs first rest) no_runs h = absurd h
  same_locks_all change (more_runs first rest) (more_runs other others) h =
      ap (λ l. l ++ locks_in_all rest) (same_locks change first other h.0) ∙ ap (λ l. locks_in other ++ l) (same_locks_all change rest others h.1)

pub same_kind : (change : Replaced) (run other : Run) → RunAgrees change run other → kind_of_run run ≡ kind_of_run other
same_kind change (done kind result locks) (done other_kind other_result other_locks) h = h.0
same_kind change (done kind result locks) (to_do doing other_kind place parts) h = absurd h
same_kind change (to_do doing kind place parts) (done other_kind result locks) h = absurd h
same_kind change (to_do doing kind place parts) (to_do other other_kind other_place others) (inl h) = h.1
same_kind change (to_do doing kind place parts) (to_do other other_kind other_place others) (inr h) =
    h.enumerated.int ∙ sym (ap kind_of_run h.untouched ∙ kind_begun h.tree ∙ h.enumerated.other_int)

pub nth_agrees : (change : Replaced) (n : ℕ) (parts others : Runs) → RunsAgree change parts others → RunAgrees change (nth_run n parts) (nth_run n others)
nth_agrees change n no_runs no_runs h = (refl, refl, refl)
nth_agrees change n no_runs (more_runs other others) h = absurd h
nth_agrees change n (more_runs first rest) no_runs h = absurd h
nth_agrees change zero (more_runs first rest) (more_runs other others) h = h.0
nth_agrees change (suc n) (more_runs first rest) (more_runs other others) h = nth_agrees change n rest others h.1

-- a constant expression names no function
not_function : (label : Label) (kind : CType) (passes : List Bool) → constants.has_constant_form label kind passes ≡ true → function_in (evaluates label) ≡ None
not_function (function d) kind passes h = absurd (no_form (function d) kind passes refl refl h)
not_function label kind passes h = refl

tree_not_function : (tree : Tree) → is_constant_form tree ≡ true → function_named (begun tree) ≡ None
tree_not_function (node label kind spans parts) h = not_function label kind (constant_forms parts) h

pub same_function : (change : Replaced) (run other : Run) → RunAgrees change run other → function_named run ≡ option_map change.rename (function_named other)
same_function change (done kind result locks) (done other_kind other_result other_locks) h = refl
same_function change (done kind result locks) (to_do doing other_kind place parts) h = absurd h
same_function change (to_do doing kind place parts) (done other_kind result locks) h = absurd h
same_function change (to_do doing kind place parts) (to_do other other_kind other_place others) (inl h) = ap function_in h.0 ∙ function_in_redone change.rename other
same_function change (to_do doing kind place parts) (to_do other other_kind other_place others) (inr h) =
    ap function_in (h.is ∙ ap evaluates h.enumerated.is)
    ∙ sym (ap (option_map change.rename) (ap function_named h.untouched ∙ tree_not_function h.tree (constant_parts change.old h.tree h.enumerated.value h.enumerated.constant).0))

mutual
  pub filled_agrees : (change : Replaced) (hole other : Hole) (run other_run : Run) → HoleAgrees change hole other → RunAgrees change run other_run → RunAgrees change (filled_in hole run) (filled_in other other_run)
  filled_agrees change here here run other_run h k = k
  filled_agrees change here (within other other_kind other_place others) run other_run h k = absurd h
  filled_agrees change (within doing kind place holes) here run other_run h k = absurd h
  filled_agrees change (within doing kind place holes) (within other other_kind other_place others) run other_run h k =
      inl (h.0, h.1, all_filled_agree change holes others run other_run h.2 k)

  pub all_filled_agree : (change : Replaced) (holes others : Holes) (run other_run : Run) → HolesAgree change holes others → RunAgrees change run other_run → RunsAgree change (all_filled_in holes run) (all_filled_in others other_run)
  all_filled_agree change (in_first hole rest) (in_first other others) run other_run h k = (filled_agrees change hole other run other_run h.0 k, h.1)
  all_filled_agree change (in_others first holes) (in_others other others) run other_run h k = (h.0, all_filled_agree change holes others run other_run h.1 k)
  all_filled_agree change (in_first hole rest) (in_others other others) run other_run h k = absurd h
  all_filled_agree change (in_others first holes) (in_first other others) run other_run h k = absurd h

-- ---- the step of a node

-- a step of a tree agrees with one of another
abbrev pub RunMoveAgrees : Replaced → Move Run Hole → Move Run Hole → Type 0
RunMoveAgrees change m n = MoveAgrees change.rename (RunAgrees change) (HoleAgrees change) m n

by_truth_agrees : (change : Replaced) (world : World) (place at : Place) (truth : Truth) (next other : Bool → Run)
    → ((b : Bool) → RunAgrees change (next b) (other b)) → RunMoveAgrees change (by_truth world place truth next) (by_truth world at truth other)
by_truth_agrees change world place at (holds b) next other h = (refl, h b)
by_truth_agrees change world place at (untold cause) next other h = tt

on_operand_agrees : (change : Replaced) (place at : Place) (operands : List Operand) (next other : Operand → Move Run Hole)
    → ((a : Operand) → RunMoveAgrees change (next a) (other a)) → RunMoveAgrees change (on_operand place operands next) (on_operand at operands other)
on_operand_agrees change place at [] next other h = tt
on_operand_agrees change place at (a ∷ []) next other h = h a
on_operand_agrees change place at (a ∷ b ∷ rest) next other h = tt

as_move_agrees : (change : Replaced) (kind : CType) (place at : Place) (locks others : List At) (did : Did) → locks ≡ others → RunMoveAgrees change (as_move kind place locks did) (as_move kind at others did)
as_move_agrees change kind place at locks others (gives world result new) e = (refl, (refl, refl, ap (λ l. new ++ l) e))
as_move_agrees change kind place at locks others (breaks cause) e = tt
as_move_agrees change kind place at locks others (ends_with status) e = refl

answered_agrees : (change : Replaced) (world : World) (kind : CType) (place at : Place) (answer : Option Answer) → RunMoveAgrees change (answered world kind place answer) (answered world kind at answer)
answered_agrees change world kind place at None = tt
answered_agrees change world kind place at (Some (answers value input output)) = (refl, (refl, refl, refl))
answered_agrees change world kind place at (Some (stops status)) = refl
answered_agrees change world kind place at (Some (refuses cause)) = tt

name_fact : Option (List ℕ × Sort × CType) → List ℕ
name_fact None = []
name_fact (Some facts) = facts.0

kind_fact : Option (List ℕ × Sort × CType) → CType
kind_fact None = void
kind_fact (Some facts) = facts.2

module _ (change : Replaced) (replacement : IsReplacement change) (objects : Objects) (world : World) (locks : List At) where
  -- what names mean in the two programs
  abbrev new_scene : Scene
  new_scene = record { program = new_of change; objects = renamed_objects change.rename objects }

  abbrev old_scene : Scene
  old_scene = record { program = change.old; objects = objects }

  undefined_agrees : (kind : CType) (place at : Place) (arguments : List Value) (one other : Option Declaration) → option_map facts_of one ≡ option_map facts_of other
      → RunMoveAgrees change (undefined_called new_scene world kind place arguments one) (undefined_called old_scene world kind at arguments other)
  unfolding name_fact kind_fact
  undefined_agrees kind place at arguments None None e = tt
  undefined_agrees kind place at arguments None (Some other) e = absurd (none_is_some _ e)
  undefined_agrees kind place at arguments (Some one) None e = absurd (none_is_some _ (sym e))
  undefined_agrees kind place at arguments (Some one) (Some other) e =
      subst (λ answer. RunMoveAgrees change (answered world kind place answer) (undefined_called old_scene world kind at arguments (Some other)))
      (sym (ap (λ facts. Prim (name_fact facts) (kind_fact facts) (layout change.old) world.memory arguments world.input world.output) e))
      (answered_agrees change world kind place at (Prim other.name other.kind (layout change.old) world.memory arguments world.input world.output))

  called_agrees : (kind : CType) (place at : Place) (arguments : List Value) (d : ℕ) (one other : Option Definition) → OptionAgrees (DefinitionAgrees change) one other
      → RunMoveAgrees change (called new_scene world kind place arguments (change.rename d) one) (called old_scene world kind at arguments d other)
  called_agrees kind place at arguments d None None h = undefined_agrees kind place at arguments (declaration_of (new_of change) (change.rename d)) (declaration_of change.old d) (replacement.told d)
  called_agrees kind place at arguments d None (Some other) h = absurd h
  called_agrees kind place at arguments d (Some one) None h = absurd h
  called_agrees kind place at arguments d (Some one) (Some other) h = (refl, refl, refl, tt)

  call_agrees : (kind : CType) (place at : Place) (arguments : List Value) (named : Option ℕ)
      → RunMoveAgrees change (call_step new_scene world kind place arguments (option_map change.rename named)) (call_step old_scene world kind at arguments named)
  call_agrees kind place at arguments None = tt
  call_agrees kind place at arguments (Some d) =
      called_agrees kind place at arguments d (definition_of (new_of change) (change.rename d)) (definition_of change.old d)
      (definition_agrees change replacement.injective change.functions change.old.functions replacement.functions d)

  number_fact : Option (List ℕ × Sort × CType) → ℤ
  number_fact None = pos 0
  number_fact (Some facts) = number_of_sort facts.1

  enumerator_fact : (o : Option Declaration) → enumerator_in o ≡ number_fact (option_map facts_of o)
  unfolding number_fact
  enumerator_fact None = refl
  enumerator_fact (Some declaration) = refl

  same_enumerator : (d : ℕ) → enumerator_number (new_of change) (change.rename d) ≡ enumerator_number change.old d
  same_enumerator d = enumerator_fact (declaration_of (new_of change) (change.rename d)) ∙ ap number_fact (replacement.told d) ∙ sym (enumerator_fact (declaration_of change.old d))

  operate_same : (label : Label) (kind : CType) (operands : List Operand) → operate new_scene world locks (relabelled change.rename label) kind operands ≡ operate old_scene world locks label kind operands
  operate_same (enumerator d) kind operands = ap (number_alone world kind) (same_enumerator d)
  operate_same (object d) kind operands = ap (designated world) (object_renamed change.rename replacement.injective objects d)
  operate_same label kind operands = refl

  form_agrees : (label : Label) (kind : CType) (place at : Place) (parts others : Runs) (operands : List Operand) → RunsAgree change parts others
      → RunMoveAgrees change (form_step new_scene world locks (relabelled change.rename label) kind place parts operands) (form_step old_scene world locks label kind at others operands)
  form_agrees both kind place at parts others operands h =
      on_operand_agrees change place at operands _ _ (λ a. by_truth_agrees change world place at (truth_of world.memory (value_of a.result)) _ _ (both_agrees))
    where
      both_agrees : (b : Bool) → RunAgrees change (both_chosen kind place parts b) (both_chosen kind at others b)
      both_agrees true = inl (refl, refl, (nth_agrees change 1 parts others h, tt))
      both_agrees false = (refl, refl, refl)
  form_agrees either kind place at parts others operands h =
      on_operand_agrees change place at operands _ _ (λ a. by_truth_agrees change world place at (truth_of world.memory (value_of a.result)) _ _ (either_agrees))
    where
      either_agrees : (b : Bool) → RunAgrees change (either_chosen kind place parts b) (either_chosen kind at others b)
      either_agrees true = (refl, refl, refl)
      either_agrees false = inl (refl, refl, (nth_agrees change 1 parts others h, tt))
  form_agrees choose kind place at parts others operands h =
      on_operand_agrees change place at operands _ _ (λ a. by_truth_agrees change world place at (truth_of world.memory (value_of a.result)) _ _
      (λ b. inl (refl, refl, (nth_agrees change (if b then 1 else 2) parts others h, tt))))
  form_agrees comma kind place at parts others operands h = (refl, inl (refl, refl, (nth_agrees change 1 parts others h, tt)))
  form_agrees call kind place at parts others operands h =
      subst (λ named. RunMoveAgrees change (call_step new_scene world kind place (map (λ a. value_of a.result) operands) named) (call_step old_scene world kind at (map (λ a. value_of a.result) operands) (function_named (nth_run 0 others))))
      (sym (same_function change (nth_run 0 parts) (nth_run 0 others) (nth_agrees change 0 parts others h)))
      (call_agrees kind place at (map (λ a. value_of a.result) operands) (function_named (nth_run 0 others)))
  form_agrees sizeof_tree kind place at parts others operands h =
      let own : CType → Did = λ type. number_alone world kind (pos ((layout change.old).size type)) in
      let type = kind_of_run (nth_run 0 others) in
      subst (λ t. RunMoveAgrees change (as_move kind place [] (own t)) (as_move kind at [] (own type))) (sym (same_kind change (nth_run 0 parts) (nth_run 0 others) (nth_agrees change 0 parts others h)))
      (as_move_agrees change kind place at [] [] (own type) refl)
  form_agrees label kind place at parts others operands h =
      subst (λ did. RunMoveAgrees change (as_move kind place (locks_in_all parts) did) (as_move kind at (locks_in_all others) (operate old_scene world locks label kind operands)))
      (sym (operate_same label kind operands))
      (as_move_agrees change kind place at (locks_in_all parts) (locks_in_all others) (operate old_scene world locks label kind operands) (same_locks_all change parts others h))

  node_agrees : (doing : Doing) (kind : CType) (place at : Place) (parts others : Runs) (operands : List Operand) → RunsAgree change parts others
      → RunMoveAgrees change (node_step new_scene world locks (redone change.rename doing) kind place parts operands) (node_step old_scene world locks doing kind at others operands)
  node_agrees (evaluates label) kind place at parts others operands h = form_agrees label kind place at parts others operands h
  node_agrees gives_truth kind place at parts others operands h =
      on_operand_agrees change place at operands _ _ (λ a. by_truth_agrees change world place at (truth_of world.memory (value_of a.result)) _ _
      (λ b. (refl, refl, same_locks_all change parts others h)))
  node_agrees gives_value kind place at parts others operands h =
      on_operand_agrees change place at operands _ _ (λ a. (refl, (refl, refl, same_locks_all change parts others h)))

  -- ---- all steps

  -- a step of the new tree is met by a step of the old one, or by quiet ones, or the old one's evaluation is undefined
  abbrev Matched : Run → Move Run Hole → Type 0
  Matched other m =
      ((n : Move Run Hole) × IsAmong n (moves old_scene world locks other) × RunMoveAgrees change m n)
      ⊎ (((run : Run) × (m ≡ goes world run) × (n : ℕ) × (last : Run) × Quietly old_scene world (suc n) other last × RunAgrees change run last) ⊎ Fails old_scene world other)

  abbrev MatchedIn : Open → Runs → Move Runs Holes → Type 0
  MatchedIn opens others m =
      ((n : Move Runs Holes) × IsAmong n (moves_in old_scene world locks opens others) × MoveAgrees change.rename (RunsAgree change) (HolesAgree change) m n)
      ⊎ (((parts : Runs) × (m ≡ goes world parts) × (n : ℕ) × (holes : Holes) × AreOpen opens holes × (a b : Run) × (others ≡ all_filled_in holes a)
      × Quietly old_scene world (suc n) a b × RunsAgree change parts (all_filled_in holes b))
      ⊎ ((holes : Holes) × AreOpen opens holes × (a : Run) × (others ≡ all_filled_in holes a) × Fails old_scene world a))

  -- the step of a node whose operands are evaluated, or one of its operands
  by_operands : (doing : Doing) (kind : CType) (place at : Place) (parts others : Runs) → RunsAgree change parts others
      → (o : Option (List Operand)) → operands_in (open_parts doing) others ≡ o
      → ((m : Move Runs Holes) → IsAmong m (moves_in new_scene world locks (open_parts doing) parts) → MatchedIn (open_parts doing) others m)
      → (m : Move Run Hole) → IsAmong m (own_or_inner o (node_step new_scene world locks (redone change.rename doing) kind place parts)
      (map (lifted (to_do (redone change.rename doing) kind place) (within (redone change.rename doing) kind place)) (moves_in new_scene world locks (open_parts doing) parts)))
      → Matched (to_do doing kind at others) m
  by_operands doing kind place at parts others h (Some operands) e inner m (inl k) =
      inl (
        node_step old_scene world locks doing kind at others operands,
        own_step (operands_in (open_parts doing) others) operands _ _ _ e refl,
        subst (λ x. RunMoveAgrees change x (node_step old_scene world locks doing kind at others operands)) (sym k) (node_agrees doing kind place at parts others operands h),
      )
  by_operands doing kind place at parts others h (Some operands) e inner m (inr k) = absurd k
  by_operands doing kind place at parts others h None e inner m k =
      let from = among-map_from _ m _ k in
      lifted_match from.0 from.2 (inner from.0 from.1)
    where
      lifted_match : (x : Move Runs Holes) → m ≡ lifted (to_do (redone change.rename doing) kind place) (within (redone change.rename doing) kind place) x → MatchedIn (open_parts doing) others x → Matched (to_do doing kind at others) m
      lifted_match x f (inl (n, among, agrees)) =
          inl (
            lifted (to_do doing kind at) (within doing kind at) n,
            inner_steps (operands_in (open_parts doing) others) _ _ _ e (among-map _ _ _ among),
            subst (λ y. RunMoveAgrees change y (lifted (to_do doing kind at) (within doing kind at) n)) (sym f)
                (lifted_agrees change.rename (RunsAgree change) (HolesAgree change) (RunAgrees change) (HoleAgrees change)
                (to_do (redone change.rename doing) kind place) (within (redone change.rename doing) kind place) (to_do doing kind at) (within doing kind at)
                (λ t u r. inl (refl, refl, r)) (λ a b r. (refl, refl, r)) x n agrees),
          )
      lifted_match x f (inr (inl (run, g, n, holes, opened, a, b, here_it_is, quiet, agrees))) =
          inr (inl (
            to_do (redone change.rename doing) kind place run,
            f ∙ ap (lifted (to_do (redone change.rename doing) kind place) (within (redone change.rename doing) kind place)) g,
            n,
            to_do doing kind at (all_filled_in holes b),
            subst (λ y. Quietly old_scene world (suc n) (to_do doing kind at y) (to_do doing kind at (all_filled_in holes b))) (sym here_it_is)
                (quietly_inside old_scene world (within doing kind at holes) opened (suc n) a b quiet),
            inl (refl, refl, agrees),
          ))
      lifted_match x f (inr (inr (holes, opened, a, here_it_is, k))) =
          inr (inr (subst (λ y. Fails old_scene world (to_do doing kind at y)) (sym here_it_is) (fails_inside old_scene world (within doing kind at holes) opened a k)))

  -- a node of the same form
  node_matched : (doing other : Doing) (kind other_kind : CType) (place at : Place) (parts others : Runs) → doing ≡ redone change.rename other → kind ≡ other_kind → RunsAgree change parts others
      → ((opens : Open) (m : Move Runs Holes) → IsAmong m (moves_in new_scene world locks opens parts) → MatchedIn opens others m)
      → (m : Move Run Hole) → IsAmong m (moves new_scene world locks (to_do doing kind place parts)) → Matched (to_do other other_kind at others) m
  node_matched doing other kind other_kind place at parts others e f h inner m k =
      let same : IsAmong m (moves new_scene world locks (to_do (redone change.rename other) other_kind place parts)) =
      subst (λ d. IsAmong m (moves new_scene world locks (to_do d other_kind place parts))) e (subst (λ t. IsAmong m (moves new_scene world locks (to_do doing t place parts))) f k) in
      let opened : IsAmong m (own_or_inner (operands_in (open_parts other) parts) (node_step new_scene world locks (redone change.rename other) other_kind place parts)
      (map (lifted (to_do (redone change.rename other) other_kind place) (within (redone change.rename other) other_kind place)) (moves_in new_scene world locks (open_parts other) parts))) =
      subst (λ opens. IsAmong m (own_or_inner (operands_in opens parts) (node_step new_scene world locks (redone change.rename other) other_kind place parts)
      (map (lifted (to_do (redone change.rename other) other_kind place) (within (redone change.rename other) other_kind place)) (moves_in new_scene world locks opens parts))))
      (open_parts_redone change.rename other) same in
      by_operands other other_kind place at parts others h (operands_in (open_parts other) others) refl (inner (open_parts other)) m
      (subst (λ o. IsAmong m (own_or_inner o (node_step new_scene world locks (redone change.rename other) other_kind place parts)
      (map (lifted (to_do (redone change.rename other) other_kind place) (within (redone change.rename other) other_kind place)) (moves_in new_scene world locks (open_parts other) parts))))
      (same_operands change parts others (open_parts other) h) opened)

  -- an enumerator gives its value at once, and the old program evaluates the constant expression, or goes wrong
  enumerated_matched : (doing : Doing) (kind : CType) (place : Place) (parts : Runs) (other : Run) → IsEnumeratedRun change doing kind parts other
      → (m : Move Run Hole) → IsAmong m (moves new_scene world locks (to_do doing kind place parts)) → Matched other m
  enumerated_matched doing kind place parts other h m k =
      let is : doing ≡ evaluates (enumerator h.enumerated.declared) = h.is ∙ ap evaluates h.enumerated.is in
      let leaf : IsAmong m (moves new_scene world locks (to_do (evaluates (enumerator h.enumerated.declared)) kind place no_runs)) =
      subst (λ d. IsAmong m (moves new_scene world locks (to_do d kind place no_runs))) is (subst (λ p. IsAmong m (moves new_scene world locks (to_do doing kind place p))) h.leaf k) in
      given leaf
    where
      z : ℤ
      z = h.enumerated.value

      -- what the enumerator gives
      own : ℤ → Move Run Hole
      own y = as_move kind place [] (number_alone world kind y)

      number_is : enumerator_number (new_of change) h.enumerated.declared ≡ z
      number_is = entry_number (slice_get change.declared h.enumerated.declared) z h.enumerated.named

      same_type : kind_of h.tree ≡ kind
      same_type = h.enumerated.other_int ∙ sym h.enumerated.int

      last : Run
      last = done (kind_of h.tree) (of_value (typed (kind_of h.tree) z)) []

      by_steps : (n : ℕ) → m ≡ own z → Quietly old_scene world n (begun h.tree) last → is_of_kind (typed (kind_of h.tree) z) ≡ true → Matched other m
      by_steps zero e quiet has = absurd (never_done h.tree (kind_of h.tree) (of_value (typed (kind_of h.tree) z)) [] quiet)
      by_steps (suc n) e quiet has =
          inr (inl (
            done kind (of_value (typed kind z)) [],
            e ∙ ap (λ b. as_move kind place [] (provided b (plain world (typed kind z)))) (ap (λ t. is_of_kind (typed t z)) (sym same_type) ∙ has),
            n,
            last,
            subst (λ x. Quietly old_scene world (suc n) x last) (sym h.untouched) quiet,
            (sym same_type, ap (λ t. of_value (typed t z)) (sym same_type), refl),
          ))

      by_evaluation : m ≡ own z → Comes change.old objects world (begun h.tree) (kind_of h.tree) z → Matched other m
      by_evaluation e (inl (n, quiet, has)) = by_steps n e quiet has
      by_evaluation e (inr k) = inr (inr (subst (Fails old_scene world) (sym h.untouched) k))

      given : IsAmong m (moves new_scene world locks (to_do (evaluates (enumerator h.enumerated.declared)) kind place no_runs)) → Matched other m
      given (inl e) = by_evaluation (e ∙ ap own number_is) (constant_evaluates change.old objects world h.tree h.enumerated.scene h.enumerated.typed z h.enumerated.constant)
      given (inr e) = absurd e

  -- a step of the first operand, or of another one
  where_open_from : {M : Type 0} (opened : Bool) (xs : List M) (m : M) → IsAmong m (where_open opened xs) → IsTrue opened × IsAmong m xs
  where_open_from true xs m k = (refl, k)
  where_open_from false xs m k = absurd k

  first_or_rest : (first : Run) (rest : Runs) (other : Run) (others : Runs) → RunAgrees change first other × RunsAgree change rest others → (opens : Open) (m : Move Runs Holes)
      → ((x : Move Run Hole) → IsAmong x (moves new_scene world locks first) → Matched other x)
      → ((x : Move Runs Holes) → IsAmong x (moves_in new_scene world locks (others_open opens) rest) → MatchedIn (others_open opens) others x)
      → IsAmong m (where_open (first_open opens) (map (lifted (λ run. more_runs run rest) (λ hole. in_first hole rest)) (moves new_scene world locks first)))
      ⊎ IsAmong m (map (lifted (more_runs first) (in_others first)) (moves_in new_scene world locks (others_open opens) rest))
      → MatchedIn opens (more_runs other others) m
  first_or_rest first rest other others h opens m one more (inl k) =
      let open_here = where_open_from (first_open opens) _ m k in
      let from = among-map_from _ m _ open_here.1 in
      first_match open_here.0 from.0 from.2 (one from.0 from.1)
    where
      first_match : IsTrue (first_open opens) → (x : Move Run Hole) → m ≡ lifted (λ run. more_runs run rest) (λ hole. in_first hole rest) x → Matched other x → MatchedIn opens (more_runs other others) m
      first_match opened x f (inl (n, among, agrees)) =
          inl (
            lifted (λ run. more_runs run others) (λ hole. in_first hole others) n,
            open_steps (first_open opens) _ _ _ opened (among-map _ _ _ among),
            subst (λ y. MoveAgrees change.rename (RunsAgree change) (HolesAgree change) y (lifted (λ run. more_runs run others) (λ hole. in_first hole others) n)) (sym f)
                (lifted_agrees change.rename (RunAgrees change) (HoleAgrees change) (RunsAgree change) (HolesAgree change)
                (λ run. more_runs run rest) (λ hole. in_first hole rest) (λ run. more_runs run others) (λ hole. in_first hole others)
                (λ t u r. (r, h.1)) (λ a b r. (r, h.1)) x n agrees),
          )
      first_match opened x f (inr (inl (run, g, n, last, quiet, agrees))) =
          inr (inl (
            more_runs run rest,
            f ∙ ap (lifted (λ r. more_runs r rest) (λ hole. in_first hole rest)) g,
            n,
            in_first here others,
            (opened, tt),
            other,
            last,
            refl,
            quiet,
            (agrees, h.1),
          ))
      first_match opened x f (inr (inr k)) = inr (inr (in_first here others, (opened, tt), other, refl, k))
  first_or_rest first rest other others h opens m one more (inr k) =
      let from = among-map_from _ m _ k in
      rest_match from.0 from.2 (more from.0 from.1)
    where
      rest_match : (x : Move Runs Holes) → m ≡ lifted (more_runs first) (in_others first) x → MatchedIn (others_open opens) others x → MatchedIn opens (more_runs other others) m
      rest_match x f (inl (n, among, agrees)) =
          inl (
            lifted (more_runs other) (in_others other) n,
            among_right _ (where_open (first_open opens) (map (lifted (λ run. more_runs run others) (λ hole. in_first hole others)) (moves old_scene world locks other))) _ (among-map _ _ _ among),
            subst (λ y. MoveAgrees change.rename (RunsAgree change) (HolesAgree change) y (lifted (more_runs other) (in_others other) n)) (sym f)
                (lifted_agrees change.rename (RunsAgree change) (HolesAgree change) (RunsAgree change) (HolesAgree change)
                (more_runs first) (in_others first) (more_runs other) (in_others other)
                (λ t u r. (h.0, r)) (λ a b r. (h.0, r)) x n agrees),
          )
      rest_match x f (inr (inl (run, g, n, holes, opened, a, b, e, quiet, agrees))) =
          inr (inl (
            more_runs first run,
            f ∙ ap (lifted (more_runs first) (in_others first)) g,
            n,
            in_others other holes,
            opened,
            a,
            b,
            ap (more_runs other) e,
            quiet,
            (h.0, agrees),
          ))
      rest_match x f (inr (inr (holes, opened, a, e, k))) = inr (inr (in_others other holes, opened, a, ap (more_runs other) e, k))

  mutual
    pub run_matched : (run other : Run) → RunAgrees change run other → (m : Move Run Hole) → IsAmong m (moves new_scene world locks run) → Matched other m
    run_matched (done kind result own) (done other_kind other_result other_own) h m k = absurd k
    run_matched (done kind result own) (to_do doing other_kind place parts) h m k = absurd h
    run_matched (to_do doing kind place parts) (done other_kind result own) h m k = absurd h
    run_matched (to_do doing kind place parts) (to_do other other_kind at others) (inl h) m k =
        node_matched doing other kind other_kind place at parts others h.0 h.1 h.2 (λ opens. runs_matched parts others h.2 opens) m k
    run_matched (to_do doing kind place parts) (to_do other other_kind at others) (inr h) m k =
        enumerated_matched doing kind place parts (to_do other other_kind at others) h m k

    pub runs_matched : (parts others : Runs) → RunsAgree change parts others → (opens : Open) (m : Move Runs Holes) → IsAmong m (moves_in new_scene world locks opens parts) → MatchedIn opens others m
    runs_matched no_runs no_runs h opens m k = absurd k
    runs_matched no_runs (more_runs other others) h opens m k = absurd h
    runs_matched (more_runs first rest) no_runs h opens m k = absurd h
    runs_matched (more_runs first rest) (more_runs other others) h opens m k =
        first_or_rest first rest other others h opens m (run_matched first other h.0) (runs_matched rest others h.1 (others_open opens)) (among_either m _ _ k)
