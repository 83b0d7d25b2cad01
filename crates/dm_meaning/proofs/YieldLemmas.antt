-- The evaluation of an expression that gives a value keeps its type, and comes to a value and to no lvalue, which was set unless the type is
-- void.
use Rattle.std.specs.Prelude.{◌≡◌, refl, ◌⊎◌, ℕ, Bool, true, false, not, ◌&&◌, List, [], ◌∷◌, ◌++◌, map, Option, Some, None, ℤ}
use Rattle.std.proofs.Common.{ap, sym, ◌∙◌, subst, inl, inr}
use Rattle.dm_token.specs.declared.place.Place.{Place}
use Rattle.dm_int.specs.Operators as operators
use Rattle.dm_type.specs.CTypes.{CType, void, integer, pointer, array, struct, function as function_type, const, bare}
use Rattle.dm_tree.specs.Scenes.{is_void}
use Rattle.dm_tree.specs.Trees.{Label, number, enumerator, read, decay, convert, address, member, unary, binary, both, either, choose, comma, store, update, count, call, sizeof_tree, sizeof_kind, Tree, Trees, node, no_trees, more_trees, label_of, kind_of}
use Rattle.dm_tree.specs.Units.{Declaration}
use Rattle.dm_meaning.specs.Among.{IsAmong}
use Rattle.dm_meaning.specs.declared.cause.Cause.TheVariants.{Unset}
use Rattle.dm_meaning.specs.Values.{part, At, Value, unset, part_value}
use Rattle.dm_meaning.specs.Memory.{or_unset}
use Rattle.dm_meaning.specs.Causes.{when, is_unset}
use Rattle.dm_meaning.specs.Primitives.{Answer, answers, stops, refuses, Prim}
use Rattle.dm_meaning.specs.Programs.{Definition, layout, declaration_of, definition_of}
use Rattle.dm_meaning.specs.Operations.{Result, of_value, Operand, World, Scene, Did, gives, breaks, ends_with, plain, on_one, member_of, convert_bare, Truth, holds, untold, truth_of, truth_in, typed, operate}
use Rattle.dm_meaning.specs.Running.{Doing, evaluates, gives_truth, gives_value, Run, done, to_do, Runs, no_runs, more_runs, begun, all_begun, Hole, here, within, Holes, in_first, filled_in, all_filled_in, locks_in_all, open_parts, operands_in}
use Rattle.dm_meaning.specs.Expressions.{Move, goes, calls, fails, exits, lifted, as_move, by_truth, on_operand, answered, undefined_called, called, call_step, function_named, nth_run, value_of, both_chosen, either_chosen, operand_chosen, form_step, node_step, own_or_inner, moves, moves_in}
use Rattle.dm_meaning.specs.Steps.{lacks_value}
use Rattle.dm_meaning.specs.Called.{gives_value as root_gives_value, Gives, GivesBelow}
use Rattle.dm_meaning.proofs.AmongLemmas.{among_either, among-map_from}
use Rattle.dm_meaning.proofs.ExtendLemmas.{when_false}
use Rattle.dm_meaning.proofs.SetLemmas.{DidSets, unless_sets, typed_set, set_sets, converted_sets, AnswerSets, prim_sets, is_set, operate_sets, number_sets}

-- ---- what a step of an operator gives

abbrev pub DidYields : CType → Did → Type 0
DidYields kind (gives world result locks) = (value : Value) × (result ≡ of_value value) × (lacks_value kind value ≡ false)
DidYields kind (breaks cause) = Unit {0}
DidYields kind (ends_with status) = Unit {0}

and_false : (b : Bool) → (b && false) ≡ false
and_false true = refl
and_false false = refl

-- a value that was set isn't lacking
lacks_none : (kind : CType) (value : Value) → is_unset value ≡ false → lacks_value kind value ≡ false
lacks_none kind value e = ap (λ b. not (is_void (bare kind)) && b) e ∙ and_false (not (is_void (bare kind)))

set_yields : (kind : CType) (did : Did) → DidSets did → DidYields kind did
set_yields kind (gives world result locks) h = (h.0, h.1, lacks_none kind h.0 h.2)
set_yields kind (breaks cause) h = tt
set_yields kind (ends_with status) h = tt

one_yields : (kind : CType) (operands : List Operand) (next : Operand → Did) → ((a : Operand) → DidYields kind (next a)) → DidYields kind (on_one operands next)
one_yields kind [] next h = tt
one_yields kind (a ∷ []) next h = h a
one_yields kind (a ∷ b ∷ rest) next h = tt

-- a conversion, to void too
bare_yields : (world : World) (kind type : CType) (result : Result) → bare kind ≡ type → DidYields kind (convert_bare world type result)
bare_yields world kind void result e = (unset, refl, ap (λ t. not (is_void t) && true) e)
bare_yields world kind (integer other) result e = set_yields kind _ (set_sets result _ (converted_sets world (integer other)))
bare_yields world kind (pointer target) result e = set_yields kind _ (set_sets result _ (converted_sets world (pointer target)))
bare_yields world kind (array element length) result e = set_yields kind _ (set_sets result _ (converted_sets world (array element length)))
bare_yields world kind (struct n) result e = set_yields kind _ (set_sets result _ (converted_sets world (struct n)))
bare_yields world kind (function_type other parameters) result e = set_yields kind _ (set_sets result _ (converted_sets world (function_type other parameters)))
bare_yields world kind (const type) result e = set_yields kind _ (set_sets result _ (converted_sets world (const type)))

module _ (scene : Scene) (world : World) (locks : List At) where
  by_set : (label : Label) (kind : CType) (operands : List Operand) → is_set label ≡ true → DidYields kind (operate scene world locks label kind operands)
  by_set label kind operands h = set_yields kind (operate scene world locks label kind operands) (operate_sets scene world locks label kind operands h)

  operate_yields : (label : Label) (kind : CType) (operands : List Operand) → root_gives_value label ≡ true → DidYields kind (operate scene world locks label kind operands)
  operate_yields (number z) kind operands h = by_set (number z) kind operands refl
  operate_yields (enumerator d) kind operands h = by_set (enumerator d) kind operands refl
  operate_yields read kind operands h = by_set read kind operands refl
  operate_yields decay kind operands h = by_set decay kind operands refl
  operate_yields convert kind operands h = one_yields kind operands _ (λ a. bare_yields world kind (bare kind) a.result refl)
  operate_yields address kind operands h = by_set address kind operands refl
  operate_yields (unary sign) kind operands h = by_set (unary sign) kind operands refl
  operate_yields (binary op) kind operands h = by_set (binary op) kind operands refl
  operate_yields store kind operands h = by_set store kind operands refl
  operate_yields (update op works) kind operands h = by_set (update op works) kind operands refl
  operate_yields (count plus before) kind operands h = by_set (count plus before) kind operands refl
  operate_yields (sizeof_kind type) kind operands h = by_set (sizeof_kind type) kind operands refl
  operate_yields both kind operands h = tt
  operate_yields either kind operands h = tt
  operate_yields call kind operands h = tt
  operate_yields sizeof_tree kind operands h = tt
  operate_yields label kind operands h = absurd (cc)

-- ---- what is under evaluation

abbrev pub doing_gives : Doing → Bool
doing_gives (evaluates label) = root_gives_value label
doing_gives gives_truth = true
doing_gives gives_value = false

abbrev mutual
  -- a tree under evaluation comes to a value of this type, which was set unless the type is void
  pub Yields : CType → Run → Type 0
  Yields kind (done own result locks) = (own ≡ kind) × (value : Value) × (result ≡ of_value value) × (lacks_value own value ≡ false)
  Yields kind (to_do doing own place parts) = (own ≡ kind) × ((doing_gives doing ≡ true) ⊎ PicksYield kind doing parts)

  -- by an operand that was picked or may be, or by that of a member
  pub PicksYield : CType → Doing → Runs → Type 0
  PicksYield kind (evaluates choose) (more_runs condition (more_runs second (more_runs third no_runs))) = Yields kind second × Yields kind third
  PicksYield kind (evaluates comma) (more_runs first (more_runs second no_runs)) = Yields kind second
  PicksYield kind (evaluates (member n)) (more_runs operand no_runs) = (other : CType) × Yields other operand
  PicksYield kind gives_value (more_runs picked no_runs) = Yields kind picked
  PicksYield kind doing parts = ⊥

abbrev mutual
  -- and does so when a value of the type of the part that is left out stands there
  pub HoleYields : CType → CType → Hole → Type 0
  HoleYields kind called_kind here = called_kind ≡ kind
  HoleYields kind called_kind (within doing own place holes) = (own ≡ kind) × ((doing_gives doing ≡ true) ⊎ HolesPick kind called_kind doing holes)

  pub HolesPick : CType → CType → Doing → Holes → Type 0
  HolesPick kind called_kind (evaluates choose) (in_first hole (more_runs second (more_runs third no_runs))) = Yields kind second × Yields kind third
  HolesPick kind called_kind (evaluates comma) (in_first hole (more_runs second no_runs)) = Yields kind second
  HolesPick kind called_kind (evaluates (member n)) (in_first hole no_runs) = (other : CType) × HoleYields other called_kind hole
  HolesPick kind called_kind gives_value (in_first hole no_runs) = HoleYields kind called_kind hole
  HolesPick kind called_kind doing holes = ⊥

abbrev pub MoveYields : CType → Move Run Hole → Type 0
MoveYields kind (goes world run) = Yields kind run
MoveYields kind (calls f arguments called_kind hole) = HoleYields kind called_kind hole
MoveYields kind (fails cause place) = Unit {0}
MoveYields kind (exits status) = Unit {0}

mutual
  pub filled_yields : (kind called_kind : CType) (hole : Hole) (run : Run) → HoleYields kind called_kind hole → Yields called_kind run → Yields kind (filled_in hole run)
  filled_yields kind called_kind here run h k = subst (λ t. Yields t run) h k
  filled_yields kind called_kind (within doing own place holes) run (e, inl h) k = (e, inl h)
  filled_yields kind called_kind (within doing own place holes) run (e, inr h) k = (e, inr (filled_pick kind called_kind doing holes run h k))

  filled_pick : (kind called_kind : CType) (doing : Doing) (holes : Holes) (run : Run) → HolesPick kind called_kind doing holes → Yields called_kind run → PicksYield kind doing (all_filled_in holes run)
  filled_pick kind called_kind (evaluates choose) (in_first hole (more_runs second (more_runs third no_runs))) run h k = h
  filled_pick kind called_kind (evaluates comma) (in_first hole (more_runs second no_runs)) run h k = h
  filled_pick kind called_kind (evaluates (member n)) (in_first hole no_runs) run h k = (h.0, filled_yields h.0 called_kind hole run h.1 k)
  filled_pick kind called_kind gives_value (in_first hole no_runs) run h k = filled_yields kind called_kind hole run h k
  filled_pick kind called_kind doing holes run h k = absurd h

mutual
  pub begun_yields : (tree : Tree) → Gives tree → Yields (kind_of tree) (begun tree)
  begun_yields (node label kind spans parts) (inl e) = (refl, inl e)
  begun_yields (node label kind spans parts) (inr h) = (refl, inr (begun_pick label kind parts h))

  begun_pick : (label : Label) (kind : CType) (parts : Trees) → GivesBelow label kind parts → PicksYield kind (evaluates label) (all_begun parts)
  begun_pick choose kind (more_trees condition (more_trees second (more_trees third no_trees))) h =
      (subst (λ t. Yields t (begun second)) h.0 (begun_yields second h.1), subst (λ t. Yields t (begun third)) h.2 (begun_yields third h.3))
  begun_pick comma kind (more_trees first (more_trees second no_trees)) h = subst (λ t. Yields t (begun second)) h.0 (begun_yields second h.1)
  begun_pick (member n) kind (more_trees operand no_trees) h = (kind_of operand, begun_yields operand h)
  begun_pick label kind parts h = absurd h

-- the forms of which an expression that gives a value is
abbrev pub may_give : Label → Bool
may_give choose = true
may_give comma = true
may_give (member n) = true
may_give label = root_gives_value label

picked_may : (label : Label) (kind : CType) (parts : Trees) → GivesBelow label kind parts → may_give label ≡ true
picked_may choose kind parts h = refl
picked_may comma kind parts h = refl
picked_may (member n) kind parts h = refl
picked_may label kind parts h = absurd h

value_may : (label : Label) → root_gives_value label ≡ true → may_give label ≡ true
value_may choose e = refl
value_may comma e = refl
value_may (member n) e = refl
value_may label e = e

pub given_may : (tree : Tree) → Gives tree → may_give (label_of tree) ≡ true
given_may (node label kind spans parts) (inl e) = value_may label e
given_may (node label kind spans parts) (inr h) = picked_may label kind parts h

-- a value of another type than void was set
pub given_set : (kind : CType) (value : Value) → lacks_value kind value ≡ false → is_void (bare kind) ≡ false → is_unset value ≡ false
given_set kind value h e = sym (ap (λ b. not b && is_unset value) e) ∙ h

typed_yields : (own kind : CType) (z : ℤ) (locks : List At) → own ≡ kind → Yields kind (done own (of_value (typed own z)) locks)
typed_yields own kind z locks e = (e, typed own z, refl, lacks_none own (typed own z) (typed_set own z))

module _ (scene : Scene) (world : World) (locks : List At) (kind : CType) where
  on_operand_yields : (place : Place) (operands : List Operand) (next : Operand → Move Run Hole) → ((a : Operand) → MoveYields kind (next a)) → MoveYields kind (on_operand place operands next)
  on_operand_yields place [] next h = tt
  on_operand_yields place (a ∷ []) next h = h a
  on_operand_yields place (a ∷ b ∷ rest) next h = tt

  by_truth_yields : (place : Place) (truth : Truth) (next : Bool → Run) → ((b : Bool) → Yields kind (next b)) → MoveYields kind (by_truth world place truth next)
  by_truth_yields place (holds b) next h = h b
  by_truth_yields place (untold cause) next h = tt

  did_yields : (own : CType) (place : Place) (own_locks : List At) (did : Did) → own ≡ kind → DidYields own did → MoveYields kind (as_move own place own_locks did)
  did_yields own place own_locks (gives w result new) e h = (e, h.0, h.1, h.2)
  did_yields own place own_locks (breaks cause) e h = tt
  did_yields own place own_locks (ends_with status) e h = tt

  answered_yields : (own : CType) (place : Place) (answer : Option Answer) → own ≡ kind → AnswerSets answer → MoveYields kind (answered world own place answer)
  answered_yields own place None e h = tt
  answered_yields own place (Some (answers value input output)) e h = (e, value, refl, lacks_none own value h)
  answered_yields own place (Some (stops status)) e h = tt
  answered_yields own place (Some (refuses cause)) e h = tt

  undefined_yields : (own : CType) (place : Place) (arguments : List Value) (declaration : Option Declaration) → own ≡ kind → MoveYields kind (undefined_called scene world own place arguments declaration)
  undefined_yields own place arguments None e = tt
  undefined_yields own place arguments (Some declaration) e =
      answered_yields own place (Prim declaration.name declaration.kind (layout scene.program) world.memory arguments world.input world.output) e
      (prim_sets (layout scene.program) world.memory declaration.name declaration.kind arguments world.input world.output)

  called_yields : (own : CType) (place : Place) (arguments : List Value) (d : ℕ) (definition : Option Definition) → own ≡ kind → MoveYields kind (called scene world own place arguments d definition)
  called_yields own place arguments d (Some definition) e = e
  called_yields own place arguments d None e = undefined_yields own place arguments (declaration_of scene.program d) e

  call_yields : (own : CType) (place : Place) (arguments : List Value) (named : Option ℕ) → own ≡ kind → MoveYields kind (call_step scene world own place arguments named)
  call_yields own place arguments None e = tt
  call_yields own place arguments (Some d) e = called_yields own place arguments d (definition_of scene.program d) e

  form_yields : (label : Label) (own : CType) (place : Place) (parts : Runs) (operands : List Operand) → own ≡ kind → root_gives_value label ≡ true
      → MoveYields kind (form_step scene world locks label own place parts operands)
  form_yields both own place parts operands e h = on_operand_yields place operands _ (λ a. by_truth_yields place (truth_of world.memory (value_of a.result)) (both_chosen own place parts) both_yields)
    where
      both_yields : (b : Bool) → Yields kind (both_chosen own place parts b)
      both_yields true = (e, inl refl)
      both_yields false = typed_yields own kind (operators.truth false) [] e
  form_yields either own place parts operands e h = on_operand_yields place operands _ (λ a. by_truth_yields place (truth_of world.memory (value_of a.result)) (either_chosen own place parts) either_yields)
    where
      either_yields : (b : Bool) → Yields kind (either_chosen own place parts b)
      either_yields true = typed_yields own kind (operators.truth true) [] e
      either_yields false = (e, inl refl)
  form_yields call own place parts operands e h = call_yields own place _ (function_named (nth_run 0 parts)) e
  form_yields sizeof_tree own place parts operands e h = did_yields own place [] _ e (set_yields own _ (number_sets world own _))
  form_yields (number z) own place parts operands e h = did_yields own place (locks_in_all parts) (operate scene world locks (number z) own operands) e (operate_yields scene world locks (number z) own operands h)
  form_yields (enumerator d) own place parts operands e h = did_yields own place (locks_in_all parts) (operate scene world locks (enumerator d) own operands) e (operate_yields scene world locks (enumerator d) own operands h)
  form_yields (sizeof_kind type) own place parts operands e h = did_yields own place (locks_in_all parts) (operate scene world locks (sizeof_kind type) own operands) e (operate_yields scene world locks (sizeof_kind type) own operands h)
  form_yields (unary sign) own place parts operands e h = did_yields own place (locks_in_all parts) (operate scene world locks (unary sign) own operands) e (operate_yields scene world locks (unary sign) own operands h)
  form_yields (binary op) own place parts operands e h = did_yields own place (locks_in_all parts) (operate scene world locks (binary op) own operands) e (operate_yields scene world locks (binary op) own operands h)
  form_yields (update op works) own place parts operands e h = did_yields own place (locks_in_all parts) (operate scene world locks (update op works) own operands) e (operate_yields scene world locks (update op works) own operands h)
  form_yields (count plus before) own place parts operands e h = did_yields own place (locks_in_all parts) (operate scene world locks (count plus before) own operands) e (operate_yields scene world locks (count plus before) own operands h)
  form_yields read own place parts operands e h = did_yields own place (locks_in_all parts) (operate scene world locks read own operands) e (operate_yields scene world locks read own operands h)
  form_yields decay own place parts operands e h = did_yields own place (locks_in_all parts) (operate scene world locks decay own operands) e (operate_yields scene world locks decay own operands h)
  form_yields convert own place parts operands e h = did_yields own place (locks_in_all parts) (operate scene world locks convert own operands) e (operate_yields scene world locks convert own operands h)
  form_yields address own place parts operands e h = did_yields own place (locks_in_all parts) (operate scene world locks address own operands) e (operate_yields scene world locks address own operands h)
  form_yields store own place parts operands e h = did_yields own place (locks_in_all parts) (operate scene world locks store own operands) e (operate_yields scene world locks store own operands h)
  form_yields label own place parts operands e h = absurd (cc)

  node_yields : (doing : Doing) (own : CType) (place : Place) (parts : Runs) (operands : List Operand) → own ≡ kind → doing_gives doing ≡ true
      → MoveYields kind (node_step scene world locks doing own place parts operands)
  node_yields (evaluates label) own place parts operands e h = form_yields label own place parts operands e h
  node_yields gives_truth own place parts operands e h = on_operand_yields place operands _ (λ a. by_truth_yields place (truth_of world.memory (value_of a.result)) (λ b. done own (of_value (truth_in own b)) (locks_in_all parts)) (λ b. typed_yields own kind (operators.truth b) (locks_in_all parts) e))
  node_yields gives_value own place parts operands e h = absurd (cc)

  lifted_yields : (doing : Doing) (own : CType) (place : Place) (m : Move Runs Holes) → own ≡ kind → doing_gives doing ≡ true → MoveYields kind (lifted (to_do doing own place) (within doing own place) m)
  lifted_yields doing own place (goes w parts) e h = (e, inl h)
  lifted_yields doing own place (calls f arguments called_kind holes) e h = (e, inl h)
  lifted_yields doing own place (fails cause at) e h = tt
  lifted_yields doing own place (exits status) e h = tt

  own_yields : (doing : Doing) (own : CType) (place : Place) (parts : Runs) → own ≡ kind → doing_gives doing ≡ true → (operands : Option (List Operand)) (inner : List (Move Runs Holes))
      → (m : Move Run Hole) → IsAmong m (own_or_inner operands (node_step scene world locks doing own place parts) (map (lifted (to_do doing own place) (within doing own place)) inner)) → MoveYields kind m
  own_yields doing own place parts e h (Some operands) inner m (inl k) = subst (MoveYields kind) (sym k) (node_yields doing own place parts operands e h)
  own_yields doing own place parts e h (Some operands) inner m (inr k) = absurd k
  own_yields doing own place parts e h None inner m k =
      let from = among-map_from _ m inner k in
      subst (MoveYields kind) (sym from.2) (lifted_yields doing own place from.0 e h)

  -- ?: and the comma pick an operand
  choice_yields : (own : CType) (place : Place) (condition second third : Run) → own ≡ kind → Yields kind second → Yields kind third
      → (b : Bool) → Yields kind (operand_chosen own place (more_runs condition (more_runs second (more_runs third no_runs))) b)
  choice_yields own place condition second third e h k true = (e, inr h)
  choice_yields own place condition second third e h k false = (e, inr k)

  choose_on : (own : CType) (place : Place) (condition second third : Run) → own ≡ kind → Yields kind second → Yields kind third → (m : Move Run Hole)
      → IsAmong m (moves scene world locks (to_do (evaluates choose) own place (more_runs condition (more_runs second (more_runs third no_runs))))) → MoveYields kind m
  choose_on own place (done condition_kind result own_locks) second third e h k m (inl f) =
      subst (MoveYields kind) (sym f) (by_truth_yields place (truth_of world.memory (value_of result)) (operand_chosen own place (more_runs (done condition_kind result own_locks) (more_runs second (more_runs third no_runs))))
      (choice_yields own place (done condition_kind result own_locks) second third e h k))
  choose_on own place (done condition_kind result own_locks) second third e h k m (inr f) = absurd f
  choose_on own place (to_do doing condition_kind at parts) second third e h k m f =
      let outer = among-map_from (lifted (to_do (evaluates choose) own place) (within (evaluates choose) own place)) m _ f in
      from_first outer.0 outer.2 (among_either outer.0 _ [] outer.1)
    where
      kept : (x : Move Run Hole) → MoveYields kind (lifted (to_do (evaluates choose) own place) (within (evaluates choose) own place)
          (lifted (λ run. more_runs run (more_runs second (more_runs third no_runs))) (λ hole. in_first hole (more_runs second (more_runs third no_runs))) x))
      kept (goes after run) = (e, inr (h, k))
      kept (calls g arguments called_kind hole) = (e, inr (h, k))
      kept (fails cause at_place) = tt
      kept (exits status) = tt

      from_first : (x : Move Runs Holes) → m ≡ lifted (to_do (evaluates choose) own place) (within (evaluates choose) own place) x
          → IsAmong x (map (lifted (λ run. more_runs run (more_runs second (more_runs third no_runs))) (λ hole. in_first hole (more_runs second (more_runs third no_runs)))) (moves scene world locks (to_do doing condition_kind at parts)))
          ⊎ IsAmong x [] → MoveYields kind m
      from_first x g (inl l) =
          let inner = among-map_from (lifted (λ run. more_runs run (more_runs second (more_runs third no_runs))) (λ hole. in_first hole (more_runs second (more_runs third no_runs)))) x _ l in
          subst (MoveYields kind) (sym (g ∙ ap (lifted (to_do (evaluates choose) own place) (within (evaluates choose) own place)) inner.2)) (kept inner.0)
      from_first x g (inr l) = absurd l

  comma_on : (own : CType) (place : Place) (first second : Run) → own ≡ kind → Yields kind second → (m : Move Run Hole)
      → IsAmong m (moves scene world locks (to_do (evaluates comma) own place (more_runs first (more_runs second no_runs)))) → MoveYields kind m
  comma_on own place (done first_kind result own_locks) second e h m (inl f) = subst (MoveYields kind) (sym f) (e, inr h)
  comma_on own place (done first_kind result own_locks) second e h m (inr f) = absurd f
  comma_on own place (to_do doing first_kind at parts) second e h m f =
      let outer = among-map_from (lifted (to_do (evaluates comma) own place) (within (evaluates comma) own place)) m _ f in
      from_first outer.0 outer.2 (among_either outer.0 _ [] outer.1)
    where
      kept : (x : Move Run Hole) → MoveYields kind (lifted (to_do (evaluates comma) own place) (within (evaluates comma) own place)
          (lifted (λ run. more_runs run (more_runs second no_runs)) (λ hole. in_first hole (more_runs second no_runs)) x))
      kept (goes after run) = (e, inr h)
      kept (calls g arguments called_kind hole) = (e, inr h)
      kept (fails cause at_place) = tt
      kept (exits status) = tt

      from_first : (x : Move Runs Holes) → m ≡ lifted (to_do (evaluates comma) own place) (within (evaluates comma) own place) x
          → IsAmong x (map (lifted (λ run. more_runs run (more_runs second no_runs)) (λ hole. in_first hole (more_runs second no_runs))) (moves scene world locks (to_do doing first_kind at parts)))
          ⊎ IsAmong x [] → MoveYields kind m
      from_first x g (inl l) =
          let inner = among-map_from (lifted (λ run. more_runs run (more_runs second no_runs)) (λ hole. in_first hole (more_runs second no_runs))) x _ l in
          subst (MoveYields kind) (sym (g ∙ ap (lifted (to_do (evaluates comma) own place) (within (evaluates comma) own place)) inner.2)) (kept inner.0)
      from_first x g (inr l) = absurd l

  -- the value of the operand that was picked
  picked_on : (own : CType) (place : Place) (picked : Run) → own ≡ kind → Yields kind picked → ((x : Move Run Hole) → IsAmong x (moves scene world locks picked) → MoveYields kind x) → (m : Move Run Hole)
      → IsAmong m (moves scene world locks (to_do gives_value own place (more_runs picked no_runs))) → MoveYields kind m
  picked_on own place (done picked_kind result own_locks) e h later m (inl f) =
      subst (MoveYields kind) (sym f) (e, h.1, h.2, ap (λ t. lacks_value t h.1) (e ∙ sym h.0) ∙ h.3)
  picked_on own place (done picked_kind result own_locks) e h later m (inr f) = absurd f
  picked_on own place (to_do doing picked_kind at parts) e h later m f =
      let outer = among-map_from (lifted (to_do gives_value own place) (within gives_value own place)) m _ f in
      from_first outer.0 outer.2 (among_either outer.0 _ [] outer.1)
    where
      kept : (x : Move Run Hole) → MoveYields kind x → MoveYields kind (lifted (to_do gives_value own place) (within gives_value own place) (lifted (λ run. more_runs run no_runs) (λ hole. in_first hole no_runs) x))
      kept (goes after run) k = (e, inr k)
      kept (calls g arguments called_kind hole) k = (e, inr k)
      kept (fails cause at_place) k = tt
      kept (exits status) k = tt

      from_first : (x : Move Runs Holes) → m ≡ lifted (to_do gives_value own place) (within gives_value own place) x
          → IsAmong x (map (lifted (λ run. more_runs run no_runs) (λ hole. in_first hole no_runs)) (moves scene world locks (to_do doing picked_kind at parts))) ⊎ IsAmong x [] → MoveYields kind m
      from_first x g (inl l) =
          let inner = among-map_from (lifted (λ run. more_runs run no_runs) (λ hole. in_first hole no_runs)) x _ l in
          subst (MoveYields kind) (sym (g ∙ ap (lifted (to_do gives_value own place) (within gives_value own place)) inner.2)) (kept inner.0 (later inner.0 inner.1))
      from_first x g (inr l) = absurd l

  -- a member of a value that was set
  member_yields : (n : ℕ) (own picked_kind : CType) (value : Value) → DidYields own (member_of scene world n picked_kind (of_value value))
  member_yields n own picked_kind value =
      set_yields own _ (unless_sets (when Unset (is_unset inner)) (plain world inner) (λ e. (inner, refl, when_false Unset (is_unset inner) e)))
    where
      inner : Value
      inner = or_unset (part_value value (part n ∷ []))

  -- the member of what the operand comes to
  member_on : (n : ℕ) (own : CType) (place : Place) (operand : Run) (other : CType) → own ≡ kind → Yields other operand
      → ((x : Move Run Hole) → IsAmong x (moves scene world locks operand) → MoveYields other x) → (m : Move Run Hole)
      → IsAmong m (moves scene world locks (to_do (evaluates (member n)) own place (more_runs operand no_runs))) → MoveYields kind m
  member_on n own place (done picked_kind result own_locks) other e h later m (inl f) =
      subst (MoveYields kind) (sym f)
      (did_yields own place (own_locks ++ []) (member_of scene world n picked_kind result) e
      (subst (λ r. DidYields own (member_of scene world n picked_kind r)) (sym h.2) (member_yields n own picked_kind h.1)))
  member_on n own place (done picked_kind result own_locks) other e h later m (inr f) = absurd f
  member_on n own place (to_do doing picked_kind at parts) other e h later m f =
      let outer = among-map_from (lifted (to_do (evaluates (member n)) own place) (within (evaluates (member n)) own place)) m _ f in
      from_first outer.0 outer.2 (among_either outer.0 _ [] outer.1)
    where
      kept : (x : Move Run Hole) → MoveYields other x
          → MoveYields kind (lifted (to_do (evaluates (member n)) own place) (within (evaluates (member n)) own place) (lifted (λ run. more_runs run no_runs) (λ hole. in_first hole no_runs) x))
      kept (goes after run) k = (e, inr (other, k))
      kept (calls g arguments called_kind hole) k = (e, inr (other, k))
      kept (fails cause at_place) k = tt
      kept (exits status) k = tt

      from_first : (x : Move Runs Holes) → m ≡ lifted (to_do (evaluates (member n)) own place) (within (evaluates (member n)) own place) x
          → IsAmong x (map (lifted (λ run. more_runs run no_runs) (λ hole. in_first hole no_runs)) (moves scene world locks (to_do doing picked_kind at parts))) ⊎ IsAmong x [] → MoveYields kind m
      from_first x g (inl l) =
          let inner = among-map_from (lifted (λ run. more_runs run no_runs) (λ hole. in_first hole no_runs)) x _ l in
          subst (MoveYields kind) (sym (g ∙ ap (lifted (to_do (evaluates (member n)) own place) (within (evaluates (member n)) own place)) inner.2)) (kept inner.0 (later inner.0 inner.1))
      from_first x g (inr l) = absurd l

module _ (scene : Scene) (world : World) (locks : List At) where
  mutual
    -- each step keeps what a tree comes to
    pub move_yields_on : (kind : CType) (run : Run) → Yields kind run → (m : Move Run Hole) → IsAmong m (moves scene world locks run) → MoveYields kind m
    move_yields_on kind (done own result own_locks) h m k = absurd k
    move_yields_on kind (to_do doing own place parts) (e, inl h) m k =
        own_yields scene world locks kind doing own place parts e h (operands_in (open_parts doing) parts) (moves_in scene world locks (open_parts doing) parts) m k
    move_yields_on kind (to_do doing own place parts) (e, inr h) m k = pick_yields_on kind doing own place parts e h m k

    pick_yields_on : (kind : CType) (doing : Doing) (own : CType) (place : Place) (parts : Runs) → own ≡ kind → PicksYield kind doing parts → (m : Move Run Hole)
        → IsAmong m (moves scene world locks (to_do doing own place parts)) → MoveYields kind m
    pick_yields_on kind (evaluates choose) own place (more_runs condition (more_runs second (more_runs third no_runs))) e h m k =
        choose_on scene world locks kind own place condition second third e h.0 h.1 m k
    pick_yields_on kind (evaluates comma) own place (more_runs first (more_runs second no_runs)) e h m k = comma_on scene world locks kind own place first second e h m k
    pick_yields_on kind (evaluates (member n)) own place (more_runs operand no_runs) e h m k =
        member_on scene world locks kind n own place operand h.0 e h.1 (move_yields_on h.0 operand h.1) m k
    pick_yields_on kind gives_value own place (more_runs picked no_runs) e h m k = picked_on scene world locks kind own place picked e h (move_yields_on kind picked h) m k
    pick_yields_on kind doing own place parts e h m k = absurd h
