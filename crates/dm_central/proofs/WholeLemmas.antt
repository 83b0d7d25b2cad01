-- Where the bodies of a program are whole, no full expression is a statement in any run.
use Rattle.std.specs.List.{list_all}
use Rattle.std.specs.Prelude.{◌≡◌, refl, ℕ, zero, suc, ◌+◌, Bool, true, false, not, List, [], ◌∷◌, ◌++◌, map, length, take, drop, Option, Some, None, if◌then◌else◌}
use Rattle.std.proofs.Common.{sym, ◌∙◌, subst, inl, inr}
use Rattle.dm_token.specs.declared.place.Place.{Place}
use Rattle.dm_type.specs.CTypes.{CType}
use Rattle.dm_tree.specs.Trees.{Label, both, either, choose, comma, call, sizeof_tree, block as block_form, declare, full, if_statement, switch, case, default, while_loop, do_loop, for_loop, break, continue, return, is_statement, Tree, Trees, node, no_trees, more_trees, label_of, listed, parts_of, Declarator, Initialiser, Initialisers, one_expression, in_braces, no_items, more_items, expressions_in}
use Rattle.dm_tree.specs.TypeNumbers.{all_pass}
use Rattle.dm_tree.specs.Units.{Declaration}
use Rattle.dm_meaning.specs.declared.cause.Cause.TheVariants.{NoValue}
use Rattle.dm_meaning.specs.Among.{IsAmong}
use Rattle.dm_meaning.specs.Expressions.{Move, goes, calls, fails, exits, lifted, value_of, as_move, by_truth, on_operand, answered, undefined_called, called, call_step, function_named, nth_run, both_chosen, either_chosen, form_step, node_step, own_or_inner, moves, moves_in}
use Rattle.dm_meaning.specs.Machines.{undefined, Goes}
use Rattle.dm_meaning.specs.Memory.{Memory}
use Rattle.dm_meaning.specs.Objects.{Layout}
use Rattle.dm_meaning.specs.Operations.{of_value, Result, Operand, World, Objects, Scene, Did, gives, breaks, ends_with, object_named, Truth, holds, untold, truth_of, operate}
use Rattle.dm_meaning.specs.Primitives.{Answer, answers, stops, refuses, Prim}
use Rattle.dm_meaning.specs.Programs.{Program, Definition, layout, declaration_of, definition_of}
use Rattle.dm_meaning.specs.Running.{Doing, evaluates as evaluates_label, gives_truth, gives_value, Run, done, to_do, Runs, begun, open_parts, operands_in, Hole, here, within, Holes, filled_in, locks_in, locks_in_all}
use Rattle.dm_meaning.specs.States.{Loop, Use, drops, chooses, selects, repeats, continues, returns, initialises, Task, begins, declares, initials, evaluates, again, tests, ends, ends_switch, leaves, skips, hands_back, Caller, State}
use Rattle.dm_meaning.specs.Statements.{Turned, onward, refused, evaluation, expressions_of, is_automatic, type_declared, declarator_tasks, item_tasks, items_tasks, unlabelled, start_tasks, begin_for, loop_with, begin_form, begin_tree, initial_of, begin_declarator, part_tasks, begin_initialiser, has_case, has_default, from_first, or_items, on_one_tree, on_tree_if, selected_by, by_test, begins_one, concluded, tested, continued, unfolded, ended, after_break, after_continue}
use Rattle.dm_meaning.specs.Steps.{opened_frame, opened, lacks_value, gone_back, handed_back, is_main, gives_nothing, body_place, no_place, closed, turned, moved, scene_of, expression_steps, task_steps, Step}
use Rattle.dm_meaning.specs.Units.{main_in, Begins, machine_of}
use Rattle.dm_meaning.specs.Values.{At, Value, integer_value, unset}
use Rattle.dm_meaning.specs.Wholes.{is_expression, are_expressions, all_expressions, is_whole_start, loop_whole, whole_by, is_whole, are_whole}
use Rattle.dm_meaning.proofs.AmongLemmas.{among-map_from}
use Rattle.dm_meaning.proofs.OptionLemmas.{none_is_some, some_is_some}
use Rattle.dm_meaning.proofs.StateLemmas.{from_steps}
use Rattle.dm_central.proofs.TopLemmas.{found_among}
use Rattle.dm_central.specs.Bodies.{IsWholeProgram, NoStatements}
use Rattle.dm_central.proofs.BodyLemmas.{both_true, not_true}

-- ---- trees

abbrev AllExpressions : List Tree → Type 0
AllExpressions [] = Unit {0}
AllExpressions (tree ∷ trees) = (is_expression tree ≡ true) × AllExpressions trees

abbrev AllWhole : List Tree → Type 0
AllWhole [] = Unit {0}
AllWhole (tree ∷ trees) = (is_whole tree ≡ true) × AllWhole trees

abbrev Paired : List Tree → List Bool → Type 0
Paired [] [] = Unit {0}
Paired (tree ∷ trees) (whole ∷ wholes) = (whole ≡ is_whole tree) × Paired trees wholes
Paired trees wholes = ⊥

paired : (parts : Trees) → Paired (listed parts) (are_whole parts)
paired no_trees = tt
paired (more_trees first rest) = (refl, paired rest)

each_expression : (trees : List Tree) → all_expressions trees ≡ true → AllExpressions trees
each_expression [] e = tt
each_expression (tree ∷ trees) e = let h = both_true (is_expression tree) (all_expressions trees) e in (h.0, each_expression trees h.1)

each_whole : (trees : List Tree) (wholes : List Bool) → Paired trees wholes → all_pass wholes ≡ true → AllWhole trees
each_whole [] [] h e = tt
each_whole [] (whole ∷ wholes) h e = absurd h
each_whole (tree ∷ trees) [] h e = absurd h
each_whole (tree ∷ trees) (whole ∷ wholes) h e = let k = both_true whole (all_pass wholes) e in (sym h.0 ∙ k.0, each_whole trees wholes h.1 k.1)

listed_whole : (trees : List Tree) → list_all is_whole trees ≡ true → AllWhole trees
listed_whole [] e = tt
listed_whole (tree ∷ trees) e = let h = both_true (is_whole tree) (list_all is_whole trees) e in (h.0, listed_whole trees h.1)

taken : (n : ℕ) (trees : List Tree) → AllExpressions trees → AllExpressions (take n trees)
taken zero trees h = tt
taken (suc n) [] h = tt
taken (suc n) (tree ∷ trees) h = (h.0, taken n trees h.1)

dropped : (n : ℕ) (trees : List Tree) → AllExpressions trees → AllExpressions (drop n trees)
dropped zero trees h = h
dropped (suc n) [] h = tt
dropped (suc n) (tree ∷ trees) h = dropped n trees h.1

-- a case or default statement without its labels
unlabelled_whole : (tree : Tree) → is_whole tree ≡ true → is_whole (unlabelled tree) ≡ true
unlabelled_whole (node case kind spans (more_trees value (more_trees statement rest))) e =
    let h = both_true (is_expression value) (all_pass (are_whole (more_trees statement rest))) e in
    unlabelled_whole statement (both_true (is_whole statement) (all_pass (are_whole rest)) h.1).0
unlabelled_whole (node default kind spans (more_trees statement rest)) e = unlabelled_whole statement (both_true (is_whole statement) (all_pass (are_whole rest)) e).0
unlabelled_whole tree e = e

-- ---- what is left to do

-- the node isn't a statement
abbrev DoingFits : Doing → Type 0
DoingFits (evaluates_label label) = is_statement label ≡ false
DoingFits doing = Unit {0}

abbrev TopFits : Run → Type 0
TopFits (done kind result locks) = Unit {0}
TopFits (to_do doing kind place parts) = DoingFits doing

abbrev HoleFits : Hole → Type 0
HoleFits here = Unit {0}
HoleFits (within doing kind place holes) = DoingFits doing

abbrev OptionIs : (Tree → Bool) → Option Tree → Type 0
OptionIs test None = Unit {0}
OptionIs test (Some tree) = test tree ≡ true

abbrev LoopWhole : Loop → Type 0
LoopWhole loop = OptionIs is_expression loop.condition × OptionIs is_expression loop.after × (is_whole loop.body ≡ true)

abbrev UseWhole : Use → Type 0
UseWhole (chooses first second) = (is_whole first ≡ true) × OptionIs is_whole second
UseWhole (selects items) = AllWhole items
UseWhole (repeats loop) = LoopWhole loop
UseWhole (continues loop) = LoopWhole loop
UseWhole drops = Unit {0}
UseWhole returns = Unit {0}
UseWhole (initialises at kind) = Unit {0}

abbrev TaskWhole : Task → Type 0
TaskWhole (begins tree) = is_whole tree ≡ true
TaskWhole (declares declarator expressions) = AllExpressions expressions
TaskWhole (initials at kind initialiser expressions) = AllExpressions expressions
TaskWhole (evaluates place run use_of) = TopFits run × UseWhole use_of
TaskWhole (again objects loop) = LoopWhole loop
TaskWhole (tests objects loop) = LoopWhole loop
TaskWhole (ends objects) = Unit {0}
TaskWhole (ends_switch objects) = Unit {0}
TaskWhole leaves = Unit {0}
TaskWhole skips = Unit {0}
TaskWhole (hands_back value) = Unit {0}

abbrev TasksWhole : List Task → Type 0
TasksWhole [] = Unit {0}
TasksWhole (task ∷ tasks) = TaskWhole task × TasksWhole tasks

abbrev TurnedWhole : Turned → Type 0
TurnedWhole (onward objects tasks memory) = TasksWhole tasks
TurnedWhole (refused cause place) = Unit {0}

abbrev CallersWhole : List Caller → Type 0
CallersWhole [] = Unit {0}
CallersWhole (caller ∷ callers) = (TasksWhole caller.frame.tasks × HoleFits caller.hole × UseWhole caller.use_of) × CallersWhole callers

abbrev StateWhole : State → Type 0
StateWhole state = TasksWhole state.frame.tasks × CallersWhole state.callers

-- ---- expressions

begun_fits : (tree : Tree) → is_expression tree ≡ true → TopFits (begun tree)
begun_fits (node label kind spans parts) e = not_true (is_statement label) (both_true (not (is_statement label)) (are_expressions parts) e).0

evaluation_whole : (tree : Tree) (use_of : Use) → is_expression tree ≡ true → UseWhole use_of → TaskWhole (evaluation tree use_of)
evaluation_whole tree use_of e h = (begun_fits tree e, h)

filled_fits : (hole : Hole) (kind : CType) (result : Result) (locks : List At) → HoleFits hole → TopFits (filled_in hole (done kind result locks))
filled_fits here kind result locks h = tt
filled_fits (within doing own place holes) kind result locks h = h

abbrev MoveFits : Move Run Hole → Type 0
MoveFits (goes after run) = TopFits run
MoveFits (calls f arguments kind hole) = HoleFits hole
MoveFits (fails cause place) = Unit {0}
MoveFits (exits status) = Unit {0}

did_fits : (kind : CType) (place : Place) (locks : List At) (did : Did) → MoveFits (as_move kind place locks did)
did_fits kind place locks (gives world result new) = tt
did_fits kind place locks (breaks cause) = tt
did_fits kind place locks (ends_with status) = tt

truth_fits : (world : World) (place : Place) (truth : Truth) (next : Bool → Run) → ((b : Bool) → TopFits (next b)) → MoveFits (by_truth world place truth next)
truth_fits world place (holds b) next h = h b
truth_fits world place (untold cause) next h = tt

operand_fits : (place : Place) (operands : List Operand) (next : Operand → Move Run Hole) → ((a : Operand) → MoveFits (next a)) → MoveFits (on_operand place operands next)
operand_fits place [] next h = tt
operand_fits place (a ∷ []) next h = h a
operand_fits place (a ∷ b ∷ rest) next h = tt

answer_fits : (world : World) (kind : CType) (place : Place) (o : Option Answer) → MoveFits (answered world kind place o)
answer_fits world kind place None = tt
answer_fits world kind place (Some (answers value input output)) = tt
answer_fits world kind place (Some (stops status)) = tt
answer_fits world kind place (Some (refuses cause)) = tt

undefined_fits : (scene : Scene) (world : World) (kind : CType) (place : Place) (arguments : List Value) (o : Option Declaration) → MoveFits (undefined_called scene world kind place arguments o)
undefined_fits scene world kind place arguments None = tt
undefined_fits scene world kind place arguments (Some declaration) =
    answer_fits world kind place (Prim declaration.name declaration.kind (layout scene.program) world.memory arguments world.input world.output)

called_fits : (scene : Scene) (world : World) (kind : CType) (place : Place) (arguments : List Value) (d : ℕ) (o : Option Definition) → MoveFits (called scene world kind place arguments d o)
called_fits scene world kind place arguments d (Some definition) = tt
called_fits scene world kind place arguments d None = undefined_fits scene world kind place arguments (declaration_of scene.program d)

call_fits : (scene : Scene) (world : World) (kind : CType) (place : Place) (arguments : List Value) (o : Option ℕ) → MoveFits (call_step scene world kind place arguments o)
call_fits scene world kind place arguments None = tt
call_fits scene world kind place arguments (Some d) = called_fits scene world kind place arguments d (definition_of scene.program d)

form_fits : (scene : Scene) (world : World) (locks : List At) (label : Label) (kind : CType) (place : Place) (parts : Runs) (operands : List Operand) → MoveFits (form_step scene world locks label kind place parts operands)
form_fits scene world locks both kind place parts operands = operand_fits place operands _ (λ a. truth_fits world place (truth_of world.memory (value_of a.result)) _ (λ b. by_bool b))
  where
    by_bool : (b : Bool) → TopFits (both_chosen kind place parts b)
    by_bool true = tt
    by_bool false = tt
form_fits scene world locks either kind place parts operands = operand_fits place operands _ (λ a. truth_fits world place (truth_of world.memory (value_of a.result)) _ (λ b. by_bool b))
  where
    by_bool : (b : Bool) → TopFits (either_chosen kind place parts b)
    by_bool true = tt
    by_bool false = tt
form_fits scene world locks choose kind place parts operands = operand_fits place operands _ (λ a. truth_fits world place (truth_of world.memory (value_of a.result)) _ (λ b. tt))
form_fits scene world locks comma kind place parts operands = tt
form_fits scene world locks call kind place parts operands = call_fits scene world kind place (map (λ a. value_of a.result) operands) (function_named (nth_run 0 parts))
form_fits scene world locks sizeof_tree kind place parts operands = did_fits kind place [] _
form_fits scene world locks label kind place parts operands = did_fits kind place (locks_in_all parts) (operate scene world locks label kind operands)

own_fits : (scene : Scene) (world : World) (locks : List At) (doing : Doing) (kind : CType) (place : Place) (parts : Runs) (operands : List Operand) → MoveFits (node_step scene world locks doing kind place parts operands)
own_fits scene world locks (evaluates_label label) kind place parts operands = form_fits scene world locks label kind place parts operands
own_fits scene world locks gives_truth kind place parts operands = operand_fits place operands _ (λ a. truth_fits world place (truth_of world.memory (value_of a.result)) _ (λ b. tt))
own_fits scene world locks gives_value kind place parts operands = operand_fits place operands _ (λ a. tt)

move_fits : (scene : Scene) (world : World) (locks : List At) (doing : Doing) (kind : CType) (place : Place) (parts : Runs) → DoingFits doing → (m : Move Run Hole) → IsAmong m (moves scene world locks (to_do doing kind place parts)) → MoveFits m
move_fits scene world locks doing kind place parts h m k = by_operands (operands_in (open_parts doing) parts) k
  where
    lifted_fits : (x : Move Runs Holes) → MoveFits (lifted (to_do doing kind place) (within doing kind place) x)
    lifted_fits (goes after runs) = h
    lifted_fits (calls f arguments own holes) = h
    lifted_fits (fails cause at) = tt
    lifted_fits (exits status) = tt

    by_operands : (o : Option (List Operand)) → IsAmong m (own_or_inner o (node_step scene world locks doing kind place parts) (map (lifted (to_do doing kind place) (within doing kind place)) (moves_in scene world locks (open_parts doing) parts))) → MoveFits m
    by_operands (Some operands) (inl e) = subst MoveFits (sym e) (own_fits scene world locks doing kind place parts operands)
    by_operands (Some operands) (inr e) = absurd e
    by_operands None l =
        let from = among-map_from (lifted (to_do doing kind place) (within doing kind place)) m (moves_in scene world locks (open_parts doing) parts) l in
        subst MoveFits (sym from.2) (lifted_fits from.0)

-- ---- lists of tasks

joined_whole : (xs ys : List Task) → TasksWhole xs → TasksWhole ys → TasksWhole (xs ++ ys)
joined_whole [] ys h k = k
joined_whole (x ∷ xs) ys h k = (h.0, joined_whole xs ys h.1 k)

locals_whole : (declarators : List Declarator) (trees : List Tree) → AllExpressions trees → TasksWhole (declarator_tasks declarators trees)
locals_whole [] trees h = tt
locals_whole (declarator ∷ declarators) trees h =
    (taken (expressions_of declarator.initialiser) trees h, locals_whole declarators (drop (expressions_of declarator.initialiser) trees) (dropped (expressions_of declarator.initialiser) trees h))

item_whole : (item : Tree) → is_whole item ≡ true → TasksWhole (item_tasks item)
item_whole (node (declare lengths declarators) kind spans parts) e = locals_whole declarators (drop lengths (listed parts)) (dropped lengths (listed parts) (each_expression (listed parts) e))
item_whole (node label kind spans parts) e = (e, tt)

items_whole : (items : List Tree) → AllWhole items → TasksWhole (items_tasks items)
items_whole [] h = tt
items_whole (item ∷ items) h = joined_whole (item_tasks item) (items_tasks items) (item_whole item h.0) (items_whole items h.1)

tested_whole : (objects : Objects) (loop : Loop) (rest : List Task) (condition : Option Tree) → LoopWhole loop → OptionIs is_expression condition → TasksWhole rest → TasksWhole (tested objects loop rest condition)
tested_whole objects loop rest None h c k = (h.2, (h, k))
tested_whole objects loop rest (Some tree) h c k = (evaluation_whole tree (repeats loop) c h, k)

continued_whole : (objects : Objects) (loop : Loop) (rest : List Task) (after : Option Tree) → LoopWhole loop → OptionIs is_expression after → TasksWhole rest → TasksWhole (continued objects loop rest after)
continued_whole objects loop rest None h c k = tested_whole objects loop rest loop.condition h h.0 k
continued_whole objects loop rest (Some tree) h c k = (evaluation_whole tree (continues loop) c h, k)

unfolded_whole : (tasks : List Task) → TasksWhole tasks → TasksWhole (unfolded tasks)
unfolded_whole [] h = tt
unfolded_whole (again objects loop ∷ rest) h = continued_whole objects loop rest loop.after h.0 h.0.1 h.1
unfolded_whole (tests objects loop ∷ rest) h = tested_whole objects loop rest loop.condition h.0 h.0.0 h.1
unfolded_whole (task ∷ rest) h = h

parts_whole : (layout : Layout) (at : At) (kind : CType) (n : ℕ) (items : Initialisers) (expressions : List Tree) → AllExpressions expressions → TasksWhole (part_tasks layout at kind n items expressions)
parts_whole layout at kind n no_items expressions h = tt
parts_whole layout at kind n (more_items item items) expressions h =
    (taken (expressions_in item) expressions h, parts_whole layout at kind (suc n) items (drop (expressions_in item) expressions) (dropped (expressions_in item) expressions h))

initial_whole : (kind : CType) (o : Option ℕ) (initialiser : Option Initialiser) (trees : List Tree) → AllExpressions trees → TasksWhole (initial_of kind o initialiser trees)
initial_whole kind (Some n) (Some initialiser) trees h = (h, tt)
initial_whole kind (Some n) None trees h = tt
initial_whole kind None initialiser trees h = tt

if_whole : (b : Bool) (xs ys : List Task) → TasksWhole xs → TasksWhole ys → TasksWhole (if b then xs else ys)
if_whole true xs ys h k = h
if_whole false xs ys h k = k

begins_whole : (o : Option Tree) (rest : List Task) → OptionIs is_whole o → TasksWhole rest → TasksWhole (begins_one o ++ rest)
begins_whole None rest h k = k
begins_whole (Some tree) rest h k = (h, k)

-- the items of a switch from one on
first_whole : (test : Tree → Bool) (items others : List Tree) → AllWhole items → AllWhole others → AllWhole (or_items (from_first test items) others)
first_whole test [] others h k = k
first_whole test (item ∷ items) others h k = by_test (test item) (first_whole test items others h.1 k)
  where
    by_test : (b : Bool) → AllWhole (or_items (from_first test items) others) → AllWhole (or_items (if b then Some (item ∷ items) else from_first test items) others)
    by_test true later = h
    by_test false later = later

selected_whole : (program : Program) (value : Value) (items : List Tree) → AllWhole items → AllWhole (selected_by program value items)
selected_whole program (integer_value kind z) items h = first_whole (has_case program z) items (or_items (from_first has_default items) []) h (first_whole has_default items [] h tt)
selected_whole program value items h = tt

-- ---- statements

module _ (program : Program) (names : ℕ → ℕ) (objects : Objects) (memory : Memory) (rest : List Task) (behind : TasksWhole rest) where
  start_whole : (tree : Tree) → is_whole_start tree ≡ true → TasksWhole (start_tasks (Some tree))
  start_whole (node (declare lengths declarators) kind spans parts) e = locals_whole declarators (drop lengths (listed parts)) (dropped lengths (listed parts) (each_expression (listed parts) e))
  start_whole (node label kind spans parts) e = (evaluation_whole (node label kind spans parts) drops e tt, tt)

  for_whole : (first : Option Tree) (loop : Loop) → OptionIs is_whole_start first → LoopWhole loop → TurnedWhole (begin_for program names objects rest memory first loop)
  for_whole None loop h k = (k, (tt, behind))
  for_whole (Some tree) loop h k = joined_whole (start_tasks (Some tree)) _ (start_whole tree h) (k, (tt, behind))

  otherwise : TurnedWhole (onward objects (ends objects ∷ rest) memory)
  otherwise = (tt, behind)

  for_body : (first condition after : Option Tree) → OptionIs is_whole_start first → OptionIs is_expression condition → OptionIs is_expression after → (trees : List Tree) (wholes : List Bool) → Paired trees wholes → loop_whole false false false trees wholes ≡ true
      → TurnedWhole (on_one_tree trees (λ body. begin_for program names objects rest memory first (loop_with condition after body)) (onward objects (ends objects ∷ rest) memory))
  for_body first condition after h k l [] wholes p e = otherwise
  for_body first condition after h k l (body ∷ []) (whole ∷ wholes) p e = for_whole first (loop_with condition after body) h (k, l, sym p.0 ∙ (both_true whole (all_pass wholes) e).0)
  for_body first condition after h k l (body ∷ []) [] p e = absurd p
  for_body first condition after h k l (body ∷ other ∷ trees) wholes p e = otherwise

  for_after : (third : Bool) (first condition : Option Tree) → OptionIs is_whole_start first → OptionIs is_expression condition → (trees : List Tree) (wholes : List Bool) → Paired trees wholes → loop_whole false false third trees wholes ≡ true
      → TurnedWhole (on_tree_if third trees (λ after others. on_one_tree others (λ body. begin_for program names objects rest memory first (loop_with condition after body)) (onward objects (ends objects ∷ rest) memory))
      (onward objects (ends objects ∷ rest) memory))
  for_after false first condition h k trees wholes p e = for_body first condition None h k tt trees wholes p e
  for_after true first condition h k [] wholes p e = otherwise
  for_after true first condition h k (tree ∷ trees) [] p e = absurd p
  for_after true first condition h k (tree ∷ trees) (whole ∷ wholes) p e =
      let l = both_true (is_expression tree) (loop_whole false false false trees wholes) e in
      for_body first condition (Some tree) h k l.0 trees wholes p.1 l.1

  for_condition : (second third : Bool) (first : Option Tree) → OptionIs is_whole_start first → (trees : List Tree) (wholes : List Bool) → Paired trees wholes → loop_whole false second third trees wholes ≡ true
      → TurnedWhole (on_tree_if second trees (λ condition seconds. on_tree_if third seconds (λ after others. on_one_tree others (λ body. begin_for program names objects rest memory first (loop_with condition after body)) (onward objects (ends objects ∷ rest) memory))
      (onward objects (ends objects ∷ rest) memory)) (onward objects (ends objects ∷ rest) memory))
  for_condition false third first h trees wholes p e = for_after third first None h tt trees wholes p e
  for_condition true third first h [] wholes p e = otherwise
  for_condition true third first h (tree ∷ trees) [] p e = absurd p
  for_condition true third first h (tree ∷ trees) (whole ∷ wholes) p e =
      let l = both_true (is_expression tree) (loop_whole false false third trees wholes) e in
      for_after third first (Some tree) h l.0 trees wholes p.1 l.1

  form_whole : (label : Label) (trees : List Tree) (wholes : List Bool) → Paired trees wholes → whole_by label trees wholes ≡ true → TurnedWhole (begin_form program names objects rest memory label trees)
  form_whole block_form trees wholes p e = joined_whole (items_tasks trees) (ends objects ∷ rest) (items_whole trees (each_whole trees wholes p e)) (tt, behind)
  form_whole full [] wholes p e = otherwise
  form_whole full (tree ∷ []) wholes p e = (evaluation_whole tree drops (each_expression (tree ∷ []) e).0 tt, (tt, behind))
  form_whole full (tree ∷ other ∷ trees) wholes p e = otherwise
  form_whole if_statement [] wholes p e = otherwise
  form_whole if_statement (condition ∷ []) wholes p e = otherwise
  form_whole if_statement (condition ∷ first ∷ trees) [] p e = absurd p
  form_whole if_statement (condition ∷ first ∷ trees) (whole ∷ wholes) p e =
      let h = both_true (is_expression condition) (all_pass wholes) e in
      by_seconds trees (each_whole (first ∷ trees) wholes p.1 h.1) h.0
    where
      by_seconds : (seconds : List Tree) → AllWhole (first ∷ seconds) → is_expression condition ≡ true → TurnedWhole (begin_form program names objects rest memory if_statement (condition ∷ first ∷ seconds))
      by_seconds [] k c = (evaluation_whole condition (chooses first None) c (k.0, tt), (tt, behind))
      by_seconds (second ∷ []) k c = (evaluation_whole condition (chooses first (Some second)) c (k.0, k.1.0), (tt, behind))
      by_seconds (second ∷ other ∷ seconds) k c = otherwise
  form_whole switch [] wholes p e = otherwise
  form_whole switch (operand ∷ items) [] p e = absurd p
  form_whole switch (operand ∷ items) (whole ∷ wholes) p e =
      let h = both_true (is_expression operand) (all_pass wholes) e in
      (evaluation_whole operand (selects items) h.0 (each_whole items wholes p.1 h.1), (tt, behind))
  form_whole while_loop [] wholes p e = otherwise
  form_whole while_loop (condition ∷ []) wholes p e = otherwise
  form_whole while_loop (condition ∷ body ∷ []) [] p e = absurd p
  form_whole while_loop (condition ∷ body ∷ []) (whole ∷ wholes) p e =
      let h = both_true (is_expression condition) (all_pass wholes) e in
      ((h.0, tt, (each_whole (body ∷ []) wholes p.1 h.1).0), (tt, behind))
  form_whole while_loop (condition ∷ body ∷ other ∷ trees) wholes p e = otherwise
  form_whole do_loop [] wholes p e = otherwise
  form_whole do_loop (body ∷ []) wholes p e = otherwise
  form_whole do_loop (body ∷ condition ∷ []) [] p e = absurd p
  form_whole do_loop (body ∷ condition ∷ []) (whole ∷ wholes) p e =
      let h = both_true whole (all_expressions (condition ∷ [])) e in
      let body_whole = sym p.0 ∙ h.0 in
      (body_whole, (((each_expression (condition ∷ []) h.1).0, tt, body_whole), (tt, behind)))
  form_whole do_loop (body ∷ condition ∷ other ∷ trees) wholes p e = otherwise
  form_whole (for_loop false second third) trees wholes p e = for_condition second third None tt trees wholes p e
  form_whole (for_loop true second third) [] wholes p e = otherwise
  form_whole (for_loop true second third) (start ∷ trees) [] p e = absurd p
  form_whole (for_loop true second third) (start ∷ trees) (whole ∷ wholes) p e =
      let h = both_true (is_whole_start start) (loop_whole false second third trees wholes) e in
      for_condition second third (Some start) h.0 trees wholes p.1 h.1
  form_whole break trees wholes p e = (tt, behind)
  form_whole continue trees wholes p e = (tt, behind)
  form_whole return [] wholes p e = (tt, tt)
  form_whole return (tree ∷ []) wholes p e = (evaluation_whole tree returns (each_expression (tree ∷ []) e).0 tt, tt)
  form_whole return (tree ∷ other ∷ trees) wholes p e = otherwise
  form_whole label trees wholes p e = otherwise

  statement_whole : (tree : Tree) → is_whole tree ≡ true → TurnedWhole (begin_tree program names objects rest memory tree)
  statement_whole (node label kind spans parts) e = form_whole label (listed parts) (are_whole parts) (paired parts) e

  declarator_whole : (declarator : Declarator) (trees : List Tree) → AllExpressions trees → TurnedWhole (begin_declarator program objects rest memory declarator trees)
  declarator_whole declarator trees h =
      let tasks = initial_of (type_declared program declarator.declared) (object_named objects declarator.declared) declarator.initialiser trees in
      joined_whole (if is_automatic program declarator then tasks else []) rest
      (if_whole (is_automatic program declarator) tasks [] (initial_whole (type_declared program declarator.declared) (object_named objects declarator.declared) declarator.initialiser trees h) tt) behind

  initialiser_whole : (at : At) (kind : CType) (initialiser : Initialiser) (trees : List Tree) → AllExpressions trees → TurnedWhole (begin_initialiser program objects rest memory at kind initialiser trees)
  initialiser_whole at kind one_expression [] h = behind
  initialiser_whole at kind one_expression (tree ∷ []) h = (evaluation_whole tree (initialises at kind) h.0 tt, behind)
  initialiser_whole at kind one_expression (tree ∷ other ∷ trees) h = behind
  initialiser_whole at kind (in_braces items) trees h = joined_whole (part_tasks (layout program) at kind 0 items trees) rest (parts_whole (layout program) at kind 0 items trees h) behind

  test_whole : (place : Place) (truth : Truth) (following : Bool → Turned) → ((b : Bool) → TurnedWhole (following b)) → TurnedWhole (by_test place truth following)
  test_whole place (holds b) following h = h b
  test_whole place (untold cause) following h = tt

  conclusion_whole : (place : Place) (use_of : Use) (result : Result) → UseWhole use_of → TurnedWhole (concluded program objects rest memory place use_of result)
  conclusion_whole place drops result h = behind
  conclusion_whole place (chooses first second) result h = test_whole place (truth_of memory (value_of result)) _ (λ b. begins_whole (if b then Some first else second) rest (by_bool b) behind)
    where
      by_bool : (b : Bool) → OptionIs is_whole (if b then Some first else second)
      by_bool true = h.0
      by_bool false = h.1
  conclusion_whole place (selects items) result h = joined_whole (items_tasks (selected_by program (value_of result) items)) rest (items_whole (selected_by program (value_of result) items) (selected_whole program (value_of result) items h)) behind
  conclusion_whole place (repeats loop) result h = test_whole place (truth_of memory (value_of result)) _ (λ b. if_whole b (begins loop.body ∷ again objects loop ∷ rest) rest (h.2, (h, behind)) behind)
  conclusion_whole place (continues loop) result h = (h, behind)
  conclusion_whole place returns result h = (tt, tt)
  conclusion_whole place (initialises at kind) result h = behind

break_whole : (objects : Objects) (memory : Memory) (tasks : List Task) → TasksWhole tasks → TurnedWhole (after_break objects memory tasks)
break_whole objects memory [] h = tt
break_whole objects memory (again saved loop ∷ rest) h = h.1
break_whole objects memory (ends_switch saved ∷ rest) h = h
break_whole objects memory (task ∷ rest) h = break_whole objects memory rest h.1

continue_whole : (objects : Objects) (memory : Memory) (tasks : List Task) → TasksWhole tasks → TurnedWhole (after_continue objects memory tasks)
continue_whole objects memory [] h = tt
continue_whole objects memory (again saved loop ∷ rest) h = h
continue_whole objects memory (task ∷ rest) h = continue_whole objects memory rest h.1

-- ---- states

pub main_among : (program : Program) (functions : List Definition) (main : Definition) → main_in program functions ≡ Some main → IsAmong main functions
main_among program [] main e = absurd (none_is_some main e)
main_among program (first ∷ functions) main e = by_name (is_main (declaration_of program first.function)) e (main_among program functions main)
  where
    by_name : (b : Bool) → (if b then Some first else main_in program functions) ≡ Some main → (main_in program functions ≡ Some main → IsAmong main functions) → IsAmong main (first ∷ functions)
    by_name true g later = inl (sym (some_is_some first main g))
    by_name false g later = inr (later g)

module _ (program : Program) (bodies : IsWholeProgram program) where
  frame_whole : (names : ℕ → ℕ) (definition : Definition) → IsAmong definition program.functions → TasksWhole (opened_frame program names definition).tasks
  frame_whole names definition h = items_whole (parts_of definition.body) (listed_whole (parts_of definition.body) (bodies definition h))

  module _ (names : ℕ → ℕ) (state : State) (whole : StateWhole state) where
    turned_whole : (t : Turned) → TurnedWhole t → StateWhole (turned state t)
    turned_whole (onward objects tasks memory) h = (h, whole.1)
    turned_whole (refused cause place) h = whole

    either_whole : (b : Bool) (s t : State) → StateWhole s → StateWhole t → StateWhole (if b then s else t)
    either_whole true s t h k = h
    either_whole false s t h k = k

    closed_whole : StateWhole (closed program state)
    closed_whole =
        either_whole (is_main (declaration_of program state.frame.function)) _ _ ((tt, tt), whole.1)
        (either_whole (gives_nothing (type_declared program state.frame.function)) (record state { frame = record state.frame { tasks = hands_back unset ∷ [] } })
        (record state { standing = undefined NoValue (body_place (definition_of program state.frame.function) no_place) }) ((tt, tt), whole.1) whole)

    back_whole : (value : Value) (callers : List Caller) → CallersWhole callers → StateWhole (handed_back state value callers)
    back_whole value [] h = whole
    back_whole value (caller ∷ callers) h =
        either_whole (lacks_value caller.kind value) (record state { standing = undefined NoValue caller.place }) (gone_back state value caller callers) whole
        (((filled_fits caller.hole caller.kind (of_value value) [] h.0.1, h.0.2), h.0.0), h.1)

    opened_whole : (rest : List Task) → TasksWhole rest → (place : Place) (use_of : Use) → UseWhole use_of → (kind : CType) (hole : Hole) → HoleFits hole → (arguments : List Value) (f : ℕ) (o : Option Definition) → definition_of program f ≡ o
        → StateWhole (opened program names state rest place use_of kind hole arguments o)
    opened_whole rest behind place use_of u kind hole h arguments f None e = whole
    opened_whole rest behind place use_of u kind hole h arguments f (Some definition) e = (frame_whole names definition (found_among program.functions f definition e), ((behind, h, u), whole.1))

    moved_whole : (rest : List Task) → TasksWhole rest → (place : Place) (use_of : Use) → UseWhole use_of → (m : Move Run Hole) → MoveFits m → StateWhole (moved program names state rest place use_of m)
    moved_whole rest behind place use_of u (goes world run) h = (((h, u), behind), whole.1)
    moved_whole rest behind place use_of u (calls f arguments kind hole) h = opened_whole rest behind place use_of u kind hole h arguments f (definition_of program f) refl
    moved_whole rest behind place use_of u (fails cause at) h = whole
    moved_whole rest behind place use_of u (exits status) h = whole

    one_whole : (one other : State) → StateWhole one → IsAmong other (one ∷ []) → StateWhole other
    one_whole one other h (inl e) = subst StateWhole (sym e) h
    one_whole one other h (inr e) = absurd e

    turn_whole : (t : Turned) (other : State) → TurnedWhole t → IsAmong other (turned state t ∷ []) → StateWhole other
    turn_whole t other h k = one_whole (turned state t) other (turned_whole t h) k

    expression_whole : (rest : List Task) → TasksWhole rest → (place : Place) (use_of : Use) → UseWhole use_of → (run : Run) → TopFits run → (other : State) → IsAmong other (expression_steps program names state rest place use_of run) → StateWhole other
    expression_whole rest behind place use_of u (done kind result locks) h other k =
        turn_whole (concluded program state.frame.objects rest state.world.memory place use_of result) other (conclusion_whole program names state.frame.objects state.world.memory rest behind place use_of result u) k
    expression_whole rest behind place use_of u (to_do doing kind at parts) h other k =
        let from = among-map_from (moved program names state rest place use_of) other (moves (scene_of program state) state.world (locks_in (to_do doing kind at parts)) (to_do doing kind at parts)) k in
        subst StateWhole (sym from.2) (moved_whole rest behind place use_of u from.0 (move_fits (scene_of program state) state.world (locks_in (to_do doing kind at parts)) doing kind at parts h from.0 from.1))

    tasks_whole : (tasks : List Task) → TasksWhole tasks → (other : State) → IsAmong other (task_steps program names state tasks) → StateWhole other
    tasks_whole [] h other k = one_whole (closed program state) other closed_whole k
    tasks_whole (begins tree ∷ rest) h other k = turn_whole _ other (statement_whole program names state.frame.objects state.world.memory rest h.1 (unlabelled tree) (unlabelled_whole tree h.0)) k
    tasks_whole (declares declarator trees ∷ rest) h other k = turn_whole (begin_declarator program state.frame.objects rest state.world.memory declarator trees) other (declarator_whole program names state.frame.objects state.world.memory rest h.1 declarator trees h.0) k
    tasks_whole (initials at kind initialiser trees ∷ rest) h other k =
        turn_whole (begin_initialiser program state.frame.objects rest state.world.memory at kind initialiser trees) other (initialiser_whole program names state.frame.objects state.world.memory rest h.1 at kind initialiser trees h.0) k
    tasks_whole (evaluates place run use_of ∷ rest) h other k = expression_whole rest h.1 place use_of h.0.1 run h.0.0 other k
    tasks_whole (again saved loop ∷ rest) h other k = absurd k
    tasks_whole (tests saved loop ∷ rest) h other k = absurd k
    tasks_whole (ends saved ∷ rest) h other k = turn_whole (ended saved state.frame.objects rest state.world.memory) other h.1 k
    tasks_whole (ends_switch saved ∷ rest) h other k = turn_whole (ended saved state.frame.objects rest state.world.memory) other h.1 k
    tasks_whole (leaves ∷ rest) h other k = turn_whole _ other (break_whole state.frame.objects state.world.memory rest h.1) k
    tasks_whole (skips ∷ rest) h other k = turn_whole _ other (continue_whole state.frame.objects state.world.memory rest h.1) k
    tasks_whole (hands_back value ∷ rest) h other k = one_whole (handed_back state value state.callers) other (back_whole value state.callers whole.1) k

  whole_later : (state other : State) → Step program state other → StateWhole state → StateWhole other
  whole_later state other step whole = tasks_whole step.0 state whole (unfolded state.frame.tasks) (unfolded_whole state.frame.tasks whole.0) other (from_steps state.standing _ other step.2).1

  begins_whole_state : (input : List ℕ) (state : State) → Begins program input state → StateWhole state
  begins_whole_state input state (bytes, names, fresh, main, is_main_here, e) =
      subst StateWhole (sym e) (frame_whole (λ i. names (suc (length program.statics) + i)) main (main_among program program.functions main is_main_here), tt)

  goes_whole : (n : ℕ) (s t : State) → Goes (machine_of program) n s t → StateWhole s → StateWhole t
  unfolding Goes
  goes_whole zero s t e h = subst StateWhole e h
  goes_whole (suc n) s t (middle, step, rest) h = goes_whole n middle t rest (whole_later s middle step h)

  label_fits : (tree : Tree) → TopFits (begun tree) → is_statement (label_of tree) ≡ false
  label_fits (node label kind spans parts) h = h

  -- No full expression is a statement.
  pub no_statements : NoStatements program
  no_statements input n state run place tree use_of rest e =
      let whole = unfolded_whole state.frame.tasks (goes_whole n run.start state run.goes (begins_whole_state input run.start run.begins)).0 in
      label_fits tree (subst TasksWhole e whole).0.0
