-- The steps of statements and declarations (6.7, 6.8): what begins, what a full expression's value decides, and what ends.
--     Turned      what a step leaves in a frame
--     begin_statement, begin_declarator, begin_initialiser      what begins
--     concluded      the end of a full expression
--     jumped, ended      jumps, and ends of statements
use Rattle.std.specs.Prelude.{ℕ, suc, ◌-◌, Bool, true, false, ◌&&◌, ◌||◌, List, [], ◌∷◌, ◌++◌, map, length, take, drop, replicate, Option, Some, None, ℤ, if◌then◌else◌}
use Rattle.dm_token.specs.declared.place.Place.{Place}
use Rattle.dm_int.specs.Kinds as kinds
use Rattle.dm_int.specs.Operators.{int_eq}
use Rattle.dm_type.specs.CTypes.{CType, void, integer, array, bare}
use Rattle.dm_tree.specs.declared.unit.Sort.{Sort}
use Rattle.dm_tree.specs.declared.unit.Sort.TheVariants.{Object}
use Rattle.dm_tree.specs.Trees.{Label, block, declare, full, if_statement, switch, case, default, while_loop, do_loop, for_loop, break, continue, return, Tree, node, more_trees, listed, spans_of, Declarator, Initialiser, Initialisers, one_expression, in_braces, no_items, more_items, expressions_in}
use Rattle.dm_tree.specs.Units.{Declaration}
use Rattle.dm_meaning.specs.declared.cause.Cause.{Cause}
use Rattle.dm_meaning.specs.Values.{Name, numbered, literal_of, At, Value, integer_value, parts, unset, values, parts_in}
use Rattle.dm_meaning.specs.Objects.{Layout, inner_type, all_zero, zero_of}
use Rattle.dm_meaning.specs.Memory.{Memory, new_block, literal_block, contents_at, written, killed}
use Rattle.dm_meaning.specs.Programs.{Program, layout, declaration_of, constant_of}
use Rattle.dm_meaning.specs.Operations.{Result, of_value, designates, Objects, object_named, whole, part_of, Truth, holds, untold, truth_of}
use Rattle.dm_meaning.specs.Running.{begun}
use Rattle.dm_meaning.specs.Expressions.{value_of}
use Rattle.dm_meaning.specs.States.{Loop, Use, drops, chooses, selects, repeats, continues, returns, initialises, Task, begins, declares, initials, evaluates, again, tests, ends, ends_switch, leaves, skips, hands_back}

-- What a step leaves in a frame: its objects, what is left to do, and memory.
pub data Turned : Type 0 where
  onward : Objects → List Task → Memory → Turned
  refused : Cause → Place → Turned

-- the evaluation of a full expression begins (6.8p4)
abbrev pub place_of : Tree → Place
place_of tree = (spans_of tree).place

abbrev pub evaluation : Tree → Use → Task
evaluation tree use_of = evaluates (place_of tree) (begun tree) use_of

-- ---- objects that a block declares (6.2.4p5, p6)

abbrev pub is_automatic_sort : Sort → Bool
is_automatic_sort (Object false) = true
is_automatic_sort other = false

abbrev pub is_automatic_declaration : Option Declaration → Bool
is_automatic_declaration None = false
is_automatic_declaration (Some declaration) = is_automatic_sort declaration.sort

-- a declarator defines an object of automatic storage duration
abbrev pub is_automatic : Program → Declarator → Bool
is_automatic program declarator = declarator.defines && is_automatic_declaration (declaration_of program declarator.declared)

abbrev pub automatic_in : Program → List Declarator → List ℕ
automatic_in program [] = []
automatic_in program (declarator ∷ declarators) =
    (if is_automatic program declarator then declarator.declared ∷ [] else []) ++ automatic_in program declarators

abbrev pub declared_by_label : Program → Label → List ℕ
declared_by_label program (declare lengths declarators) = automatic_in program declarators
declared_by_label program label = []

-- the objects that an item of a block declares
abbrev pub declared_by : Program → Tree → List ℕ
declared_by program (node label kind spans trees) = declared_by_label program label

abbrev pub declared_in : Program → List Tree → List ℕ
declared_in program [] = []
declared_in program (item ∷ items) = declared_by program item ++ declared_in program items

abbrev pub kind_declared : Option Declaration → CType
kind_declared None = void
kind_declared (Some declaration) = declaration.kind

abbrev pub type_declared : Program → ℕ → CType
type_declared program d = kind_declared (declaration_of program d)

-- new objects for declarations, by names from the i-th on
abbrev pub named_from : (ℕ → ℕ) → ℕ → List ℕ → Objects → Objects
named_from names i [] objects = objects
named_from names i (d ∷ ds) objects = named_from names (suc i) ds ((d, names i) ∷ objects)

abbrev pub made_from : Program → (ℕ → ℕ) → ℕ → List ℕ → Memory → Memory
made_from program names i [] memory = memory
made_from program names i (d ∷ ds) memory =
    made_from program names (suc i) ds ((names i, new_block (layout program) (type_declared program d)) ∷ memory)

-- the objects that have been named since
abbrev pub named_since : Objects → Objects → List ℕ
named_since saved objects = map (λ entry. entry.1) (take (length objects - length saved) objects)

-- ---- what begins

-- how many expressions an initialiser has
abbrev pub expressions_of : Option Initialiser → ℕ
expressions_of None = 0
expressions_of (Some initialiser) = expressions_in initialiser

-- a declarator, and the expressions of its initialiser
pub record Local : Type 0 where
  pub declarator : Declarator
  pub expressions : List Tree

abbrev pub with_expressions : List Declarator → List Tree → List Local
with_expressions [] expressions = []
with_expressions (declarator ∷ declarators) expressions =
    record { declarator = declarator; expressions = take (expressions_of declarator.initialiser) expressions }
    ∷ with_expressions declarators (drop (expressions_of declarator.initialiser) expressions)

abbrev pub declarator_tasks : List Declarator → List Tree → List Task
declarator_tasks declarators expressions = map (λ (local : Local). declares local.declarator local.expressions) (with_expressions declarators expressions)

abbrev pub item_tasks_by : Tree → Label → List Tree → List Task
item_tasks_by item (declare lengths declarators) trees = declarator_tasks declarators (drop lengths trees)
item_tasks_by item label trees = begins item ∷ []

-- an item of a block: a declaration takes no step of its own
abbrev pub item_tasks : Tree → List Task
item_tasks (node label kind spans trees) = item_tasks_by (node label kind spans trees) label (listed trees)

abbrev pub items_tasks : List Tree → List Task
items_tasks [] = []
items_tasks (item ∷ items) = item_tasks item ++ items_tasks items

-- the statement behind labels, which take no step (6.8.1p4)
abbrev pub unlabelled : Tree → Tree
unlabelled (node case kind spans (more_trees value (more_trees statement rest))) = unlabelled statement
unlabelled (node default kind spans (more_trees statement rest)) = unlabelled statement
unlabelled tree = tree

-- the objects that a statement or a block with these items makes when it begins
abbrev pub entered : Program → (ℕ → ℕ) → List Tree → Objects → Objects
entered program names items objects = named_from names 0 (declared_in program items) objects

abbrev pub memory_entered : Program → (ℕ → ℕ) → List Tree → Memory → Memory
memory_entered program names items memory = made_from program names 0 (declared_in program items) memory

abbrev pub start_task : Tree → Label → List Task
start_task tree (declare lengths declarators) = item_tasks tree
start_task tree label = evaluation tree drops ∷ []

abbrev pub start_tasks : Option Tree → List Task
start_tasks None = []
start_tasks (Some (node label kind spans trees)) = start_task (node label kind spans trees) label

abbrev pub as_list : Option Tree → List Tree
as_list None = []
as_list (Some tree) = tree ∷ []

-- a `for` is a block of its own, in which its declaration stands (6.8.5p5, 6.8.5.3p1)
abbrev pub begin_for : Program → (ℕ → ℕ) → Objects → List Task → Memory → Option Tree → Loop → Turned
begin_for program names objects rest memory start loop =
    let inner = entered program names (as_list start) objects in
    onward inner (start_tasks start ++ tests inner loop ∷ ends objects ∷ rest) (memory_entered program names (as_list start) memory)

-- the parts of a statement, where there are as many as its form has; no typed tree has others
abbrev pub on_one_tree : List Tree → (Tree → Turned) → Turned → Turned
on_one_tree [] next otherwise = otherwise
on_one_tree (first ∷ []) next otherwise = next first
on_one_tree (first ∷ second ∷ rest) next otherwise = otherwise

abbrev pub on_first_tree : List Tree → (Tree → List Tree → Turned) → Turned → Turned
on_first_tree [] next otherwise = otherwise
on_first_tree (first ∷ rest) next otherwise = next first rest

abbrev pub on_two_trees : List Tree → (Tree → Tree → Turned) → Turned → Turned
on_two_trees trees next otherwise = on_first_tree trees (λ first rest. on_one_tree rest (next first) otherwise) otherwise

-- one, or none
abbrev pub on_option_tree : List Tree → (Option Tree → Turned) → Turned → Turned
on_option_tree [] next otherwise = next None
on_option_tree (first ∷ []) next otherwise = next (Some first)
on_option_tree (first ∷ second ∷ rest) next otherwise = otherwise

-- one where a test says so, and those behind it
abbrev pub on_tree_if : Bool → List Tree → (Option Tree → List Tree → Turned) → Turned → Turned
on_tree_if false trees next otherwise = next None trees
on_tree_if true [] next otherwise = otherwise
on_tree_if true (tree ∷ trees) next otherwise = next (Some tree) trees

abbrev pub loop_with : Option Tree → Option Tree → Tree → Loop
loop_with condition after body = record { condition = condition; after = after; body = body }

-- `return`, with an expression or without (6.8.6.4)
abbrev pub returning : Objects → Memory → Option Tree → Turned
returning objects memory None = onward objects (hands_back unset ∷ []) memory
returning objects memory (Some tree) = onward objects (evaluation tree returns ∷ []) memory

-- A statement begins, by its form (6.8.2 to 6.8.6).
abbrev pub begin_form : Program → (ℕ → ℕ) → Objects → List Task → Memory → Label → List Tree → Turned
begin_form program names objects rest memory block items =
    onward (entered program names items objects) (items_tasks items ++ ends objects ∷ rest) (memory_entered program names items memory)
begin_form program names objects rest memory full trees =
    on_one_tree trees (λ tree. onward objects (evaluation tree drops ∷ ends objects ∷ rest) memory) (onward objects (ends objects ∷ rest) memory)
begin_form program names objects rest memory if_statement trees =
    on_first_tree trees (λ condition others. on_first_tree others (λ first seconds. on_option_tree seconds
    (λ second. onward objects (evaluation condition (chooses first second) ∷ ends objects ∷ rest) memory)
    (onward objects (ends objects ∷ rest) memory)) (onward objects (ends objects ∷ rest) memory)) (onward objects (ends objects ∷ rest) memory)
begin_form program names objects rest memory switch trees =
    on_first_tree trees (λ operand items. onward objects (evaluation operand (selects items) ∷ ends_switch objects ∷ rest) memory) (onward objects (ends objects ∷ rest) memory)
begin_form program names objects rest memory while_loop trees =
    on_two_trees trees (λ condition body. onward objects (tests objects (loop_with (Some condition) None body) ∷ ends objects ∷ rest) memory)
    (onward objects (ends objects ∷ rest) memory)
begin_form program names objects rest memory do_loop trees =
    on_two_trees trees (λ body condition. onward objects (begins body ∷ again objects (loop_with (Some condition) None body) ∷ ends objects ∷ rest) memory)
    (onward objects (ends objects ∷ rest) memory)
begin_form program names objects rest memory (for_loop first second third) trees =
    on_tree_if first trees (λ start others. on_tree_if second others (λ condition seconds. on_tree_if third seconds (λ after thirds.
    on_one_tree thirds (λ body. begin_for program names objects rest memory start (loop_with condition after body))
    (onward objects (ends objects ∷ rest) memory)) (onward objects (ends objects ∷ rest) memory)) (onward objects (ends objects ∷ rest) memory))
    (onward objects (ends objects ∷ rest) memory)
begin_form program names objects rest memory break trees = onward objects (leaves ∷ rest) memory
begin_form program names objects rest memory continue trees = onward objects (skips ∷ rest) memory
begin_form program names objects rest memory return trees =
    on_option_tree trees (returning objects memory) (onward objects (ends objects ∷ rest) memory)
begin_form program names objects rest memory label trees = onward objects (ends objects ∷ rest) memory

abbrev pub begin_tree : Program → (ℕ → ℕ) → Objects → List Task → Memory → Tree → Turned
begin_tree program names objects rest memory (node label kind spans trees) = begin_form program names objects rest memory label (listed trees)

-- a statement begins, behind its labels
abbrev pub begin_statement : Program → (ℕ → ℕ) → Objects → List Task → Memory → Tree → Turned
begin_statement program names objects rest memory tree = begin_tree program names objects rest memory (unlabelled tree)

-- ---- initialisers (6.7.9)

-- a declarator with an initialiser gives the object its first value; an object of static storage duration has had it from the start (6.2.4p3)
abbrev pub initial_of : CType → Option ℕ → Option Initialiser → List Tree → List Task
initial_of kind (Some n) (Some initialiser) expressions = initials (whole (numbered n)) kind initialiser expressions ∷ []
initial_of kind n initialiser expressions = []

abbrev pub begin_declarator : Program → Objects → List Task → Memory → Declarator → List Tree → Turned
begin_declarator program objects rest memory declarator expressions =
    onward objects
    ((if is_automatic program declarator then initial_of (type_declared program declarator.declared) (object_named objects declarator.declared) declarator.initialiser expressions else []) ++ rest)
    memory

-- the items of a list in braces, in order, from the n-th part on
abbrev pub part_tasks : Layout → At → CType → ℕ → Initialisers → List Tree → List Task
part_tasks layout at kind n no_items expressions = []
part_tasks layout at kind n (more_items item items) expressions =
    initials (part_of at n) (inner_type layout (bare kind) n) item (take (expressions_in item) expressions)
    ∷ part_tasks layout at kind (suc n) items (drop (expressions_in item) expressions)

abbrev pub count_items : Initialisers → ℕ
count_items no_items = 0
count_items (more_items item items) = suc (count_items items)

-- the value of an object when a list with so many items begins: the parts without an initialiser become 0, and the others stay as they are
-- until they are stored (6.7.9p19, p21)
abbrev pub value_listed : Layout → CType → ℕ → Value → Value
value_listed layout kind n value = parts (values (take n (parts_in value) ++ drop n (parts_in (all_zero layout kind))))

abbrev pub begin_initialiser : Program → Objects → List Task → Memory → At → CType → Initialiser → List Tree → Turned
begin_initialiser program objects rest memory at kind one_expression trees =
    on_one_tree trees (λ tree. onward objects (evaluation tree (initialises at kind) ∷ rest) memory) (onward objects rest memory)
begin_initialiser program objects rest memory at kind (in_braces items) expressions =
    onward objects (part_tasks (layout program) at kind 0 items expressions ++ rest)
    (written memory at (value_listed (layout program) kind (count_items items) (contents_at memory at)))

-- a character of a string literal, as an element of an array
abbrev pub as_element : CType → Value → Value
as_element (integer kind) (integer_value other z) = integer_value kind (kinds.convert kind z)
as_element kind value = value

-- the array that a string literal initialises: its characters, as many as there is room for, and 0 behind them (6.7.9p14, p21)
abbrev pub text_of : CType → ℕ → List Value → Value
text_of element count characters = parts (values (take count (map (as_element element) characters ++ replicate count (zero_of element))))

abbrev pub array_of : CType → List Value → Value
array_of (array element (Some count)) characters = text_of (bare element) count characters
array_of kind characters = unset

-- the characters of a string literal; no typed initialiser designates another object
abbrev pub characters_at : Name → List Value
characters_at (literal_of bytes unit) = parts_in (literal_block bytes).contents
characters_at name = []

-- the value that an initialiser's result gives: that of the expression, or the array of a string literal
abbrev pub initial_value : CType → Result → Value
initial_value kind (of_value value) = value
initial_value kind (designates at) = array_of kind (characters_at at.name)

-- ---- switch (6.8.4.2)

abbrev pub is_number : ℤ → Option ℤ → Bool
is_number z None = false
is_number z (Some other) = int_eq z other

-- a statement has the label `case` with this value
abbrev pub has_case : Program → ℤ → Tree → Bool
has_case program z (node case kind spans (more_trees value (more_trees statement rest))) = is_number z (constant_of program value) || has_case program z statement
has_case program z (node default kind spans (more_trees statement rest)) = has_case program z statement
has_case program z tree = false

-- or the label `default`
abbrev pub has_default : Tree → Bool
has_default (node case kind spans (more_trees value (more_trees statement rest))) = has_default statement
has_default (node default kind spans trees) = true
has_default tree = false

-- the items from the first that passes on, if there is one
abbrev pub from_first : (Tree → Bool) → List Tree → Option (List Tree)
from_first test [] = None
from_first test (item ∷ items) = if test item then Some (item ∷ items) else from_first test items

abbrev pub or_items : Option (List Tree) → List Tree → List Tree
or_items None others = others
or_items (Some items) others = items

-- the items that are executed: from the matching `case` on, else from `default` on, else none (6.8.4.2p5)
abbrev pub selected : Program → ℤ → List Tree → List Tree
selected program z items = or_items (from_first (has_case program z) items) (or_items (from_first has_default items) [])

abbrev pub selected_by : Program → Value → List Tree → List Tree
selected_by program (integer_value kind z) items = selected program z items
selected_by program value items = []

-- ---- the end of a full expression (6.8p4)

abbrev pub by_test : Place → Truth → (Bool → Turned) → Turned
by_test place (holds truth) next = next truth
by_test place (untold cause) next = refused cause place

abbrev pub begins_one : Option Tree → List Task
begins_one None = []
begins_one (Some tree) = begins tree ∷ []

-- what its value decides
abbrev pub concluded : Program → Objects → List Task → Memory → Place → Use → Result → Turned
concluded program objects rest memory place drops result = onward objects rest memory
concluded program objects rest memory place (chooses first second) result =
    by_test place (truth_of memory (value_of result)) (λ truth. onward objects (begins_one (if truth then Some first else second) ++ rest) memory)
concluded program objects rest memory place (selects items) result = onward objects (items_tasks (selected_by program (value_of result) items) ++ rest) memory
concluded program objects rest memory place (repeats loop) result =
    by_test place (truth_of memory (value_of result)) (λ truth. onward objects (if truth then begins loop.body ∷ again objects loop ∷ rest else rest) memory)
concluded program objects rest memory place (continues loop) result = onward objects (tests objects loop ∷ rest) memory
concluded program objects rest memory place returns result = onward objects (hands_back (value_of result) ∷ []) memory
concluded program objects rest memory place (initialises at kind) result = onward objects rest (written memory at (initial_value kind result))

-- ---- what takes no step

-- a loop at its condition, which may be left out
abbrev pub tested : Objects → Loop → List Task → Option Tree → List Task
tested objects loop rest (Some condition) = evaluation condition (repeats loop) ∷ rest
tested objects loop rest None = begins loop.body ∷ again objects loop ∷ rest

-- a loop behind its body
abbrev pub continued : Objects → Loop → List Task → Option Tree → List Task
continued objects loop rest (Some after) = evaluation after (continues loop) ∷ rest
continued objects loop rest None = tested objects loop rest loop.condition

-- a loop goes on without a step
abbrev pub unfolded : List Task → List Task
unfolded (tests objects loop ∷ rest) = tested objects loop rest loop.condition
unfolded (again objects loop ∷ rest) = continued objects loop rest loop.after
unfolded tasks = tasks

-- ---- what ends

-- only these objects stay alive
abbrev pub ended : Objects → Objects → List Task → Memory → Turned
ended saved objects rest memory = onward saved rest (killed (named_since saved objects) memory)

-- `break` goes behind the innermost loop or switch (6.8.6.3p2)
abbrev pub after_break : Objects → Memory → List Task → Turned
after_break objects memory [] = onward objects [] memory
after_break objects memory (again saved loop ∷ rest) = ended saved objects rest memory
after_break objects memory (ends_switch saved ∷ rest) = ended saved objects (ends_switch saved ∷ rest) memory
after_break objects memory (task ∷ rest) = after_break objects memory rest

-- `continue` goes to the end of the body of the innermost loop (6.8.6.2p2)
abbrev pub after_continue : Objects → Memory → List Task → Turned
after_continue objects memory [] = onward objects [] memory
after_continue objects memory (again saved loop ∷ rest) = ended saved objects (again saved loop ∷ rest) memory
after_continue objects memory (task ∷ rest) = after_continue objects memory rest
