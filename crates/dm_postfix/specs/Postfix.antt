-- Trees under evaluation in postfix order: results, and nodes that wait behind their operands.
--     Item      a result, or a node that waits
--     items run      the items of a tree
--     before_of hole, after_of hole      the items in front of a part that is left out, and those behind it
--     tree_of items, hole_of before after      the tree that items stand for, and the one with a part left out
use Rattle.std.specs.Prelude.{◌≡◌, ℕ, suc, Bool, true, false, List, [], ◌∷◌, ◌++◌}
use Rattle.dm_token.specs.declared.place.Place.{Place}
use Rattle.dm_type.specs.CTypes.{CType, void}
use Rattle.dm_meaning.specs.Values.{At, unset}
use Rattle.dm_meaning.specs.Operations.{Result}
use Rattle.dm_meaning.specs.Running.{Doing, Run, done, to_do, Runs, no_runs, more_runs, locks_in, Open, first_open, others_open, open_parts, Hole, here, within, Holes, in_first, in_others}
use Rattle.dm_meaning.specs.Expressions.{where_open, unlocked}

-- a result, with its type and its locks
pub record Evaluated : Type 0 where
  pub kind : CType
  pub result : Result
  pub locks : List At

-- The parts of a node that waits: an operand that may be evaluated stands before the node, the others stand in it.
pub data Slots : Type 0 where
  no_slots : Slots
  operand : Slots → Slots
  closed : Run → Slots → Slots

-- how many operands stand before the node
abbrev pub arity : Slots → ℕ
arity no_slots = 0
arity (operand slots) = suc (arity slots)
arity (closed run slots) = arity slots

-- the locks of the parts in it
abbrev pub closed_locks : Slots → List At
closed_locks no_slots = []
closed_locks (operand slots) = closed_locks slots
closed_locks (closed run slots) = locks_in run ++ closed_locks slots

-- a node that waits for its operands
pub record Waiting : Type 0 where
  pub doing : Doing
  pub kind : CType
  pub place : Place
  pub slots : Slots

pub data Item : Type 0 where
  evaluated : Evaluated → Item
  waiting : Waiting → Item

-- ---- the items of a tree

-- a part is an operand where it may be evaluated
abbrev pub with_slot : Bool → Run → Slots → Slots
with_slot true run slots = operand slots
with_slot false run slots = closed run slots

abbrev pub slots_of : Open → Runs → Slots
slots_of opens no_runs = no_slots
slots_of opens (more_runs first rest) = with_slot (first_open opens) first (slots_of (others_open opens) rest)

abbrev pub node_of : Doing → CType → Place → Slots → Waiting
node_of doing kind place slots = record { doing = doing; kind = kind; place = place; slots = slots }

abbrev mutual
  -- the operands of a node from the left, then the node
  pub items : Run → List Item
  items (done kind result locks) = evaluated (record { kind = kind; result = result; locks = locks }) ∷ []
  items (to_do doing kind place parts) = items_in (open_parts doing) parts ++ waiting (node_of doing kind place (slots_of (open_parts doing) parts)) ∷ []

  pub items_in : Open → Runs → List Item
  items_in opens no_runs = []
  items_in opens (more_runs first rest) = where_open (first_open opens) (items first) ++ items_in (others_open opens) rest

-- the locks of the results
abbrev pub locks_of : List Item → List At
locks_of [] = []
locks_of (evaluated one ∷ rest) = one.locks ++ locks_of rest
locks_of (waiting node ∷ rest) = locks_of rest

-- the parts that aren't evaluated have none
abbrev pub AreUnlocked : List Item → Type 0
AreUnlocked [] = Unit {0}
AreUnlocked (evaluated one ∷ rest) = AreUnlocked rest
AreUnlocked (waiting node ∷ rest) = (closed_locks node.slots ≡ []) × AreUnlocked rest

-- ---- trees with a part left out

-- the parts of a node, the one with the part that is left out among them
abbrev pub slots_in_holes : Open → Holes → Slots
slots_in_holes opens (in_first hole rest) = operand (slots_of (others_open opens) rest)
slots_in_holes opens (in_others first holes) = with_slot (first_open opens) first (slots_in_holes (others_open opens) holes)

abbrev mutual
  pub before_of : Hole → List Item
  before_of here = []
  before_of (within doing kind place parts) = before_in (open_parts doing) parts

  pub before_in : Open → Holes → List Item
  before_in opens (in_first hole rest) = before_of hole
  before_in opens (in_others first holes) = where_open (first_open opens) (items first) ++ before_in (others_open opens) holes

abbrev mutual
  pub after_of : Hole → List Item
  after_of here = []
  after_of (within doing kind place parts) = after_in (open_parts doing) parts ++ waiting (node_of doing kind place (slots_in_holes (open_parts doing) parts)) ∷ []

  pub after_in : Open → Holes → List Item
  after_in opens (in_first hole rest) = after_of hole ++ items_in (others_open opens) rest
  after_in opens (in_others first holes) = after_in (others_open opens) holes

-- ---- the tree that items stand for

-- a tree, or one with a part left out
pub data Part : Type 0 where
  whole : Run → Part
  holed : Hole → Part

-- the parts of a node, or those with a part left out
pub data Gathered : Type 0 where
  all_whole : Runs → Gathered
  one_holed : Holes → Gathered

abbrev pub with_run : Run → Gathered → Gathered
with_run run (all_whole runs) = all_whole (more_runs run runs)
with_run run (one_holed holes) = one_holed (in_others run holes)

-- no items lack a part twice
abbrev pub with_hole : Hole → Gathered → Gathered
with_hole hole (all_whole runs) = one_holed (in_first hole runs)
with_hole hole (one_holed holes) = one_holed holes

abbrev pub with_part : Part → Gathered → Gathered
with_part (whole run) others = with_run run others
with_part (holed hole) others = with_hole hole others

-- what a node takes, and the parts before it that are left, the last one first
pub record Taken : Type 0 where
  pub gathered : Gathered
  pub left : List Part

abbrev pub taking_part : Gathered → List Part → Taken
taking_part others [] = record { gathered = others; left = [] }
taking_part others (part ∷ left) = record { gathered = with_part part others; left = left }

abbrev pub taking_run : Run → Taken → Taken
taking_run run taken = record { gathered = with_run run taken.gathered; left = taken.left }

-- a node takes its operands, the last one first
abbrev pub taken : Slots → List Part → Taken
taken no_slots parts = record { gathered = all_whole no_runs; left = parts }
taken (operand slots) parts = taking_part (taken slots parts).gathered (taken slots parts).left
taken (closed run slots) parts = taking_run run (taken slots parts)

abbrev pub put_together : Waiting → Gathered → Part
put_together node (all_whole runs) = whole (to_do node.doing node.kind node.place runs)
put_together node (one_holed holes) = holed (within node.doing node.kind node.place holes)

-- the parts that items make of those before them, the last one first
abbrev pub built : List Part → List Item → List Part
built parts [] = parts
built parts (evaluated one ∷ rest) = built (whole (done one.kind one.result one.locks) ∷ parts) rest
built parts (waiting node ∷ rest) = built (put_together node (taken node.slots parts).gathered ∷ (taken node.slots parts).left) rest

-- the tree on top; what stands for it where items are no tree's doesn't matter
abbrev pub tree_in : List Part → Run
tree_in (whole run ∷ others) = run
tree_in others = unlocked void unset

abbrev pub hole_among : List Part → Hole
hole_among (holed hole ∷ others) = hole
hole_among others = here

-- The tree of some items, and the one with a part left out between these items.
abbrev pub tree_of : List Item → Run
tree_of all = tree_in (built [] all)

abbrev pub hole_of : List Item → List Item → Hole
hole_of before after = hole_among (built (holed here ∷ built [] before) after)
