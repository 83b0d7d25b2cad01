-- Trees under evaluation (6.5): typed trees in which evaluated parts are results.
--     Run      such a tree; `begun tree` is one in which nothing is evaluated
--     locks_in run      the places that were written and are locked
--     Hole      such a tree with one part left out; `filled_in hole run` has a tree there
--     open_parts label      which operands may be evaluated
use Rattle.std.specs.Prelude.{Bool, true, false, List, [], ◌∷◌, ◌++◌, Option, Some, None, option_map, IsTrue}
use Rattle.dm_token.specs.declared.place.Place.{Place}
use Rattle.dm_type.specs.CTypes.{CType}
use Rattle.dm_tree.specs.Trees.{Label, convert, both, either, choose, comma, call, sizeof_tree, sizeof_kind, Tree, Trees, node, no_trees, more_trees}
use Rattle.dm_meaning.specs.Values.{At}
use Rattle.dm_meaning.specs.Operations.{Result, Operand}

-- What a node that isn't evaluated yet does.
pub data Doing : Type 0 where
  -- as its form says
  evaluates : Label → Doing
  -- && or || has chosen its second operand, and gives 1 or 0 for its value
  gives_truth : Doing
  -- ?: or the comma has chosen an operand, and gives its value
  gives_value : Doing

mutual
  pub data Run : Type 0 where
    -- a result, with its type and its locks
    done : CType → Result → List At → Run
    -- a node that isn't evaluated yet, with its type, its place and the trees below it
    to_do : Doing → CType → Place → Runs → Run

  pub data Runs : Type 0 where
    no_runs : Runs
    more_runs : Run → Runs → Runs

abbrev mutual
  -- a typed tree of which nothing is evaluated
  pub begun : Tree → Run
  begun (node label kind spans parts) = to_do (evaluates label) kind spans.place (all_begun parts)

  pub all_begun : Trees → Runs
  all_begun no_trees = no_runs
  all_begun (more_trees first rest) = more_runs (begun first) (all_begun rest)

abbrev mutual
  -- the locks of its results
  pub locks_in : Run → List At
  locks_in (done kind result locks) = locks
  locks_in (to_do doing kind place parts) = locks_in_all parts

  pub locks_in_all : Runs → List At
  locks_in_all no_runs = []
  locks_in_all (more_runs first rest) = locks_in first ++ locks_in_all rest

-- ---- which operands are evaluated

-- which of the trees below a node may be evaluated
pub data Open : Type 0 where
  every : Open
  only_first : Open
  but_first : Open
  nothing : Open

-- whether the first may be
abbrev pub first_open : Open → Bool
first_open every = true
first_open only_first = true
first_open but_first = false
first_open nothing = false

-- which of the others may be
abbrev pub others_open : Open → Open
others_open every = every
others_open only_first = nothing
others_open but_first = every
others_open nothing = nothing

-- Of &&, ||, ?: and the comma the first operand is evaluated before anything else (6.5.13p4, 6.5.14p4, 6.5.15p4, 6.5.17p2), the operand of
-- sizeof never (6.5.3.4p2), nor the trees in a type name, nor the name of the function called. All other operands are unsequenced (6.5p3).
abbrev pub open_of : Label → Open
open_of both = only_first
open_of either = only_first
open_of choose = only_first
open_of comma = only_first
open_of convert = only_first
open_of call = but_first
open_of sizeof_tree = nothing
open_of (sizeof_kind type) = nothing
open_of label = every

abbrev pub open_parts : Doing → Open
open_parts (evaluates label) = open_of label
open_parts gives_truth = every
open_parts gives_value = every

-- the results of the operands, where all of those that may be evaluated are evaluated
abbrev pub with_first : Operand → Option (List Operand) → Option (List Operand)
with_first operand rest = option_map (λ operands. operand ∷ operands) rest

abbrev pub first_result : Bool → Run → Option (List Operand) → Option (List Operand)
first_result true (done kind result locks) rest = with_first (record { kind = kind; result = result }) rest
first_result true (to_do doing kind place parts) rest = None
first_result false run rest = rest

abbrev pub operands_in : Open → Runs → Option (List Operand)
operands_in opens no_runs = Some []
operands_in opens (more_runs first rest) = first_result (first_open opens) first (operands_in (others_open opens) rest)

-- ---- a tree with one part left out

mutual
  pub data Hole : Type 0 where
    -- the part that is left out is the whole
    here : Hole
    within : Doing → CType → Place → Holes → Hole

  pub data Holes : Type 0 where
    in_first : Hole → Runs → Holes
    in_others : Run → Holes → Holes

abbrev mutual
  -- with a tree in place of the part
  pub filled_in : Hole → Run → Run
  filled_in here run = run
  filled_in (within doing kind place parts) run = to_do doing kind place (all_filled_in parts run)

  pub all_filled_in : Holes → Run → Runs
  all_filled_in (in_first hole rest) run = more_runs (filled_in hole run) rest
  all_filled_in (in_others first holes) run = more_runs first (all_filled_in holes run)

-- the part that is left out may be evaluated
abbrev mutual
  pub IsOpen : Hole → Type 0
  IsOpen here = Unit {0}
  IsOpen (within doing kind place parts) = AreOpen (open_parts doing) parts

  pub AreOpen : Open → Holes → Type 0
  AreOpen opens (in_first hole rest) = IsTrue (first_open opens) × IsOpen hole
  AreOpen opens (in_others first holes) = AreOpen (others_open opens) holes

-- a tree with a part left out, in which that part is another such tree
abbrev mutual
  pub hole_in : Hole → Hole → Hole
  hole_in here inner = inner
  hole_in (within doing kind place parts) inner = within doing kind place (holes_in parts inner)

  pub holes_in : Holes → Hole → Holes
  holes_in (in_first hole rest) inner = in_first (hole_in hole inner) rest
  holes_in (in_others first holes) inner = in_others first (holes_in holes inner)
