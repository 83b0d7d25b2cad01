-- Which nodes of a tree under evaluation may be evaluated next: those whose operands are results, from the left.
--     ready run      these nodes, each in the tree with it left out
--     reductions before results items      these nodes in a list of items
--     ready_count results items      how many there are
use Rattle.std.specs.Prelude.{ℕ, suc, ◌+◌, Bool, true, false, nat_le, List, [], ◌∷◌, ◌++◌, map, Option, Some, None, option_map, if◌then◌else◌}
use Rattle.dm_token.specs.declared.place.Place.{Place}
use Rattle.dm_type.specs.CTypes.{CType}
use Rattle.dm_meaning.specs.Values.{At}
use Rattle.dm_meaning.specs.Operations.{Operand, World, Scene}
use Rattle.dm_meaning.specs.Running.{Doing, Run, done, to_do, Runs, no_runs, more_runs, Open, first_open, others_open, open_parts, Hole, here, within, Holes, in_first, in_others, filled_in, hole_in}
use Rattle.dm_meaning.specs.Expressions.{Move, lifted, where_open, node_step}
use Rattle.dm_postfix.specs.Postfix.{Evaluated, Slots, no_slots, operand, closed, arity, Waiting, Item, evaluated, waiting}

-- ---- in a tree

-- A node whose operands are results.
pub record Ready : Type 0 where
  pub doing : Doing
  pub kind : CType
  pub place : Place
  pub parts : Runs
  pub operands : List Evaluated

abbrev pub as_operand : Evaluated → Operand
as_operand one = record { kind = one.kind; result = one.result }

-- the results of the operands, where all of those that may be evaluated are evaluated
abbrev pub first_evaluated : Bool → Run → Option (List Evaluated) → Option (List Evaluated)
first_evaluated true (done kind result locks) rest = option_map (λ others. record { kind = kind; result = result; locks = locks } ∷ others) rest
first_evaluated true (to_do doing kind place parts) rest = None
first_evaluated false run rest = rest

abbrev pub evaluated_in : Open → Runs → Option (List Evaluated)
evaluated_in opens no_runs = Some []
evaluated_in opens (more_runs first rest) = first_evaluated (first_open opens) first (evaluated_in (others_open opens) rest)

abbrev pub ready_or_inner : Doing → CType → Place → Runs → Option (List Evaluated) → List (Holes × Ready) → List (Hole × Ready)
ready_or_inner doing kind place parts (Some operands) inner = (here, record { doing = doing; kind = kind; place = place; parts = parts; operands = operands }) ∷ []
ready_or_inner doing kind place parts None inner = map (λ one. (within doing kind place one.0, one.1)) inner

abbrev mutual
  pub ready : Run → List (Hole × Ready)
  ready (done kind result locks) = []
  ready (to_do doing kind place parts) = ready_or_inner doing kind place parts (evaluated_in (open_parts doing) parts) (ready_in (open_parts doing) parts)

  pub ready_in : Open → Runs → List (Holes × Ready)
  ready_in opens no_runs = []
  ready_in opens (more_runs first rest) =
      where_open (first_open opens) (map (λ one. (in_first one.0 rest, one.1)) (ready first))
      ++ map (λ one. (in_others first one.0, one.1)) (ready_in (others_open opens) rest)

-- the step of such a node, as one of the whole
abbrev pub step_of : Scene → World → List At → Ready → Move Run Hole
step_of scene world locks node = node_step scene world locks node.doing node.kind node.place node.parts (map as_operand node.operands)

abbrev pub move_of : Scene → World → List At → Hole × Ready → Move Run Hole
move_of scene world locks one = lifted (filled_in one.0) (hole_in one.0) (step_of scene world locks one.1)

-- ---- in a list of items

-- A node that is ready, and what stands in front of it, its operands last, and behind it.
pub record Reduction : Type 0 where
  pub before : List Item
  pub node : Waiting
  pub after : List Item

abbrev pub reduction_if : Bool → List Item → Waiting → List Item → List Reduction
reduction_if true before node after = record { before = before; node = node; after = after } ∷ []
reduction_if false before node after = []

-- A node is ready where at least as many results stand directly in front of it as it has operands. `results` says how many stand directly
-- in front of the items.
abbrev pub reductions : List Item → ℕ → List Item → List Reduction
reductions before results [] = []
reductions before results (evaluated one ∷ rest) = reductions (before ++ evaluated one ∷ []) (suc results) rest
reductions before results (waiting node ∷ rest) =
    reduction_if (nat_le (arity node.slots) results) before node rest ++ reductions (before ++ waiting node ∷ []) 0 rest

-- how many of the nodes are ready
abbrev pub ready_count : ℕ → List Item → ℕ
ready_count results [] = 0
ready_count results (evaluated one ∷ rest) = ready_count (suc results) rest
ready_count results (waiting node ∷ rest) = (if nat_le (arity node.slots) results then 1 else 0) + ready_count 0 rest

-- how many results stand directly behind all items
abbrev pub results_behind : ℕ → List Item → ℕ
results_behind results [] = results
results_behind results (evaluated one ∷ rest) = results_behind (suc results) rest
results_behind results (waiting node ∷ rest) = results_behind 0 rest

-- the parts of a node, with its operands
abbrev pub filled : Slots → List Evaluated → Runs
filled no_slots operands = no_runs
filled (operand slots) [] = filled slots []
filled (operand slots) (one ∷ operands) = more_runs (done one.kind one.result one.locks) (filled slots operands)
filled (closed run slots) operands = more_runs run (filled slots operands)

-- the step of a node with these operands
abbrev pub step_at : Scene → World → List At → Waiting → List Evaluated → Move Run Hole
step_at scene world locks node operands =
    node_step scene world locks node.doing node.kind node.place (filled node.slots operands) (map as_operand operands)
