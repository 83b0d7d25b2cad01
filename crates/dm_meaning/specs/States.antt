-- States of the machine: what is left to do in each function that is running (6.8, 6.9.1).
--     Task      a thing that is left to do; a frame has a list of them, the next one first
--     Use      what the value of a full expression is for
--     Frame, Caller, State
use Rattle.std.specs.Prelude.{ℕ, List, Option}
use Rattle.dm_token.specs.declared.place.Place.{Place}
use Rattle.dm_type.specs.CTypes.{CType}
use Rattle.dm_tree.specs.Trees.{Tree, Declarator, Initialiser}
use Rattle.dm_meaning.specs.Machines.{Standing}
use Rattle.dm_meaning.specs.Values.{At, Value}
use Rattle.dm_meaning.specs.Operations.{World, Objects}
use Rattle.dm_meaning.specs.Running.{Run, Hole}

-- A loop: its condition and what is evaluated after its body, where it has them, and its body (6.8.5).
pub record Loop : Type 0 where
  pub condition : Option Tree
  pub after : Option Tree
  pub body : Tree

-- What the value of a full expression is for.
pub data Use : Type 0 where
  -- nothing (6.8.3p2)
  drops : Use
  -- it chooses a statement, the first where it isn't 0 (6.8.4.1p2)
  chooses : Tree → Option Tree → Use
  -- it chooses an item of a switch (6.8.4.2p4)
  selects : List Tree → Use
  -- it says whether the body of a loop is executed again (6.8.5p4)
  repeats : Loop → Use
  -- it was evaluated after the body of a loop
  continues : Loop → Use
  -- it is what the function returns (6.8.6.4p3)
  returns : Use
  -- it is the first value of an object or a part of one, of this type (6.7.9p11)
  initialises : At → CType → Use

-- What is left to do in a function, after the tasks before it.
pub data Task : Type 0 where
  -- a statement begins
  begins : Tree → Task
  -- a declarator begins; these are the expressions of its initialiser
  declares : Declarator → List Tree → Task
  -- an initialiser of an object or a part of one begins, with its expressions
  initials : At → CType → Initialiser → List Tree → Task
  -- a full expression is under evaluation; it stands at this place
  evaluates : Place → Run → Use → Task
  -- a loop goes on, at what follows its body or at its condition; these objects were alive before it
  again : Objects → Loop → Task
  tests : Objects → Loop → Task
  -- a statement ends, a block or the block of a switch among them: only these objects stay alive
  ends : Objects → Task
  ends_switch : Objects → Task
  -- control leaves the body of the innermost loop or switch, or goes to the end of the body of the innermost loop (6.8.6.2, 6.8.6.3)
  leaves : Task
  skips : Task
  -- the frame ends and gives a value
  hands_back : Value → Task

-- A function that is running: its number, the objects that declarations name in it, and what is left to do. Where nothing is left, the
-- closing brace of its body comes next.
pub record Frame : Type 0 where
  pub function : ℕ
  pub objects : Objects
  pub tasks : List Task

-- A function that waits for one that it has called: its frame, without the full expression in which the call stands; this expression with
-- the call left out, its type and its place, and what its value is for.
pub record Caller : Type 0 where
  pub frame : Frame
  pub place : Place
  pub kind : CType
  pub hole : Hole
  pub use_of : Use

pub record State : Type 0 where
  pub standing : Standing
  pub frame : Frame
  pub callers : List Caller
  -- the objects of static storage duration
  pub statics : Objects
  pub world : World
