-- Objects to which no pointer leads, and trees that only read or write them by their names.
--     Avoids n value      no pointer in the value leads to the object of this number
--     MemoryAvoids n memory      no object holds such a pointer
--     IsClosedIn n objects run      the tree names the object only where it is read or written, and no other result leads to it
--     StaysClosed n objects move      a step leaves such a tree, and such a memory
use Rattle.std.specs.Prelude.{◌≡◌, ◌⊎◌, ℕ, List, [], ◌∷◌, Some}
use Rattle.dm_token.specs.declared.place.Place.{Place}
use Rattle.dm_type.specs.CTypes.{CType}
use Rattle.dm_tree.specs.Trees.{object, read, store, update, count, sizeof_tree}
use Rattle.dm_meaning.specs.Values.{numbered, At, Pointer, null, to, Value, Values, integer_value, pointer_value, parts as compound, unset, no_values, more_values}
use Rattle.dm_meaning.specs.Memory.{Memory, Block, look_up}
use Rattle.dm_meaning.specs.Operations.{Result, of_value, designates, Objects, object_named, whole}
use Rattle.dm_meaning.specs.Running.{Doing, evaluates, Run, done, to_do, Runs, no_runs, more_runs, Hole, filled_in}
use Rattle.dm_meaning.specs.Expressions.{Move, goes, calls, fails, exits}

-- ---- values

abbrev pub PointerAvoids : ℕ → Pointer → Type 0
PointerAvoids n null = Unit {0}
PointerAvoids n (to at) = at.name ≡ numbered n → ⊥

abbrev mutual
  pub Avoids : ℕ → Value → Type 0
  Avoids n (integer_value kind z) = Unit {0}
  Avoids n (pointer_value p) = PointerAvoids n p
  Avoids n (compound all) = AllAvoid n all
  Avoids n unset = Unit {0}

  pub AllAvoid : ℕ → Values → Type 0
  AllAvoid n no_values = Unit {0}
  AllAvoid n (more_values first rest) = Avoids n first × AllAvoid n rest

abbrev pub ListAvoids : ℕ → List Value → Type 0
ListAvoids n [] = Unit {0}
ListAvoids n (first ∷ rest) = Avoids n first × ListAvoids n rest

-- no place in it is designated either
abbrev pub ResultAvoids : ℕ → Result → Type 0
ResultAvoids n (of_value value) = Avoids n value
ResultAvoids n (designates at) = at.name ≡ numbered n → ⊥

abbrev pub MemoryAvoids : ℕ → Memory → Type 0
MemoryAvoids n memory = (m : ℕ) (block : Block) → look_up memory m ≡ Some block → Avoids n block.contents

-- ---- trees

-- What a node's first operand may be: no name of the object, its name too, or anything, where it is never evaluated.
pub data May : Type 0 where
  only_closed : May
  may_name : May
  unseen : May

-- the operand that a node reads or writes, and that of sizeof
abbrev pub names_first : Doing → May
names_first (evaluates read) = may_name
names_first (evaluates store) = may_name
names_first (evaluates (update op works)) = may_name
names_first (evaluates (count plus before)) = may_name
names_first (evaluates sizeof_tree) = unseen
names_first doing = only_closed

-- the object's name, before it is evaluated and after
abbrev pub IsPlace : ℕ → Objects → Run → Type 0
IsPlace n objects run =
    ((d : ℕ) × (kind : CType) × (place : Place) × (run ≡ to_do (evaluates (object d)) kind place no_runs) × (object_named objects d ≡ Some n))
    ⊎ ((kind : CType) × (locks : List At) × (run ≡ done kind (designates (whole (numbered n))) locks))

abbrev pub IsNotNamed : ℕ → Objects → Doing → Type 0
IsNotNamed n objects (evaluates (object d)) = object_named objects d ≡ Some n → ⊥
IsNotNamed n objects doing = Unit {0}

abbrev pub FirstIs : May → Type 0 → Type 0 → Type 0
FirstIs only_closed closed place = closed
FirstIs may_name closed place = closed ⊎ place
FirstIs unseen closed place = Unit {0}

abbrev mutual
  pub IsClosedIn : ℕ → Objects → Run → Type 0
  IsClosedIn n objects (done kind result locks) = ResultAvoids n result
  IsClosedIn n objects (to_do doing kind place parts) = IsNotNamed n objects doing × IsClosedInAll n objects (names_first doing) parts

  pub IsClosedInAll : ℕ → Objects → May → Runs → Type 0
  IsClosedInAll n objects may no_runs = Unit {0}
  IsClosedInAll n objects may (more_runs first rest) =
      FirstIs may (IsClosedIn n objects first) (IsPlace n objects first) × IsClosedInAll n objects only_closed rest

-- ---- steps

-- A call is given no pointer to the object, and behind it the tree is such again, if its value has none.
abbrev pub StaysClosed : ℕ → Objects → Move Run Hole → Type 0
StaysClosed n objects (goes after run) = IsClosedIn n objects run × MemoryAvoids n after.memory
StaysClosed n objects (calls f arguments kind hole) =
    ListAvoids n arguments
    × ((value : Value) (locks : List At) → Avoids n value → IsClosedIn n objects (filled_in hole (done kind (of_value value) locks)))
StaysClosed n objects (fails cause place) = Unit {0}
StaysClosed n objects (exits status) = Unit {0}
