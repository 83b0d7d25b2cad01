-- What is noted of the answers to questions about objects, for each token at which an argument may begin.
--     Tells mark token answer      a mark allows the answer at the token
--     mark_at marks d      that of the object of a number
--     marks_of deed marks      those that are kept of a deed
--     Follows added old new      new marks take into account what is added
--     found deed d token one      an external declaration does the deed, at its declarators or parameters or at a node in it
use Rattle.std.specs.Prelude.{◌≡◌, ℕ, Bool, true, false, ◌&&◌, ◌||◌, not, nat_le, nat_lt, List, Option, Some, None, unwrap_or, slice_get}
use Rattle.std.specs.List.{list_any}
use Rattle.dm_token.specs.declared.place.Span.{Span}
use Rattle.dm_tree.specs.Trees.{Tree}
use Rattle.dm_tree.specs.Units.{External, ExternalForm}
use Rattle.dm_meaning.specs.Statements.{Local}
use Rattle.dm_effect.specs.Entities.{addresses_here, locals_here, locals_of_form, nodes_of_external}
use Rattle.dm_effect.specs.Safe.{defines_here, has_parameter, initialises_apart}
use Rattle.dm_stable.specs.declared.marks.Mark.{Mark}
use Rattle.dm_stable.specs.declared.marks.Mark.TheVariants.{No, Outside, Yes, Open}
use Rattle.dm_stable.specs.declared.marks.Marks.{Marks}

-- what may be done to an object: its address is taken by its name, a declarator defines it, a declarator initialises it outside of
-- whose initialiser an argument stands, or it is a parameter of a function definition
pub data Deed : Type 0 where
  Addresses : Deed
  Defines : Deed
  Initialises : Deed
  Receives : Deed

-- the token is one of the span
abbrev pub is_within : Span → ℕ → Bool
is_within span token = nat_le span.first token && nat_lt token span.after

-- what a mark says
abbrev pub told_by : Mark → ℕ → Option Bool
told_by No token = Some false
told_by (Outside span) token = Some (not (is_within span token))
told_by Yes token = Some true
told_by Open token = None

-- what it says is right, where the answer is this
abbrev pub Tells : Mark → ℕ → Bool → Type 0
Tells mark token right = (answer : Bool) → told_by mark token ≡ Some answer → answer ≡ right

-- what two marks of one object say together
abbrev pub joined : Mark → Mark → Mark
joined No b = b
joined (Outside span) No = Outside span
joined (Outside span) Yes = Yes
joined (Outside span) b = Open
joined Yes b = Yes
joined Open Yes = Yes
joined Open b = Open

abbrev pub mark_at : List Mark → ℕ → Mark
mark_at marks d = unwrap_or (slice_get marks d) Open

abbrev pub marks_of : Deed → Marks → List Mark
marks_of Addresses marks = marks.addressed.items
marks_of Defines marks = marks.defined.items
marks_of Initialises marks = marks.initialised.items
marks_of Receives marks = marks.received.items

-- a mark for one object is added
abbrev pub Adds : ℕ → Mark → ℕ → ℕ → Bool → Type 0
Adds object mark d token answer = (object ≡ d → Tells mark token answer) × ((object ≡ d → ⊥) → answer ≡ false)

-- what a deed does at a declarator, and at a node
abbrev pub does_local : Deed → ℕ → ℕ → Local → Bool
does_local Addresses d token local = false
does_local Defines d token local = defines_here d local
does_local Initialises d token local = initialises_apart token d local
does_local Receives d token local = false

abbrev pub does_name : Deed → ℕ → Tree → Bool
does_name Addresses d tree = addresses_here d tree
does_name deed d tree = false

abbrev pub does : Deed → ℕ → ℕ → Tree → Bool
does deed d token tree = does_name deed d tree || list_any (does_local deed d token) (locals_here tree)

-- an external declaration itself, and with what is in it
abbrev pub own : Deed → ℕ → ℕ → ExternalForm → Bool
own Receives d token form = has_parameter d form
own deed d token form = list_any (does_local deed d token) (locals_of_form form)

abbrev pub found : Deed → ℕ → ℕ → External → Bool
found deed d token one = own deed d token one.form || list_any (does deed d token) (nodes_of_external one)

-- whatever the old marks allow, the new ones allow with what was added
abbrev pub Follows : (ℕ → ℕ → Bool) → List Mark → List Mark → Type 0
Follows added old new = (d token : ℕ) (answer : Bool) → Tells (mark_at old d) token answer → Tells (mark_at new d) token (answer || added d token)

abbrev pub Notes : Deed → List Tree → List Mark → List Mark → Type 0
Notes deed nodes old new = Follows (λ d token. list_any (does deed d token) nodes) old new
