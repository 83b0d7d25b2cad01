-- What is known at a place of a translation unit where declarations may stand, and what the typing of a part of the unit comes to there.
--     Standing      what expressions and type names see, and the declarations so far of what has linkage
--     Progress A      something typed, with what is known behind it; or the first typing rule that is broken
--     further progress next      what follows is typed with what is known then
--     typing standing outcome next      an expression is typed here, and what follows with what is known then
--     collecting standing outcome next      so are specifiers or a declarator, whose lengths and enumerator values are collected
--     in_scope standing next      what is typed next is a scope of its own (6.2.1p4)
use Rattle.std.specs.Prelude.{ℕ, Bool, true, false, List, ◌∷◌, ◌++◌, length, drop}
use Rattle.std.specs.FinMap as map
use Rattle.dm_type.specs.CTypes.{CType}
use Rattle.dm_name_map.specs.Numbers.{Numbers}
use Rattle.dm_tree.specs.Trees.{Tree}
use Rattle.dm_typing.specs.Known.{Known, Outcome, given, broken}

-- a declaration of an object or a function with linkage: the number of its entry, the type that it says, and whether it is a definition,
-- a tentative one apart (6.9.1, 6.9.2)
pub record Linked : Type 0 where
  pub number : ℕ
  pub kind : CType
  pub defines : Bool

-- what is known at a place
pub record Standing : Type 0 where
  -- what expressions and type names see. An entry has the type that its name has here, and no lengths or enumerator values are collected yet
  pub known : Known
  -- the declarations so far of what has linkage, in whatever scope
  pub linked : List Linked

-- something typed, and what is known behind it; or the rule that is broken first, and the position of the token at which it is
pub data Progress (A : Type 0) : Type 0 where
  goes_on : Standing → A → Progress A
  stops : ℕ → ℕ → Progress A

-- what follows is typed with what is known then
abbrev pub further : {A B : Type 0} → Progress A → (Standing → A → Progress B) → Progress B
further (goes_on standing it) next = next standing it
further (stops rule at) next = stops rule at

-- what is known behind a part: its lengths and enumerator values are those of that part alone
abbrev pub knowing : Standing → Known → Standing
knowing standing known = record standing { known = record known { constants = standing.known.constants } }

-- an expression is typed here, and what follows with what is known then
abbrev pub typing : {A B : Type 0} → Standing → Outcome A → (Standing → A → Progress B) → Progress B
typing standing (given known it) next = next (knowing standing known) it
typing standing (broken rule at) next = stops rule at

-- the specifiers of a declaration or one of its declarators are typed here, and what follows with what is known then, and with the trees
-- of their lengths and enumerator values
abbrev pub collecting : {A B : Type 0} → Standing → Outcome A → (Standing → List Tree → A → Progress B) → Progress B
collecting standing (given known it) next = next (knowing standing known) known.constants it
collecting standing (broken rule at) next = stops rule at

-- a rule holds, or it is broken at this token
abbrev pub keeps : {A : Type 0} → Bool → ℕ → ℕ → Progress A → Progress A
keeps true rule at next = next
keeps false rule at next = stops rule at

-- ---- scopes (6.2.1)

-- a new scope, in which nothing is declared yet, and one in which this is
abbrev pub opened : Numbers → Standing → Standing
opened scope standing = record standing { known = record standing.known { scopes = scope ∷ standing.known.scopes } }

-- What is known behind a scope: its names are gone, and what was declared before it has the types of before (6.2.7p4).
abbrev pub known_behind : Known → Known → Known
known_behind outside inside =
    record inside { scopes = outside.scopes; declared = outside.declared ++ drop (length outside.declared) inside.declared }

abbrev pub closed : {A : Type 0} → Standing → Progress A → Progress A
closed outside (goes_on inside it) = goes_on (record inside { known = known_behind outside.known inside.known }) it
closed outside (stops rule at) = stops rule at

-- what is typed next is a scope of its own
abbrev pub in_scope : {A : Type 0} → Standing → (Standing → Progress A) → Progress A
in_scope standing next = closed standing (next (opened map.empty standing))
