-- What is known at a place of a translation unit, and what the typing of a part of it comes to.
--     Known      types, scopes and declarations so far
--     Outcome A      something typed, with what is known behind it; or the first typing rule that is broken
--     after outcome next      what follows is typed with what is known then
use Rattle.std.specs.Prelude.{ℕ, Bool, true, false, List, [], ◌∷◌, ◌++◌, Option, Some, None, length, slice_get, option_and_then}
use Rattle.dm_token.specs.declared.place.Place.{Place}
use Rattle.dm_token.specs.declared.token.CToken.{CToken}
use Rattle.dm_type.specs.CTypes.{CType}
use Rattle.dm_type.specs.Tables.{Table}
use Rattle.dm_scope.specs.Scopes.{Scopes, number_of, declared as declared_in}
use Rattle.dm_syn.specs.Sources.{Source}
use Rattle.dm_tree.specs.declared.unit.Sort.TheVariants.{Tag}
use Rattle.dm_tree.specs.declared.unit.Linkage.TheVariants.{Absent}
use Rattle.dm_tree.specs.Trees.{Tree}
use Rattle.dm_tree.specs.Units.{Declaration}

-- what is known at a place
pub record Known : Type 0 where
  -- a number for each type, and the structs so far. The shapes are those of the whole unit from its beginning on
  pub types : Table
  -- the scopes that are open
  pub scopes : Scopes
  -- the declarations so far
  pub declared : List Declaration
  -- the structs whose members are being read
  pub begun : List ℕ
  -- the array lengths and enumerator values so far of the type name or declaration that is being read
  pub constants : List Tree

-- what doesn't change while a unit is read: its tokens, and which names it defines no function of
pub record Setting : Type 0 where
  pub source : Source
  pub lacks : List ℕ → Bool

-- something typed, and what is known behind it; or the rule that is broken first, and the position of the token at which it is
pub data Outcome (A : Type 0) : Type 0 where
  given : Known → A → Outcome A
  broken : ℕ → ℕ → Outcome A

-- what follows is typed with what is known then
abbrev pub after : {A B : Type 0} → Outcome A → (Known → A → Outcome B) → Outcome B
after (given known it) next = next known it
after (broken rule at) next = broken rule at

-- the same where nothing more becomes known
abbrev pub with_it : {A B : Type 0} → Outcome A → (Known → A → B) → Outcome B
with_it (given known it) made = given known (made known it)
with_it (broken rule at) made = broken rule at

-- a rule holds, or it is broken at this token
abbrev pub obeys : {A : Type 0} → Bool → ℕ → ℕ → Outcome A → Outcome A
obeys true rule at next = next
obeys false rule at next = broken rule at

-- what a rule gives, or it is broken at this token
abbrev pub if_given : {A B : Type 0} → Option A → ℕ → ℕ → (A → Outcome B) → Outcome B
if_given (Some it) rule at next = next it
if_given None rule at next = broken rule at

-- the place of a token
abbrev pub place_of_token : Option CToken → Place
place_of_token None = record { file = 0; byte = 0; line = 0; column = 0 }
place_of_token (Some token) = token.place

abbrev pub place_at : Source → ℕ → Place
place_at source at = place_of_token (slice_get source.tokens at)

-- the declaration that a name means, if there is one (6.2.1)
abbrev pub meaning_of : Known → List ℕ → Option Declaration
meaning_of known name = option_and_then (slice_get known.declared) (number_of known.scopes name)

-- one declaration more, which its name means from here on
abbrev pub declaring : Known → List ℕ → Declaration → Known
declaring known name entry = record known {
  declared = known.declared ++ entry ∷ [];
  scopes = declared_in known.scopes name (length known.declared);
}

-- a tag stands in the scopes under its spelling with `#` before it, since tags have a name space of their own (6.2.3)
abbrev pub tag_key : List ℕ → List ℕ
tag_key name = 35 ∷ name

-- the entry of a tag
abbrev pub tag_entry : List ℕ → CType → Place → Declaration
tag_entry name type place = record { name = name; sort = Tag; kind = type; linkage = Absent; place = place }
