-- The macros that are defined at a point of a translation unit (6.10.3p8, 6.10.3.5).
--     Table      every definition read so far, in order, and by each name that is defined now its definition's number
--     defined table name      the definition that a name has now
--     recorded table definition      the table after a definition
--     undefined table name      the table after the name is undefined
--     Defines before line origin plain after      what a `define` directive does
--     Refuses before line origin plain stop      and why it is refused
use Rattle.std.specs.Prelude.{refl, ◌<◌, ◌≡◌, ℕ, Bool, List, [], ◌∷◌, ◌++◌, length, slice_get, Some, ◌⊎◌, Option, None, Some, IfSome, IsSomeAnd, option_and_then, if◌then◌else◌}
use Rattle.std.specs.Coded.{Coded, code_by, coded×, coded_ℕ, coded_list}
use Rattle.std.specs.FinMap as map
use Rattle.dm_name_map.specs.Numbers.{Numbers}
use Rattle.dm_token.specs.Refusals as refusals
use Rattle.dm_token.specs.declared.stop.Stop.{Stop}
use Rattle.dm_token.specs.declared.stop.Stop.TheVariants.{Memory}
use Rattle.dm_token.specs.declared.token.PpToken.{PpToken}
use Rattle.dm_token.specs.declared.expansion.Origin.{Origin}
use Rattle.dm_token.specs.declared.expansion.Definition.{Definition}
use Rattle.dm_token.specs.contracts.expansion.Definition.{the_row}
use Rattle.dm_macro.specs.Forms.{Gives, bare_hash, AreSame, refused}

-- every definition read so far, in order, and for each name that is defined now the number of its definition, which is
-- its position among them
pub record Table : Type 0 where
  pub read : List Definition
  pub names : Numbers

-- a table is stored as the pair of its parts
abbrev pub table_code : Coded Table
table_code =
    code_by (List Definition × Numbers) (coded× (coded_list the_row.coded) (map.code (coded_list coded_ℕ) coded_ℕ))
    (λ table. (table.read, table.names)) (λ parts. record { read = parts.0; names = parts.1 }) (λ _. refl)

-- the table of a list and a map
abbrev pub table_of : List Definition → Numbers → Table
table_of read names = record { read = read; names = names }

-- the number of the definition that a name has now
abbrev pub number_of : Table → List ℕ → Option ℕ
number_of table name = map.get table.names name

-- the definition that a name has now
abbrev pub defined : Table → List ℕ → Option Definition
defined table name = option_and_then (slice_get table.read) (number_of table name)

-- Each name's number is that of a definition of this name.
abbrev pub IsSound : Table → Type 0
IsSound table =
    (name : List ℕ) (number : ℕ) → number_of table name ≡ Some number
    → (number < length table.read) × IsSomeAnd (slice_get table.read number) (λ definition. definition.name ≡ name)

-- the map after a name is given a number, which it takes only where it has none
abbrev pub with_name : Numbers → List ℕ → ℕ → Numbers
with_name names name number = if map.contains_key names name then names else map.insert names name number

-- The table after a definition: it is the last one read, and its name has it unless the name is already defined.
abbrev pub recorded : Table → Definition → Table
recorded table definition =
    record { read = table.read ++ definition ∷ []; names = with_name table.names definition.name (length table.read) }

-- The table after a name is undefined (6.10.3.5p2).
abbrev pub undefined : Table → List ℕ → Table
undefined table name = record table { names = map.remove table.names name }

-- A name that is already defined keeps its meaning (6.10.3p2).
abbrev pub KeepsMeaning : Table → Definition → Type 0
KeepsMeaning table definition = IfSome (defined table definition.name) (λ earlier. AreSame earlier definition)

-- It doesn't.
abbrev pub ChangesMeaning : Table → Definition → Type 0
ChangesMeaning table definition = IsSomeAnd (defined table definition.name) (λ earlier. ¬ AreSame earlier definition)

-- A `define` directive is allowed, and this is the table after it.
abbrev pub Defines : Table → List PpToken → Origin → Bool → Table → Type 0
Defines before line origin plain after =
    (definition : Definition) × Gives line origin plain definition × (bare_hash definition ≡ None)
    × KeepsMeaning before definition × (after ≡ recorded before definition)

-- The line isn't allowed: refused as 5 at its `#`.
abbrev pub IsMisformed : List PpToken → Origin → Bool → Stop → Type 0
IsMisformed line origin plain stop =
    ((definition : Definition) → ¬ Gives line origin plain definition)
    × IsSomeAnd (slice_get line 0) (λ hash. stop ≡ refused refusals.form hash.place)

-- The line is allowed, and a `#` of its body lacks its parameter: refused as 11 at the first such `#`.
abbrev pub HasBareHash : List PpToken → Origin → Bool → Stop → Type 0
HasBareHash line origin plain stop =
    (definition : Definition) × Gives line origin plain definition
    × IsSomeAnd (bare_hash definition) (λ operator. stop ≡ refused refusals.hash_operand operator.place)

-- The line is allowed, and its name is already defined as another macro: refused as 12 at the second name.
abbrev pub Redefines : Table → List PpToken → Origin → Bool → Stop → Type 0
Redefines before line origin plain stop =
    (definition : Definition) × Gives line origin plain definition × (bare_hash definition ≡ None)
    × ChangesMeaning before definition × (stop ≡ refused refusals.redefinition definition.place)

-- This is why no definition can be read from a line. Only want of memory has no cause.
abbrev pub RefusesForm : List PpToken → Origin → Bool → Stop → Type 0
RefusesForm line origin plain stop = (stop ≡ Memory) ⊎ IsMisformed line origin plain stop

-- This is why a `define` directive stops. Only want of memory has no cause.
abbrev pub Refuses : Table → List PpToken → Origin → Bool → Stop → Type 0
Refuses before line origin plain stop =
    (stop ≡ Memory) ⊎ (IsMisformed line origin plain stop ⊎ (HasBareHash line origin plain stop ⊎ Redefines before line origin plain stop))
