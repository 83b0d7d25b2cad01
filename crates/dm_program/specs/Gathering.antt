-- Objects of static storage duration that declarators define, found one after another.
--     IsAdded old one new      what one definition of an object adds
--     Gathers old known locals new      what declarators add
--     AreGathered unit left gathering      what was found before the external declarations that are left
use Rattle.std.specs.Prelude.{◌≡◌, ℕ, ◌<◌, Bool, true, List, [], length, map, Option, Some, None, IfSome, IsTrue}
use Rattle.std.specs.List.{All, list_all}
use Rattle.std.proofs.Common.{Bor}
use Rattle.dm_type.specs.Tables.{Table}
use Rattle.dm_tree.specs.declared.tree.Initial.{Initial}
use Rattle.dm_tree.specs.declared.unit.CoreExternal.{CoreExternal}
use Rattle.dm_tree.specs.declared.unit.CoreUnit.{CoreUnit}
use Rattle.dm_tree.specs.Trees.{Tree, listed, trees}
use Rattle.dm_tree.specs.TypeNumbers.{external_has_known}
use Rattle.dm_tree.specs.Views.{Opened, OpenedLocal, entries_of, view_of_external}
use Rattle.dm_meaning.specs.Programs as programs
use Rattle.dm_meaning.specs.Statements.{Local}
use Rattle.dm_meaning.specs.Units.{all_locals, locals_by, locals_in_all, statics_from, with_static}
use Rattle.dm_program.specs.Initials.{are_known_in_initial}
use Rattle.dm_program.specs.Statics.{view_of_static}
use Rattle.dm_program.specs.declared.fixed.Static.{Static}
use Rattle.dm_program.specs.declared.gathering.Gathering.{Gathering}

-- a declarator with its expressions, as the machine has it
abbrev pub as_local : OpenedLocal → Local
as_local one = record { declarator = one.declarator; expressions = one.expressions }

-- the types in its initialiser have numbers below n, and its declaration stands among so many
abbrev pub IsStaticKnown : ℕ → ℕ → Static → Type 0
IsStaticKnown n count one = (one.declared < count) × IfSome one.initial (λ initial. IsTrue (are_known_in_initial n initial.now))

abbrev pub seen : Table → Gathering → List programs.Static
seen table gathering = map (view_of_static table) gathering.statics.items

-- a declarator that defines the object with that initialiser
abbrev pub local_from : programs.Static → Local
local_from static = record { declarator = record { declared = static.declared; defines = true; initialiser = static.initialiser }; expressions = static.expressions }

-- the object with another initialiser, if there is one
abbrev pub completed : Static → Option (Bor Initial) → Static
completed one None = one
completed one (Some initial) = record { declared = one.declared; initial = Some initial }

-- What one definition of an object adds.
pub record IsAdded (old : Gathering) (one : Static) (new : Gathering) : Type 0 where
  pub declared : new.declared.now ≡ old.declared.now
  pub same : (table : Table) → seen table new ≡ with_static (local_from (view_of_static table one)) (seen table old)
  pub fit : (n count : ℕ) → IsStaticKnown n count one → All (IsStaticKnown n count) old.statics.items → All (IsStaticKnown n count) new.statics.items

-- What declarators with these expressions add, where a test says which numbers of types are known in them.
pub record Gathers (old : Gathering) (known : ℕ → Bool) (locals : Table → List Local) (new : Gathering) : Type 0 where
  pub declared : new.declared.now ≡ old.declared.now
  pub same : (table : Table) → seen table new ≡ statics_from (entries_of table old.declared.now) (locals table) (seen table old)
  pub fit : (n : ℕ) → known n ≡ true → All (IsStaticKnown n (length old.declared.now)) old.statics.items → All (IsStaticKnown n (length old.declared.now)) new.statics.items

-- ---- declarators in trees

-- those in the parts of a form
abbrev pub form_locals : Opened → List Local
form_locals one = locals_by one.label (listed (trees one.parts)) (locals_in_all (trees one.parts))

abbrev pub locals_in_list : List Tree → List Local
locals_in_list all = locals_in_all (trees all)

-- What was found so far and what the external declarations that are left define is what all define.
pub record AreGathered (unit : CoreUnit) (left : List CoreExternal) (gathering : Gathering) : Type 0 where
  pub declared : gathering.declared.now ≡ unit.declared
  pub same : (table : Table) → statics_from (entries_of table unit.declared) (all_locals (map (view_of_external table) left)) (seen table gathering)
      ≡ statics_from (entries_of table unit.declared) (all_locals (map (view_of_external table) unit.externals)) []
  pub fit : (n : ℕ) → list_all (external_has_known n) unit.externals ≡ true → (list_all (external_has_known n) left ≡ true) × All (IsStaticKnown n (length unit.declared)) gathering.statics.items
