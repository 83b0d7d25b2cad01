-- What objects of static storage duration stand for.
--     view_of_static table one      the object with its initialiser
--     StaticFits source one      what a run needs of it
--     AreStatics source statics      those of a unit
use Rattle.std.specs.Prelude.{◌≡◌, ℕ, List, [], map, length, All, Option, Some, None, IfSome, IsSome, IsTrue}
use Rattle.std.proofs.Common.{Bor}
use Rattle.dm_type.specs.Tables.{Table}
use Rattle.dm_tree.specs.declared.tree.Initial.{Initial}
use Rattle.dm_meaning.specs.Programs as programs
use Rattle.dm_meaning.specs.Programs.{declaration_of}
use Rattle.dm_meaning.specs.Wholes.{IsWholeInitial}
use Rattle.dm_program.specs.Initials.{are_known_in_initial, view_of_initial}
use Rattle.dm_program.specs.Sources.{Source, meant}
use Rattle.dm_program.specs.declared.fixed.Static.{Static}

abbrev pub static_of : Table → ℕ → Option (Bor Initial) → programs.Static
static_of table declared None = record { declared = declared; initialiser = None; expressions = [] }
static_of table declared (Some initial) = record {
  declared = declared;
  initialiser = Some (view_of_initial table initial.now).initialiser;
  expressions = (view_of_initial table initial.now).expressions;
}

abbrev pub view_of_static : Table → Static → programs.Static
view_of_static table one = static_of table one.declared one.initial

-- the types in its initialiser are known, the expressions in it hold no statements, and its declaration is known
pub record StaticFits (source : Source) (one : Static) : Type 0 where
  pub known : IfSome one.initial (λ initial. IsTrue (are_known_in_initial (length source.table.shapes) initial.now))
  pub whole : IfSome one.initial (λ initial. IsWholeInitial initial.now)
  pub declared : IsSome (declaration_of (meant source) one.declared)

-- those of a unit, in order
pub record AreStatics (source : Source) (statics : List Static) : Type 0 where
  pub same : map (view_of_static source.table) statics ≡ (meant source).statics
  pub fit : All (StaticFits source) statics
