-- The program of the example is typed.
use Rattle.std.specs.Prelude.{refl, All, [], ◌∷◌, length}
use Rattle.std.specs.Int.Signed.{le_z_yes}
use Rattle.std.specs.List.{IsDistinct}
use Rattle.std.proofs.Common.{arith, ap}
use Rattle.std.proofs.lemmas.List.Elements.{All-from_recursion, All-nil}
use Rattle.dm_type.specs.Tables.{no_type}
use Rattle.dm_tree.specs.Scenes.{IsStatement}
use Rattle.dm_tree.specs.Trees.{Tree}
use Rattle.dm_tree.specs.Typing.{ExternalFits, IsEntry, IsWellTypedUnit, file_scene}
use Rattle.dm_tree.specs.Units.{Declaration, External}
use Rattle.dm_sound.specs.TypedTrees.{IsProper}
use Rattle.dm_sound.specs.TypedRuns.{IsProperForm, IsProperUnit, IsTypedProgram}
use Rattle.dm_sound.proofs.ExampleLemmas.{table_sound}
use Rattle.dm_sound.proofs.UnitLemmas.{unit_typed}
use Rattle.dm_void.specs.Examples.{program, unit}

one_statement : (tree : Tree) → IsStatement tree → All IsStatement (tree ∷ [])
one_statement tree h = All-from_recursion IsStatement (tree ∷ []) (h, tt)

unit_fits : IsWellTypedUnit no_type unit
unfolding IsDistinct
unit_fits = record {
  entries = All-from_recursion IsEntry unit.declared ((refl, refl), tt);
  externals = All-from_recursion (ExternalFits (file_scene no_type unit.declared)) unit.externals (
    (
      All-nil _,
      All-nil _,
      (
        (
          refl,
          (
            tt,
            refl,
            (
              (one_statement _ refl, refl),
              (((refl, refl), (((refl, tt, All-nil _), (((refl, (le_z_yes tt, le_z_yes tt)), tt), tt)), tt)), tt),
            ),
          ),
          λ e. absurd (omega (arith, ap length e)),
        ),
        refl,
      ),
    ),
    tt,
  );
  once = (tt, tt);
}

unit_proper : IsProperUnit unit
unit_proper = record {
  entries = All-from_recursion (λ (one : Declaration). IsProper one.kind) unit.declared ((tt, tt), tt);
  externals = All-from_recursion (λ (one : External). IsProperForm one.form) unit.externals ((tt, ((tt, ((tt, ((tt, tt), tt)), tt)), tt)), tt);
}

pub program_typed : IsTypedProgram program
program_typed = unit_typed no_type unit table_sound unit_fits unit_proper
