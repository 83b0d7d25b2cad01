-- The premises of the laws, for a unit with a macro that becomes an enumerator.
use Rattle.std.specs.Prelude.{refl, length, List, [], ◌∷◌, Some}
use Rattle.std.specs.Int.Signed.{le_z_yes}
use Rattle.std.specs.List.{IsDistinct}
use Rattle.std.proofs.Common.{arith, ap, inr}
use Rattle.std.proofs.lemmas.List.Elements.{All-nil, All-from_recursion}
use Rattle.dm_type.specs.Tables.{no_type}
use Rattle.dm_tree.specs.Scenes.{IsConstant}
use Rattle.dm_tree.specs.Trees.{Tree}
use Rattle.dm_tree.specs.Typing.{IsEntry, ExternalFits, IsWellTyped, IsWellTypedUnit, file_scene}
use Rattle.dm_tree.specs.Units.{External}
use Rattle.dm_align.specs.Examples.{run_of_two, two_old, two_new, two_put}
use Rattle.dm_align.specs.Units.{AreAligned}
use Rattle.dm_refine.proofs.ExampleLemmas.{one_statement}

-- the value of the first enumerator
abbrev first_constants : List External → List Tree
first_constants [] = []
first_constants (external ∷ externals) = external.constants

pub old_typed : IsWellTypedUnit no_type two_old
unfolding IsDistinct
old_typed = record {
  entries = All-from_recursion IsEntry two_old.declared ((refl, refl), tt);
  externals = All-from_recursion (ExternalFits (file_scene no_type two_old.declared)) two_old.externals (
    (
      All-nil _,
      All-nil _,
      (
        (
          refl,
          (
            tt,
            refl,
            (
              (one_statement _ refl, refl),
              (
                (
                  ((refl, refl, refl), refl),
                  (((refl, refl, (refl, refl, inr refl, refl)), (((refl, (le_z_yes tt, le_z_yes tt)), tt), (((refl, (le_z_yes tt, le_z_yes tt)), tt), tt))), tt),
                ),
                tt,
              ),
            ),
          ),
          λ e. absurd (omega (arith, ap length e)),
        ),
        refl,
      ),
    ),
    tt,
  );
  once = (tt, tt);
}

pub new_typed : IsWellTypedUnit no_type two_new
unfolding IsDistinct
new_typed = record {
  entries = All-from_recursion IsEntry two_new.declared ((refl, (le_z_yes tt, le_z_yes tt), refl), ((refl, refl), tt));
  externals = All-from_recursion (ExternalFits (file_scene no_type two_new.declared)) two_new.externals (
    (
      All-from_recursion (IsWellTyped (file_scene no_type two_new.declared)) (first_constants two_new.externals) (((refl, refl, (refl, refl, inr refl, refl)), (((refl, (le_z_yes tt, le_z_yes tt)), tt), (((refl, (le_z_yes tt, le_z_yes tt)), tt), tt))), tt),
      All-from_recursion (IsConstant (file_scene no_type two_new.declared)) (first_constants two_new.externals) ((refl, refl), tt),
      (All-nil _, refl),
    ),
    (
      (
        All-nil _,
        All-nil _,
        (
          (
            refl,
            (
              tt,
              refl,
              (
                (one_statement _ refl, refl),
                ((((refl, refl, refl), refl), ((((refl, refl), refl), tt), tt)), tt),
              ),
            ),
            λ e. absurd (omega (arith, ap length e)),
          ),
          refl,
        ),
      ),
      tt,
    ),
  );
  once = (tt, tt);
}

pub two_aligned : AreAligned no_type no_type two_old two_new (run_of_two ∷ []) (Some (two_put 2))
two_aligned = record {
  structs = refl;
  added = (refl, ((omega arith, omega arith), (refl, refl)));
  declared = refl;
  externals = ((tt, (refl, refl, ((refl, refl), ((((refl, refl), ((refl, refl, refl, refl), tt)), tt))))), tt);
  placed = ((refl, tt), tt);
}
