-- The premises of the law, for a unit with a macro that becomes a const object.
use Rattle.std.specs.Prelude.{refl, length, List, [], ◌∷◌}
use Rattle.std.specs.Int.Signed.{le_z_yes}
use Rattle.std.specs.List.{IsDistinct}
use Rattle.std.proofs.Common.{arith, ap, inl}
use Rattle.std.proofs.lemmas.List.Elements.{All-nil, All-from_recursion}
use Rattle.dm_type.specs.Tables.{no_type}
use Rattle.dm_tree.specs.Trees.{Tree}
use Rattle.dm_tree.specs.Typing.{IsEntry, ExternalFits, IsWellTyped, IsWellTypedUnit, file_scene}
use Rattle.dm_tree.specs.Units.{External, ExternalForm, declares, defines_function}
use Rattle.dm_align.specs.Examples.{ten_old, ten_new}
use Rattle.dm_refine.proofs.ExampleLemmas.{one_statement}

-- the expressions of the first initialisers
abbrev initial_trees : ExternalForm → List Tree
initial_trees (declares declarators trees) = trees
initial_trees (defines_function f parameters body) = []

abbrev first_initial : List External → List Tree
first_initial [] = []
first_initial (external ∷ externals) = initial_trees external.form

pub old_typed : IsWellTypedUnit no_type ten_old
unfolding IsDistinct
old_typed = record {
  entries = All-from_recursion IsEntry ten_old.declared ((refl, refl), tt);
  externals = All-from_recursion (ExternalFits (file_scene no_type ten_old.declared)) ten_old.externals (
    (
      All-nil _,
      All-nil _,
      (
        (
          refl,
          (
            tt,
            refl,
            (
              (one_statement _ refl, refl),
              ((((refl, refl, refl), refl), (((refl, (le_z_yes tt, le_z_yes tt)), tt), tt)), tt),
            ),
          ),
          λ e. absurd (omega (arith, ap length e)),
        ),
        refl,
      ),
    ),
    tt,
  );
  once = (tt, tt);
}

pub new_typed : IsWellTypedUnit no_type ten_new
unfolding IsDistinct
new_typed = record {
  entries = All-from_recursion IsEntry ten_new.declared ((refl, λ linked. refl), ((refl, refl), tt));
  externals = All-from_recursion (ExternalFits (file_scene no_type ten_new.declared)) ten_new.externals (
    (
      All-nil _,
      All-nil _,
      (
        All-from_recursion (IsWellTyped (file_scene no_type ten_new.declared)) (first_initial ten_new.externals) (((refl, (le_z_yes tt, le_z_yes tt)), tt), tt),
        ((((λ defines. (refl, refl)), (refl, ((refl, refl, refl, λ fixed. inl refl), tt), refl)), refl), refl),
      ),
    ),
    (
      (
        All-nil _,
        All-nil _,
        (
          (
            refl,
            (
              tt,
              refl,
              (
                (one_statement _ refl, refl),
                ((((refl, refl, refl), refl), (((refl, refl, refl), (((refl, refl), tt), tt)), tt)), tt),
              ),
            ),
            λ e. absurd (omega (arith, ap length e)),
          ),
          refl,
        ),
      ),
      tt,
    ),
  );
  once = (tt, tt);
}
