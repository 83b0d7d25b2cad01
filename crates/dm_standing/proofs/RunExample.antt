-- The unit of the example is well typed.
use Rattle.std.specs.Prelude.{refl, length}
use Rattle.std.specs.List.{IsDistinct}
use Rattle.std.proofs.Common.{arith, ap}
use Rattle.std.proofs.lemmas.List.Elements.{All-nil, All-from_recursion}
use Rattle.dm_type.specs.Tables.{no_type}
use Rattle.dm_tree.specs.Typing.{IsEntry, ExternalFits, IsWellTypedUnit, file_scene}
use Rattle.dm_refine.proofs.ExampleLemmas.{one_statement}
use Rattle.dm_standing.specs.Examples.{old}

pub old_typed : IsWellTypedUnit no_type old
unfolding IsDistinct
old_typed = record {
  entries = All-from_recursion IsEntry old.declared ((refl, λ linked. refl), ((refl, refl), tt));
  externals = All-from_recursion (ExternalFits (file_scene no_type old.declared)) old.externals (
    (All-nil _, All-nil _, (All-nil _, ((((λ defines. (refl, refl)), refl), refl), refl))),
    (
      (
        All-nil _,
        All-nil _,
        (
          (
            refl,
            (
              tt,
              refl,
              (
                (one_statement _ refl, refl),
                ((((refl, refl, refl), refl), (((refl, refl, refl), (((refl, refl), tt), tt)), tt)), tt),
              ),
            ),
            λ e. absurd (omega (arith, ap length e)),
          ),
          refl,
        ),
      ),
      tt,
    ),
  );
  once = (tt, tt);
}
