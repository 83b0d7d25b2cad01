-- Nothing is declared, and no struct is begun.
use Rattle.std.specs.Prelude.{[], length, reverse, refl}
use Rattle.std.proofs.Common.{sym, subst}
use Rattle.std.proofs.lemmas.List.Elements.{All-nil}
use Rattle.dm_tree.specs.declared.unit.Declared.{Declared}
use Rattle.dm_type.specs.Tables.{IsId}
use Rattle.dm_typing.specs.Bounds.{IsBelow, IsUnset, AreBelow, AreOpen}
use Rattle.dm_typing.specs.Fitting.{HaveTypes, IsNumbered, AreNumbered}
use Rattle.dm_enames.proofs.TagStepLemmas.{entered-below}
use Rattle.typing_tests.proofs.scene.nothing.Goals as goal

pub invariant_of-known : goal.invariant_of-known
invariant_of-known c = record {
  entries = subst (HaveTypes c.in_ok-types.types) (sym c.new-3.ensures) (All-nil (λ (entry : Declared). IsId c.in_ok-types.types entry.kind));
  trees = subst (AreNumbered c.in_ok-types.types) (sym c.new-5.ensures) (All-nil (IsNumbered c.in_ok-types.types));
  numbers = subst (AreBelow (length c.new-3.result)) (sym c.in_ok-scopes.ensures)
      (entered-below (length c.new-3.result) [] (All-nil (IsBelow (length c.new-3.result))));
  unfinished = subst (λ begun. AreOpen c.in_ok-types.types (reverse begun)) (sym c.new-4.ensures.items) (All-nil (IsUnset c.in_ok-types.types), refl);
}
