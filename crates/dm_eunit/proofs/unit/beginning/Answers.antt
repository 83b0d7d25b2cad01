-- There is nothing yet.
use Rattle.std.specs.Prelude.{[], ◌∷◌, length, reverse, refl}
use Rattle.std.specs.Cmp.Lexicographic.{slice_cmp}
use Rattle.std.specs.FinMap as finite
use Rattle.std.specs.Ordering.{nat_cmp}
use Rattle.std.proofs.Common.{sym, ◌∙◌, subst}
use Rattle.std.proofs.lemmas.List.Elements.{All-nil, All-cons}
use Rattle.dm_type.specs.Tables.{IsId, no_type}
use Rattle.dm_tree.specs.declared.unit.Declared.{Declared}
use Rattle.dm_typing.specs.Bounds.{IsBelow, IsUnset, AreBelow, AreOpen}
use Rattle.dm_typing.specs.Fitting.{HaveTypes, IsNumbered, AreNumbered}
use Rattle.dm_eexpr.proofs.AloneLemmas.{known-first}
use Rattle.dm_eunit.proofs.unit.beginning.Goals as goal

pub invariant_of-known : goal.invariant_of-known
invariant_of-known c =
    let types = c.in_ok-types.types in record {
      entries = subst (HaveTypes types) (sym c.new-4.ensures) (All-nil (λ (entry : Declared). IsId types entry.kind));
      trees = subst (AreNumbered types) (sym c.new-6.ensures) (All-nil (IsNumbered types));
      numbers = subst (AreBelow (length c.new-4.result)) (sym c.in_ok-scopes.ensures)
          (All-cons (IsBelow (length c.new-4.result)) finite.empty [] (λ name number h. absurd (let f = sym (finite.get-empty (slice_cmp nat_cmp) name) ∙ h in cc)) (All-nil (IsBelow (length c.new-4.result))));
      unfinished = subst (λ begun. AreOpen types (reverse begun)) (sym c.new-5.ensures.items) (All-nil (IsUnset types), refl);
    }

pub returns : goal.returns
returns c = λ later. record {
  known = sym (known-first later c.in_ok-types.types no_type c.in_ok-scopes.scopes (finite.empty ∷ []) c.new-4.result [] c.new-5.result.items c.new-6.result c.in_ok-types.ensures c.in_ok-scopes.ensures
      c.new-4.ensures c.new-5.ensures.items c.new-6.ensures);
  links = c.in_ok-links.ensures.summary later [];
}
