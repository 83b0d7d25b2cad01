-- Its mark says it, or it is looked for.
use Rattle.std.proofs.Common.{◌≡◌, ℕ, List, Some, ap, sym, subst, ◌∙◌}
use Rattle.dm_tree.specs.declared.unit.CoreUnit.{CoreUnit}
use Rattle.dm_tree.specs.Views.{view_of_unit}
use Rattle.dm_effect.specs.Entities.{is_addressed}
use Rattle.dm_stable.specs.declared.marks.Mark.{Mark}
use Rattle.dm_stable.specs.Marks.{Addresses, mark_at, told_by}
use Rattle.dm_stable.proofs.ObjectLemmas.{addresses-noted}
use Rattle.dm_stable.proofs.objects.Objects.is_addressed.Goals as goal

pub returns-in-Some : goal.returns-in-Some
returns-in-Some c types =
    let d : ℕ = c.args.object in
    let told : told_by (mark_at c.self.inside.marks.addressed.items d) 0 ≡ Some c.in-Some.answer =
    sym (c.in-Some.ensures ∙ ap (λ (mark : Mark). told_by mark 0) (c.mark_of.ensures ∙ ap (λ (marks : List Mark). mark_at marks d) c.as_slice.ensures.value)) in
    subst (λ (unit : CoreUnit). c.in-Some.answer ≡ is_addressed (view_of_unit types unit) d) c.self.view_is
    (c.self.invariant Addresses types d 0 c.in-Some.answer told ∙ addresses-noted types (view_of_unit types c.self.inside.unit.now) d 0)

pub returns-in-None : goal.returns-in-None
returns-in-None c types = subst (λ (unit : CoreUnit). c.is_addressed.result ≡ is_addressed (view_of_unit types unit) c.args.object) c.self.view_is (c.is_addressed.ensures types)
