-- Its mark says it, or it is looked for.
use Rattle.std.proofs.Common.{◌≡◌, ℕ, List, Some, ap, sym, subst, ◌∙◌}
use Rattle.std.specs.List.{list_any}
use Rattle.dm_tree.specs.declared.tree.Core.{out-Core}
use Rattle.dm_tree.specs.declared.unit.CoreUnit.{CoreUnit}
use Rattle.dm_tree.specs.Trees.{Tree, spans_of}
use Rattle.dm_tree.specs.Views.{view, view_of_unit}
use Rattle.dm_tree.proofs.ViewLemmas.{view-core}
use Rattle.dm_effect.specs.Safe.{is_initialised}
use Rattle.dm_stable.specs.declared.marks.Mark.{Mark}
use Rattle.dm_stable.specs.Marks.{Initialises, found, mark_at, told_by}
use Rattle.dm_stable.proofs.ObjectLemmas.{initialisers-noted}
use Rattle.dm_stable.proofs.objects.Objects.is_initialised.Goals as goal

pub returns-in-Some : goal.returns-in-Some
returns-in-Some c types =
    let d : ℕ = c.args.object in
    let token : ℕ = (out-Core c.args.argument.now).inner.first in
    let argument : Tree = view types c.args.argument.now in
    let one = view_of_unit types c.self.inside.unit.now in
    let first : token ≡ (spans_of argument).inner.first = sym (ap (λ (tree : Tree). (spans_of tree).inner.first) (view-core types c.args.argument.now)) in
    let told : told_by (mark_at c.self.inside.marks.initialised.items d) token ≡ Some c.in-Some.answer =
    sym (c.in-Some.ensures ∙ ap (λ (mark : Mark). told_by mark token) (c.mark_of.ensures ∙ ap (λ (marks : List Mark). mark_at marks d) c.as_slice.ensures.value)) in
    subst (λ (unit : CoreUnit). c.in-Some.answer ≡ is_initialised (view_of_unit types unit) argument d) c.self.view_is
    (c.self.invariant Initialises types d token c.in-Some.answer told
    ∙ (ap (λ (n : ℕ). list_any (found Initialises d n) one.externals) first ∙ initialisers-noted types one argument d))

pub returns-in-None : goal.returns-in-None
returns-in-None c types = subst (λ (unit : CoreUnit). c.is_initialised.result ≡ is_initialised (view_of_unit types unit) (view types c.args.argument.now) c.args.object) c.self.view_is (c.is_initialised.ensures types)
