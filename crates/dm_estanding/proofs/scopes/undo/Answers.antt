-- The last change is undone first.
use Rattle.std.specs.Prelude.{◌≤◌, ◌++◌, ◌∷◌, [], List, length, take, drop}
use Rattle.std.proofs.Common.{sym, ap, ap₂, ◌∙◌, arith, length-append}
use Rattle.dm_tree.specs.declared.unit.Declared.{Declared}
use Rattle.dm_estanding.specs.declared.standing.Retyped.{Retyped}
use Rattle.dm_estanding.specs.Undoing.{undone}
use Rattle.dm_estanding.proofs.UndoLemmas.{drop-front, take-front, drop-all, take-all, both-parts}
use Rattle.dm_estanding.proofs.scopes.undo.Goals as goal

pub loop-mark-preserved : goal.loop-mark-preserved
loop-mark-preserved c =
    let count = c.args.mark.declared in
    let mark = c.args.mark.retyped in
    let left : List Retyped = c.last_change-change.new.retyped.items in
    let change : Retyped = c.last_change-change.result in
    let is = c.last_change-change.ensures in
    let test = c.loop-mark-test.true in
    let len = c.len.ensures in
    let counted = c.loop-mark.retyped.ok in
    let long = ap length is in
    let longer = length-append left (change ∷ []) in
    let le : mark ≤ length left = omega (arith, test, len, counted, long, longer) in (
      c.undo_one-entries.ensures.entries (drop mark left)
          ∙ ap (λ changes. take count (undone changes c.loop-mark.entries)) (sym (drop-front mark left change le) ∙ ap (drop mark) (sym is))
          ∙ c.loop-mark.invariant.0,
      c.undo_one-entries.ensures.behind ∙ c.loop-mark.invariant.1,
      sym (take-front mark left change le) ∙ ap (take mark) (sym is) ∙ c.loop-mark.invariant.2,
    )

pub returns-clause-entries : goal.returns-clause-entries
returns-clause-entries c =
    let count = c.args.mark.declared in
    let left : List Declared = c.loop-mark.entries in
    let test = c.loop-mark-test.false in
    let len = c.len.ensures in
    let counted = c.loop-mark.retyped.ok in
    let none = drop-all c.args.mark.retyped c.loop-mark.retyped.items (omega (arith, test, len, counted)) in
    sym (both-parts count left)
    ∙ ap₂ (λ a b. a ++ b) (ap (λ changes. take count (undone changes left)) (sym none) ∙ c.loop-mark.invariant.0) c.loop-mark.invariant.1

pub returns-clause-changes : goal.returns-clause-changes
returns-clause-changes c =
    let test = c.loop-mark-test.false in
    let len = c.len.ensures in
    let counted = c.loop-mark.retyped.ok in
    sym (take-all c.args.mark.retyped c.loop-mark.retyped.items (omega (arith, test, len, counted))) ∙ c.loop-mark.invariant.2
