-- The entries have types of the table, and are as many.
use Rattle.std.specs.Prelude.{◌++◌, length, take, drop}
use Rattle.std.proofs.Common.{sym, ap, ◌∙◌, subst}
use Rattle.dm_type.specs.Tables.{IsId}
use Rattle.dm_typing.specs.Bounds.{AreBelow}
use Rattle.dm_typing.specs.Fitting.{HaveTypes}
use Rattle.dm_enames.proofs.TagStepLemmas.{left-below}
use Rattle.dm_estanding.specs.declared.standing.Retyped.{Retyped}
use Rattle.dm_estanding.specs.Undoing.{undone}
use Rattle.dm_estanding.proofs.ScopeLemmas.{all-drop, types-behind, length-behind}
use Rattle.dm_estanding.proofs.scopes.leave.Goals as goal

pub invariant_of-known : goal.invariant_of-known
invariant_of-known c =
    let old = c.args.known.now in
    let count = c.args.mark.declared in
    let changes = drop c.args.mark.retyped c.args.retyped.now.items in
    let inside = c.replace-inside.ensures.value in
    let left = c.undo.ensures.entries ∙ ap (λ entries. take count (undone changes entries) ++ drop count entries) inside in
    let were = all-drop (λ (change : Retyped). IsId old.types change.kind) c.args.mark.retyped c.args.retyped.now.items c.requires.before in record {
      entries = subst (HaveTypes old.types) (sym left) (types-behind old.types count changes old.declared were old.entries);
      trees = old.trees;
      numbers = subst (AreBelow (length c.undo.result)) (sym c.leave.ensures)
          (left-below (length c.undo.result) old.scopes (subst (λ n. AreBelow n old.scopes) (sym (ap length left ∙ length-behind count changes old.declared)) old.numbers));
      unfinished = old.unfinished;
    }
