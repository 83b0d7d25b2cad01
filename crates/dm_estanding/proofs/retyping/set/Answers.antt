-- The entries have types of the table, and are as many.
use Rattle.std.specs.Prelude.{length}
use Rattle.std.proofs.Common.{sym, ap, ◌∙◌, subst}
use Rattle.dm_typing.specs.Bounds.{AreBelow}
use Rattle.dm_typing.specs.Fitting.{HaveTypes}
use Rattle.dm_estanding.specs.Undoing.{set_kind}
use Rattle.dm_estanding.proofs.ScopeLemmas.{types-set}
use Rattle.dm_estanding.proofs.UndoLemmas.{length-set}
use Rattle.dm_estanding.proofs.retyping.set.Goals as goal

pub invariant_of-known : goal.invariant_of-known
invariant_of-known c =
    let old = c.args.known.now in
    let now = c.with_kind.ensures ∙ ap (set_kind c.args.number c.args.kind) c.replace-entries.ensures.value in record {
      entries = subst (HaveTypes old.types) (sym now) (types-set old.types c.args.number c.args.kind old.declared c.requires old.entries);
      trees = old.trees;
      numbers = subst (λ n. AreBelow n old.scopes) (sym (ap length now ∙ length-set c.args.number c.args.kind old.declared)) old.numbers;
      unfinished = old.unfinished;
    }
