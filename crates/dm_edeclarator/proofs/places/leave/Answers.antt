-- The scopes that are left are below the count of declarations.
use Rattle.std.specs.Prelude.{length}
use Rattle.std.proofs.Common.{sym, subst}
use Rattle.dm_typing.specs.Bounds.{AreBelow}
use Rattle.dm_enames.proofs.TagStepLemmas.{left-below}
use Rattle.dm_edeclarator.proofs.places.leave.Goals as goal

pub invariant_of-known : goal.invariant_of-known
invariant_of-known c =
    let held = c.args.known.now in record {
      entries = held.entries;
      trees = held.trees;
      numbers = subst (AreBelow (length held.declared)) (sym c.leave.ensures) (left-below (length held.declared) held.scopes held.numbers);
      unfinished = held.unfinished;
    }
