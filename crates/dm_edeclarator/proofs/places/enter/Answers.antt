-- The scopes are below the count of declarations, whether there is one more or not.
use Rattle.std.specs.Prelude.{◌∷◌, length}
use Rattle.std.specs.FinMap as finite
use Rattle.dm_typing.specs.Bounds.{AreBelow}
use Rattle.dm_enames.proofs.TagStepLemmas.{entered-below}
use Rattle.dm_edeclarator.proofs.FitLemmas.{anyway}
use Rattle.dm_edeclarator.proofs.places.enter.Goals as goal

pub invariant_of-known : goal.invariant_of-known
invariant_of-known c =
    let held = c.args.known.now in record {
      entries = held.entries;
      trees = held.trees;
      numbers = anyway (AreBelow (length held.declared)) c.enter.result c.enter.new.self (finite.empty ∷ held.scopes) held.scopes c.enter.ensures.ok c.enter.ensures.err
          (entered-below (length held.declared) held.scopes held.numbers) held.numbers;
      unfinished = held.unfinished;
    }
