-- The trees stay numbered, whether there is one more or not.
use Rattle.std.specs.Prelude.{[], ◌∷◌, ◌++◌}
use Rattle.std.proofs.lemmas.List.Elements.{All-push}
use Rattle.dm_typing.specs.Fitting.{IsNumbered, AreNumbered}
use Rattle.dm_edeclarator.proofs.FitLemmas.{anyway}
use Rattle.dm_edeclarator.proofs.places.add_constant.Goals as goal

pub invariant_of-known : goal.invariant_of-known
invariant_of-known c =
    let held = c.args.known.now in record {
      entries = held.entries;
      trees = anyway (AreNumbered held.types) c.push.result c.push.new.self (held.constants ++ c.args.tree ∷ []) held.constants c.push.ensures.ok c.push.ensures.err
          (All-push (IsNumbered held.types) held.constants c.args.tree held.trees c.requires) held.trees;
      numbers = held.numbers;
      unfinished = held.unfinished;
    }
