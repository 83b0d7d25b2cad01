-- The declaration has the next number.
use Rattle.std.specs.Prelude.{List, length}
use Rattle.std.proofs.Common.{ap, sym, subst, ◌∙◌}
use Rattle.std.proofs.lemmas.List.Elements.{All-push}
use Rattle.dm_type.specs.Tables.{IsId}
use Rattle.dm_scope.specs.Scopes.{declared}
use Rattle.dm_tree.specs.declared.unit.Declared.{Declared}
use Rattle.dm_typing.specs.Bounds.{AreBelow}
use Rattle.dm_typing.specs.Fitting.{HaveTypes}
use Rattle.dm_enames.proofs.TagStepLemmas.{declared-anyway}
use Rattle.dm_enames.proofs.tags.declare.Goals as goal

pub invariant_of-known-2 : goal.invariant_of-known-2
invariant_of-known-2 c =
    let old = c.args.known.now in
    let pushed = c.in_ok-push.ensures.ok in record {
      entries = subst (HaveTypes old.types) (sym pushed) (All-push (λ (entry : Declared). IsId old.types entry.kind) old.declared c.args.entry old.entries c.requires.kind);
      trees = old.trees;
      numbers = subst (λ (entries : List Declared). AreBelow (length entries) c.declare.new.self) (sym pushed)
          (declared-anyway c.declare.result old.declared c.args.entry old.scopes c.declare.new.self c.args.key.now old.numbers
          (λ ok. c.declare.ensures.declared ok ∙ ap (declared old.scopes c.args.key.now) c.len-number.ensures) c.declare.ensures.twice c.declare.ensures.err);
      unfinished = old.unfinished;
    }
