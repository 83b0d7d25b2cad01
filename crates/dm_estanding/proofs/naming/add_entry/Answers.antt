-- The entry has the next number.
use Rattle.std.specs.Prelude.{List, not, length, Ok}
use Rattle.std.proofs.Common.{ap, sym, subst, ◌∙◌}
use Rattle.std.proofs.lemmas.List.Elements.{All-push}
use Rattle.dm_type.specs.Tables.{IsId}
use Rattle.dm_scope.specs.Scopes.{declared}
use Rattle.dm_tree.specs.declared.unit.Declared.{Declared}
use Rattle.dm_typing.specs.Bounds.{AreBelow}
use Rattle.dm_typing.specs.Fitting.{HaveTypes}
use Rattle.dm_enames.proofs.TagStepLemmas.{declared-anyway}
use Rattle.dm_estanding.proofs.NameLemmas.{known-added, scopes-kept}
use Rattle.dm_estanding.proofs.naming.add_entry.Goals as goal

pub invariant_of-known-2 : goal.invariant_of-known-2
invariant_of-known-2 c =
    let old = c.args.known.now in
    let pushed = c.in_ok-push.ensures.ok in record {
      entries = subst (HaveTypes old.types) (sym pushed) (All-push (λ (entry : Declared). IsId old.types entry.kind) old.declared c.args.entry old.entries c.requires.kind);
      trees = old.trees;
      numbers = subst (λ (entries : List Declared). AreBelow (length entries) c.declare.new.self) (sym pushed)
          (declared-anyway c.declare.result old.declared c.args.entry old.scopes c.declare.new.self c.args.name.now old.numbers
          (λ ok. c.declare.ensures.declared ok ∙ ap (declared old.scopes c.args.name.now) c.requires.number) c.declare.ensures.twice c.declare.ensures.err);
      unfinished = old.unfinished;
    }

pub returns-clause-known : goal.returns-clause-known
returns-clause-known c = λ later fresh.
    let old = c.args.known.now in
    let named = c.in_ok-_new.ensures.declared (ap Ok (c.in_ok-_new.ensures.new ∙ ap not fresh)) ∙ ap (declared old.scopes c.args.name.now) c.requires.number in
    known-added later old c.args.entry c.args.name.now c.declare.new.self c.push.new.self named c.in_ok-push.ensures.ok

pub returns-clause-outer : goal.returns-clause-outer
returns-clause-outer c =
    (scopes-kept c.in_ok-_new._new c.args.known.now.scopes c.declare.new.self c.args.name.now c.args.number c.in_ok-_new.ensures.declared c.in_ok-_new.ensures.twice).0

pub returns-clause-depth : goal.returns-clause-depth
returns-clause-depth c =
    (scopes-kept c.in_ok-_new._new c.args.known.now.scopes c.declare.new.self c.args.name.now c.args.number c.in_ok-_new.ensures.declared c.in_ok-_new.ensures.twice).1
