-- The types, scopes and declarations are handed in and out.
use Rattle.std.specs.Prelude.{length, reverse, refl}
use Rattle.std.proofs.Common.{sym, subst}
use Rattle.std.proofs.lemmas.List.Elements.{All-nil}
use Rattle.dm_syn.specs.Views as syntax
use Rattle.dm_tree.specs.declared.unit.Declared.{Declared}
use Rattle.dm_type.specs.Tables.{Table}
use Rattle.dm_token.specs.declared.list.List.{List}
use Rattle.dm_typing.specs.Bounds.{IsUnset, AreBelow, AreOpen}
use Rattle.dm_typing.specs.Fitting.{HaveTypes, IsNumbered, AreNumbered}
use Rattle.dm_typing.specs.Views.{view_over}
use Rattle.dm_typing.proofs.LaterLemmas.{begins-itself}
use Rattle.dm_eexpr.specs.Alone.{known_alone}
use Rattle.dm_eexpr.proofs.AloneLemmas.{known_first, known-first, gives-alone, sound-alone, inside-alone}
use Rattle.dm_eexpr.proofs.elaborate.elaborate_expr.Goals as goal

pub invariant_of-known : goal.invariant_of-known
invariant_of-known c = record {
  entries = subst (λ (types : Table). HaveTypes types c.replace-3.result) (sym c.replace.ensures.value) (subst (HaveTypes c.args.types.now) (sym c.replace-3.ensures.value) c.requires.types);
  trees = subst (AreNumbered c.replace.result) (sym c.new-6.ensures) (All-nil (IsNumbered c.replace.result));
  numbers = subst (λ (entries : List Declared). AreBelow (length entries) c.replace-2.result) (sym c.replace-3.ensures.value)
      (subst (AreBelow (length c.args.declared.now)) (sym c.replace-2.ensures.value) c.requires.numbers);
  unfinished = subst (λ begun. AreOpen c.replace.result (reverse begun)) (sym c.new-5.ensures.items) (All-nil (IsUnset c.replace.result), refl);
}

pub returns-clause-gives : goal.returns-clause-gives
returns-clause-gives c = λ later begins.
    gives-alone c.args.tokens.now c.in_ok-lacking.lacking c.in_ok-lacking.ensures (syntax.expr c.args.tree.now) later c.args.types.now c.args.scopes.now c.args.declared.now
    (known_first later c.replace.result c.replace-2.result c.replace-3.result c.new-5.result.items c.new-6.result)
    (known-first later c.replace.result c.args.types.now c.replace-2.result c.args.scopes.now c.replace-3.result c.args.declared.now c.new-5.result.items c.new-6.result c.replace.ensures.value
    c.replace-2.ensures.value c.replace-3.ensures.value c.new-5.ensures.items c.new-6.ensures)
    c.typed-result.new.known c.typed-result.result (c.typed-result.ensures.gives later begins)

pub returns-clause-well_typed : goal.returns-clause-well_typed
returns-clause-well_typed c sound names formed known =
    let new = c.typed-result.new.known in
    let shapes = new.types.shapes in
    sound-alone c.args.tokens.now names (syntax.expr c.args.tree.now) formed (known_alone shapes c.args.types.now c.args.scopes.now c.args.declared.now)
    (known_alone shapes new.types new.scopes new.declared) (view_over shapes) sound known c.typed-result.result (returns-clause-gives c shapes (begins-itself shapes))

pub returns-clause-inside : goal.returns-clause-inside
returns-clause-inside c names formed =
    let new = c.typed-result.new.known in
    let shapes = new.types.shapes in
    inside-alone c.args.tokens.now names (syntax.expr c.args.tree.now) formed (known_alone shapes c.args.types.now c.args.scopes.now c.args.declared.now)
    (known_alone shapes new.types new.scopes new.declared) (view_over shapes) c.typed-result.result (returns-clause-gives c shapes (begins-itself shapes))
