-- The items so far don't pass.
use Rattle.std.proofs.Common.{◌≡◌, ℕ, true, false, ◌∷◌, length, rules, sym, ◌∙◌}
use Rattle.dm_tree.specs.Views.{view}
use Rattle.dm_meaning.specs.Statements.{has_default}
use Rattle.dm_frame.proofs.SwitchLemmas.{found-first, none-first, passed-first, rest-fits}
use Rattle.dm_frame.proofs.switching.from_default.Goals as goal

pub returns-then-has_default : goal.returns-then-has_default
returns-then-has_default c = λ table fits.
    let e : c.loop-item.left.now ≡ c.in-Some.item.now ∷ c.in-Some.rest.now = search rules in
    (sym (c.loop-item.invariant.1 table) ∙ found-first table has_default c.loop-item.left.now c.in-Some.item.now c.in-Some.rest.now e (sym (c.has_default.ensures table) ∙ c.if-has_default.true), c.loop-item.invariant.0 table fits)

pub loop-item-preserved : goal.loop-item-preserved
loop-item-preserved c =
    let e : c.loop-item.left.now ≡ c.in-Some.item.now ∷ c.in-Some.rest.now = search rules in (
      λ table fits. rest-fits table c.loop-item.left.now c.in-Some.item.now c.in-Some.rest.now e (c.loop-item.invariant.0 table fits),
      λ table.
          sym (passed-first table has_default c.loop-item.left.now c.in-Some.item.now c.in-Some.rest.now e (sym (c.has_default.ensures table) ∙ c.if-has_default.false))
          ∙ c.loop-item.invariant.1 table,
    )

pub returns : goal.returns
returns c = λ table fits.
    let none : length c.loop-item.left.now ≡ 0 = search rules in
    sym (c.loop-item.invariant.1 table) ∙ none-first table has_default c.loop-item.left.now none
