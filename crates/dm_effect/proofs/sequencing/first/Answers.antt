-- One step of the way.
use Rattle.std.proofs.Common.{sym, ◌∙◌, rules}
use Rattle.dm_tree.specs.Views.{view}
use Rattle.dm_effect.proofs.SequencingLemmas.{picked-fails, absent-fails, goes-on, ends-first}
use Rattle.dm_effect.proofs.sequencing.first.Goals as goal

pub returns-then-not-comes_first : goal.returns-then-not-comes_first
returns-then-not-comes_first c types =
    sym (sym (c.loop-number.invariant types)
    ∙ picked-fails types c.loop-number.tree.now c.loop-number.left.now c.in-Some.number.now c.in-Some.rest.now c.in-Some.ensures.cases.0 (sym (c.comes_first.ensures types) ∙ c.if-not-comes_first.true))

pub returns-in-None : goal.returns-in-None
returns-in-None c types =
    sym (sym (c.loop-number.invariant types)
    ∙ absent-fails types c.loop-number.tree.now c.loop-number.left.now c.in-Some.number.now c.in-Some.rest.now c.in-Some.ensures.cases.0
    (sym (c.comes_first.ensures types) ∙ c.if-not-comes_first.false) (sym (c.in-None.ensures types)))

pub loop-number-preserved : goal.loop-number-preserved
loop-number-preserved c types =
    sym (goes-on types c.loop-number.tree.now c.loop-number.left.now c.in-Some.number.now c.in-Some.rest.now c.in-Some.ensures.cases.0 (view types c.in-Some-part.next.now)
    (sym (c.comes_first.ensures types) ∙ c.if-not-comes_first.false) (sym (c.in-Some-part.ensures types)))
    ∙ c.loop-number.invariant types

pub returns : goal.returns
returns c types = sym (sym (c.loop-number.invariant types) ∙ ends-first c.loop-number.left.now (view types c.loop-number.tree.now) (search rules))
