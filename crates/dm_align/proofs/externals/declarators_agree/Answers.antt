-- The declarators, and then the expressions.
use Rattle.std.proofs.Common.{◌↔◌, IsTrue, List, length, map, ap, ◌∙◌, subst}
use Rattle.std.specs.Borrow.{Bor}
use Rattle.dm_tree.specs.declared.tree.Core.{Core}
use Rattle.dm_tree.specs.Trees.{Tree}
use Rattle.dm_tree.specs.Views.{expressions_of_locals, view, view_of_local}
use Rattle.dm_agree.specs.Agreement.{AllAgreeWhole}
use Rattle.dm_agree.specs.Comparing.{rewriting}
use Rattle.dm_agree.specs.Parts.{nows, are_all_known}
use Rattle.dm_agree.proofs.PartLemmas.{if-ok}
use Rattle.dm_align.proofs.StepLemmas.{both-parts, first-fails}
use Rattle.dm_align.proofs.externals.declarators_agree.Goals as goal

pub returns-then-not-are_same_declarators : goal.returns-then-not-are_same_declarators
returns-then-not-are_same_declarators c =
    first-fails c.are_same_declarators.result (c.are_same_declarators.ensures c.args.it.now.new_types.now c.args.it.now.old_types.now) c.if-not-are_same_declarators.true

pub expressions_agree-requires-clause-new : goal.expressions_agree-requires-clause-new
expressions_agree-requires-clause-new c =
    let n = length c.args.it.now.new_types.now.shapes in
    ap (λ (parts : List (Bor Core)). are_all_known n (nows parts)) c.deref.ensures.value ∙ c.in_ok-expressions.ensures.known n c.requires.new

pub expressions_agree-requires-clause-old : goal.expressions_agree-requires-clause-old
expressions_agree-requires-clause-old c =
    let n = length c.args.it.now.old_types.now.shapes in
    ap (λ (parts : List (Bor Core)). are_all_known n (nows parts)) c.deref-2.ensures.value ∙ c.in_ok-others.ensures.known n c.requires.old

pub returns : goal.returns
returns c =
    let it = c.args.it.now in
    let new = it.new_types.now in
    let old = it.old_types.now in
    let parts = ap (λ (refs : List (Bor Core)). map (view new) (nows refs)) c.deref.ensures.value ∙ c.in_ok-expressions.ensures.same new in
    let others = ap (λ (refs : List (Bor Core)). map (view old) (nows refs)) c.deref-2.ensures.value ∙ c.in_ok-others.ensures.same old in
    if-ok c.expressions_agree.result
    (λ answer says.
    both-parts answer
    (subst (λ (trees : List Tree). IsTrue answer ↔ AllAgreeWhole (rewriting it) (expressions_of_locals (map (view_of_local new) c.args.new.now)) trees) others
    (subst (λ (trees : List Tree). IsTrue answer ↔ AllAgreeWhole (rewriting it) trees (map (view old) (nows c.deref-2.result.now))) parts says))
    ((c.are_same_declarators.ensures new old).0 c.if-not-are_same_declarators.false))
    c.expressions_agree.ensures
