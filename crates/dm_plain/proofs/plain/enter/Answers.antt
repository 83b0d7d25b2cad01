-- The parts of the tree wait.
use Rattle.std.proofs.Common.{◌++◌, Bor, List, ap, ◌∙◌}
use Rattle.dm_type.specs.Tables.{no_type}
use Rattle.dm_tree.specs.declared.tree.Core.{Core}
use Rattle.dm_plain.specs.Walks.{waiting_parts}
use Rattle.dm_plain.proofs.WalkLemmas.{entered, nodes-entered}
use Rattle.dm_plain.proofs.plain.enter.Goals as goal

pub returns-clause-names : goal.returns-clause-names
returns-clause-names c types automatic =
    let first = c.is_first_inside-first.result in
    let others = c.are_others_inside-others.result in
    let before = c.args.waiting.now.items in
    let is = c.in_ok-push_parts.ensures ∙ ap (λ (refs : List (Bor Core)). before ++ waiting_parts first others refs) c.deref.ensures.value in
    entered types c.args.one.tree.now c.in_ok-parts.parts.items c.args.one.inside first others before c.push_parts.new.waiting.items (c.in_ok-parts.ensures.same types)
    (c.is_first_inside-first.ensures types) (c.are_others_inside-others.ensures types) is automatic

pub returns-clause-fewer : goal.returns-clause-fewer
returns-clause-fewer c =
    let first = c.is_first_inside-first.result in
    let others = c.are_others_inside-others.result in
    let before = c.args.waiting.now.items in
    let is = c.in_ok-push_parts.ensures ∙ ap (λ (refs : List (Bor Core)). before ++ waiting_parts first others refs) c.deref.ensures.value in
    nodes-entered c.args.one.tree.now c.in_ok-parts.parts.items first others before c.push_parts.new.waiting.items (c.in_ok-parts.ensures.same no_type) is
