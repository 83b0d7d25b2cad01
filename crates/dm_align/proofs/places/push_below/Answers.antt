-- The operands, or all parts.
use Rattle.std.proofs.Common.{◌++◌, List, Bor, map, ap, ◌∙◌}
use Rattle.dm_tree.specs.declared.tree.Core.{Core}
use Rattle.dm_tree.specs.Views.{view}
use Rattle.dm_align.specs.Places.{waiting_of}
use Rattle.dm_align.proofs.PlaceLemmas.{added-together}
use Rattle.dm_align.proofs.places.push_below.Goals as goal

pub returns-in_ok-push_list-in-Some-2 : goal.returns-in_ok-push_list-in-Some-2
returns-in_ok-push_list-in-Some-2 c =
    let operands = c.in-Some.operands in
    let both = added-together c.args.unevaluated operands.front.now operands.back.now c.args.waiting.now.items c.push_list.new.waiting.items c.push_list-in-Some.new.waiting.items
    c.in_ok-push_list-in-Some.ensures c.in_ok-push_list-in-Some-2.ensures in
    (both.0, λ types. ap (map (view types)) both.1 ∙ c.in-Some.ensures.same types, both.2)

pub returns-in_ok-push_parts-in-None : goal.returns-in_ok-push_parts-in-None
returns-in_ok-push_parts-in-None c =
    let before = c.args.waiting.now.items in
    let parts = c.in_ok-parts-in-None.parts.items in
    (parts, c.in_ok-parts-in-None.ensures.same, c.in_ok-push_parts-in-None.ensures ∙ ap (λ (refs : List (Bor Core)). before ++ map (waiting_of c.args.unevaluated) refs) c.deref.ensures.value)
