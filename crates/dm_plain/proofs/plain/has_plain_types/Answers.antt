-- What waits last names nothing itself, or the answer is found.
use Rattle.std.proofs.Common.{rules, ◌≡◌, ◌||◌, ℕ, Bool, List, [], sym, ap, ◌∙◌}
use Rattle.std.proofs.Math.Bool.{or-true}
use Rattle.dm_tree.specs.Views.{entries_of, view}
use Rattle.dm_effect.specs.Scoped.{is_automatic}
use Rattle.dm_plain.specs.declared.plain.Waiting.{Waiting}
use Rattle.dm_plain.specs.Walks.{names_local, waits}
use Rattle.dm_plain.proofs.PlainLemmas.{found-decides, none-decides}
use Rattle.dm_plain.proofs.WalkLemmas.{nothing-here, something-here, waits-last}
use Rattle.dm_plain.proofs.plain.has_plain_types.Goals as goal

pub returns-then-is_local_inside : goal.returns-then-is_local_inside
returns-then-is_local_inside c types =
    let automatic = is_automatic (entries_of types c.args.unit.now.declared) in
    let front = c.pop.new.self.items in
    let one : Waiting = c.in-Some.one in
    let here = something-here automatic one.inside (view types one.tree.now) (sym (c.is_local_inside.ensures types) ∙ c.if-is_local_inside.true) in
    found-decides automatic (view types c.args.tree.now)
    (sym (c.loop-one.invariant types)
    ∙ (waits-last (λ (w : Waiting). names_local automatic w.inside (view types w.tree.now)) c.loop-one.waiting.items front one c.in-Some.ensures.items
    ∙ (ap (λ (b : Bool). waits automatic types front || b) here ∙ or-true (waits automatic types front))))

pub loop-one-preserved : goal.loop-one-preserved
loop-one-preserved c types =
    let automatic = is_automatic (entries_of types c.args.unit.now.declared) in
    let front = c.pop.new.self.items in
    let one : Waiting = c.in-Some.one in
    let here = nothing-here automatic one.inside (view types one.tree.now) (sym (c.is_local_inside.ensures types) ∙ c.if-is_local_inside.false) in
    c.in_ok-enter.ensures.names types automatic
    ∙ (sym
    (waits-last (λ (w : Waiting). names_local automatic w.inside (view types w.tree.now)) c.loop-one.waiting.items front one c.in-Some.ensures.items
    ∙ ap (λ (b : Bool). waits automatic types front || b) here)
    ∙ c.loop-one.invariant types)

pub returns : goal.returns
returns c types =
    let automatic = is_automatic (entries_of types c.args.unit.now.declared) in
    let none : c.loop-one.waiting.items ≡ [] = search rules in
    none-decides automatic (view types c.args.tree.now) (sym (c.loop-one.invariant types) ∙ ap (waits automatic types) none)
