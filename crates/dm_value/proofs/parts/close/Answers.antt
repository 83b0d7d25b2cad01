-- The innermost of what was taken apart is closed.
use Rattle.std.proofs.Common.{◌≡◌, ◌∷◌, [], ◌++◌, map, rules, ap, sym, ◌∙◌}
use Rattle.std.proofs.lemmas.List.{map-set}
use Rattle.dm_meaning.specs.Values as values
use Rattle.dm_value.specs.Closed.{closed}
use Rattle.dm_value.specs.Views.{view_of_value}
use Rattle.dm_value.proofs.ClosedLemmas.{closed-push}
use Rattle.dm_value.proofs.parts.close.Goals as goal

pub loop-opened-preserved : goal.loop-opened-preserved
loop-opened-preserved c =
    let opened = c.in-Some.opened in
    let e : c.loop-opened.outer.items ≡ c.pop.new.self.items ++ opened ∷ [] = search rules in
    ap (closed c.pop.new.self.items)
    (c.in_ok-at.ensures ∙ ap (λ all. values.parts (values.values all)) (ap (map view_of_value) c.replaced.ensures ∙ map-set view_of_value opened.parts.items opened.number c.loop-opened.at))
    ∙ (sym (closed-push c.pop.new.self.items opened (view_of_value c.loop-opened.at)) ∙ (ap (λ outer. closed outer (view_of_value c.loop-opened.at)) (sym e) ∙ c.loop-opened.invariant))
