use Rattle.std.proofs.Common.{sym, ap, ◌∙◌}
use Rattle.std.specs.List.{list_any, position}
use Rattle.dm_runs.proofs.LinkLemmas.{same}
use Rattle.dm_runs.proofs.TreeLemmas.{absent-trail, number-at}
use Rattle.dm_runs.proofs.beginnings.Beginnings.below.Goals as goal

pub returns-in-None : goal.returns-in-None
returns-in-None c = λ outer known.
    let links = c.args.self.now.links.keys in
    absent-trail links c.args.self.now.trails.items c.requires.linked c.args.above outer c.args.mark known
    (ap (λ link. list_any (same link) links) (sym c.link_to.ensures) ∙ sym c.in-None.ensures.found)

pub returns-in-Some : goal.returns-in-Some
returns-in-Some c = λ outer known.
    let links = c.args.self.now.links.keys in
    number-at links c.args.self.now.trails.items c.requires.linked c.args.above outer c.args.mark known c.in-Some.index
    (ap (λ link. position (same link) links) (sym c.link_to.ensures) ∙ sym c.in-Some.ensures.index)
