-- By the key of the place.
use Rattle.std.proofs.Common.{ap, ℕ, cond, ◌==◌, ◌∙◌, Option}
use Rattle.dm_sites.specs.Links.{linked}
use Rattle.dm_sites.specs.Seen.{seen}
use Rattle.dm_sites.proofs.LinkLemmas.{passed-over, put-in-front}
use Rattle.dm_sites.proofs.links.link_one.Goals as goal

pub returns-in_ok-put-in-Some-2 : goal.returns-in_ok-put-in-Some-2
returns-in_ok-put-in-Some-2 c types all there before =
    let heads = c.args.heads.now.items in
    let links = c.args.next.now.items in
    put-in-front all c.args.number (seen types all c.args.site.now) there c.in-Some.sum heads links c.put-in-Some.new.numbers.items c.put.new.numbers.items (c.in-Some.ensures types all)
    (λ m. c.in_ok-put-in-Some.ensures m
    ∙ ap (λ (found : Option ℕ). cond (c.args.number == m) found (linked links m)) (c.linked.ensures ∙ ap (λ them. linked them c.in-Some.sum) c.as_slice.ensures.value))
    (λ m. c.in_ok-put-in-Some-2.ensures m) before

pub returns-in-None : goal.returns-in-None
returns-in-None c types all there before =
    passed-over all c.args.number (seen types all c.args.site.now) there c.args.heads.now.items c.args.next.now.items (c.in-None.ensures types all) before
