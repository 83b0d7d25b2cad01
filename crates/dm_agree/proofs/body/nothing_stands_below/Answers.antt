-- None is found.
use Rattle.std.proofs.Common.{rules, ◌≡◌, ◌↔◌, IsTrue, length, sym, ◌∙◌}
use Rattle.dm_tree.specs.Trees.{label_of, spans_of}
use Rattle.dm_tree.specs.Views.{view}
use Rattle.dm_agree.specs.Agreement.{here_below}
use Rattle.dm_agree.specs.Comparing.{rewriting}
use Rattle.dm_agree.proofs.AgreeLemmas.{none-found}
use Rattle.dm_agree.proofs.ArgumentLemmas.{none-some, nothing-there}
use Rattle.dm_agree.proofs.body.nothing_stands_below.Goals as goal

pub returns : goal.returns
returns c clear types =
    let above = view types c.args.above.now in
    let says : IsTrue c.is_empty.result ↔ (length c.in_ok-runs.runs.items ≡ 0) = search rules in
    nothing-there (here_below (rewriting c.args.it.now) c.args.pattern.now.run.now (label_of above) (spans_of above) (view types c.args.part.now))
    (sym (c.below-2.ensures types) ∙ none-some c.below-2.result c.is_none.result c.is_none.ensures clear)
    (sym (c.in_ok-runs.ensures types) ∙ (none-found c.in_ok-runs.runs.items).0 (says.0 c.if-not-is_empty.false))
