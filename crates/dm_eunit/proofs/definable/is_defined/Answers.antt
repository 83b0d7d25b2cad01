-- By the number that the function has.
use Rattle.std.proofs.Common.{ap, ◌∙◌}
use Rattle.dm_edecl.specs.Linkages.{is_defined}
use Rattle.dm_estanding.specs.Summaries.{entry_over}
use Rattle.dm_eunit.proofs.DefinableLemmas.{here-some, here-none}
use Rattle.dm_eunit.proofs.definable.is_defined.Goals as goal

pub returns-in-Some : goal.returns-in-Some
returns-in-Some c = λ later before stands lawful.
    c.is_defined.ensures later before.known.declared before.linked stands.links
    ∙ ap (λ n. is_defined n before.linked) (here-some before (entry_over later c.args.entry.now) c.in-Some.number (c.in-Some.ensures later before stands))

pub returns-in-None : goal.returns-in-None
returns-in-None c = λ later before stands lawful. here-none before (entry_over later c.args.entry.now) lawful (c.in-None.ensures later before stands)
