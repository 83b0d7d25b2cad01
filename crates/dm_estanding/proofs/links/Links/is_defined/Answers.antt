-- What has no declarations isn't defined.
use Rattle.std.specs.Prelude.{option_map}
use Rattle.std.proofs.Common.{sym, ap, ◌∙◌}
use Rattle.dm_estanding.specs.Summaries.{whole_over}
use Rattle.dm_estanding.proofs.SummaryLemmas.{none-said}
use Rattle.dm_estanding.proofs.links.Links.is_defined.Goals as goal

pub returns-in-None : goal.returns-in-None
returns-in-None c = λ later declared linked old.
    sym (none-said c.args.number linked (old.wholes c.args.number ∙ ap (option_map (whole_over later)) (sym c.whole.ensures.whole ∙ c.in-None.is)))
