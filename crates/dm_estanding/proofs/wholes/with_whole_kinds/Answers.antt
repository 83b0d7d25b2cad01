-- Each entry is settled.
use Rattle.std.specs.Prelude.{map}
use Rattle.std.proofs.Common.{ap, ◌∙◌}
use Rattle.dm_estanding.specs.Summaries.{entry_over}
use Rattle.dm_estanding.proofs.WholeLemmas.{settled-is}
use Rattle.dm_estanding.proofs.wholes.with_whole_kinds.Goals as goal

pub returns-clause-whole : goal.returns-clause-whole
returns-clause-whole c = λ later declared linked summary.
    ap (map (entry_over later)) c.settled.ensures ∙ settled-is later c.args.links.now declared linked summary 0 c.args.entries
