-- Behind a node stands no result.
use Rattle.std.proofs.Common.{◌++◌, ◌∷◌, [], ap, ◌∙◌}
use Rattle.dm_row.specs.Counts.{results_after}
use Rattle.dm_row.proofs.SeekLemmas.{behind-node}
use Rattle.dm_row.proofs.row.Row.take_result.Goals as goal

pub returns-in-Some-Waits : goal.returns-in-Some-Waits
returns-in-Some-Waits g c =
    ap (results_after 0) (c.in-Some-Waits.ensures.0 ∙ ap (λ item. c.take_in_front.new.self.0 ++ item ∷ []) c.in-Some-Waits.field-0-is)
    ∙ behind-node c.take_in_front.new.self.0 c.in-Some-Waits.field-0-0 c.in-Some-Waits.field-0-1
