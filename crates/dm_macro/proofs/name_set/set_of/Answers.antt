use Rattle.std.proofs.Common.{true, cond, ap, ◌∙◌, bytes_eq}
use Rattle.dm_macro.specs.NameSets.{has_name}
use Rattle.dm_macro.proofs.NameSetLemmas.{has_more}
use Rattle.dm_macro.proofs.name_set.set_of.Goals as goal

pub loop-name-preserved : goal.loop-name-preserved
loop-name-preserved c =
    has_more c.args.names.now c.loop-name.name-index c.name-item.result c.loop-name.set c.insert.new.self c.loop-name-test.true c.name-item.is c.loop-name.invariant
    (λ q. c.in_ok-insert.ensures.updates.0 q ∙ ap (λ n. cond (bytes_eq n q) true (has_name c.loop-name.set q)) c.in_ok-copy.ensures)
