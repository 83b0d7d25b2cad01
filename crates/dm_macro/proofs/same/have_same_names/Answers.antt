use Rattle.dm_macro.proofs.SameLemmas.{names_decided}
use Rattle.dm_macro.proofs.same.have_same_names.Goals as goal

pub returns : goal.returns
returns c = names_decided c.args.one.now c.args.other.now _ c.eq.ensures
