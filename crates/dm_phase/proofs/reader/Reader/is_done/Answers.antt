-- Nothing is left where the front is empty.
use Rattle.std.proofs.Common.{◌∙◌, ap, sym}
use Rattle.std.specs.Option.{is_some}
use Rattle.dm_phase.proofs.Heads.{left-none}
use Rattle.dm_phase.proofs.reader.Reader.is_done.Goals as goal

pub returns : goal.returns
returns c =
    let reader = c.args.self.now in
    left-none reader.has_ended reader.at reader.rest.now c.is_none.result (ap is_some (sym c.front.ensures.value) ∙ c.is_none.ensures)
