use Rattle.std.proofs.Common.{refl}
use Rattle.dm_phase.proofs.SparseLemmas.{characters_from-append, spends-append}
use Rattle.dm_phase.proofs.writer.Writer.append_plain.Goals as goal

pub returns-clause-text : goal.returns-clause-text
returns-clause-text c =
    let old = c.args.self.now in
    rw c.in_ok-extend_from_slice.ensures.items (characters_from-append 0 0 old.jumps.items old.text.items c.args.run.now old.end c.requires.kept)

pub returns-clause-kept : goal.returns-clause-kept
returns-clause-kept c =
    let old = c.args.self.now in
    rw c.in_ok-extend_from_slice.ensures.items (spends-append 0 0 old.jumps.items old.text.items c.args.run.now old.end _ c.requires.kept refl)
