use Rattle.std.proofs.Common.{[], ◌∷◌, refl}
use Rattle.dm_phase.specs.Phases.{characters_at}
use Rattle.dm_phase.proofs.SparseLemmas.{characters_from-append, spends-append}
use Rattle.dm_phase.proofs.writer.Writer.push_plain.Goals as goal

pub returns-clause-text : goal.returns-clause-text
unfolding characters_at
returns-clause-text c =
    let old = c.args.self.now in
    rw c.in_ok-push.ensures.items (characters_from-append 0 0 old.jumps.items old.text.items (c.args.byte ∷ []) old.end c.requires.kept)

pub returns-clause-kept : goal.returns-clause-kept
returns-clause-kept c =
    let old = c.args.self.now in
    rw c.in_ok-push.ensures.items (spends-append 0 0 old.jumps.items old.text.items (c.args.byte ∷ []) old.end _ c.requires.kept refl)
