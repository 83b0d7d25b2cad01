use Rattle.std.proofs.Common.{arith, ◌+◌, ◌≡◌, length}
use Rattle.dm_phase.specs.declared.jump.Jump.{Jump}
use Rattle.dm_phase.proofs.SparseLemmas.{characters_from-jump, spends-jump}
use Rattle.dm_phase.proofs.writer.Writer.push_jump.Goals as goal

pub returns-clause-text : goal.returns-clause-text
returns-clause-text c =
    let old = c.args.self.now in
    let last : Jump = record { index = c.len-index.result; at = c.args.character.at; width = c.args.character.width } in
    let e : 0 + length old.text.items ≡ last.index = omega (arith, c.len-index.ensures) in
    rw (c.in_ok-push.ensures.items, c.in_ok-push-2.ensures.items) (characters_from-jump 0 0 old.jumps.items old.text.items c.args.character.byte last old.end c.requires.kept e)

pub returns-clause-kept : goal.returns-clause-kept
returns-clause-kept c =
    let old = c.args.self.now in
    let last : Jump = record { index = c.len-index.result; at = c.args.character.at; width = c.args.character.width } in
    let e : 0 + length old.text.items ≡ last.index = omega (arith, c.len-index.ensures) in
    rw (c.in_ok-push.ensures.items, c.in_ok-push-2.ensures.items) (spends-jump 0 0 old.jumps.items old.text.items c.args.character.byte last old.end c.requires.kept e)
