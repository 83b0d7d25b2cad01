-- One member more.
use Rattle.std.proofs.Common.{◌∙◌}
use Rattle.dm_eunary.specs.Parts.{stage_of}
use Rattle.dm_eunary.proofs.ConstLemmas.{noted-next, known-next}
use Rattle.dm_eunary.proofs.parts.Search.note_members.Goals as goal

pub loop-member-preserved : goal.loop-member-preserved
loop-member-preserved c =
    let table = c.args.types.now in
    let members = c.args.members.now in (
      noted-next table (stage_of c.loop-member.self) (stage_of c.note_inside.new.self) members c.loop-member.member-index c.member-item.result c.loop-member-test.true c.member-item.is c.in_ok-note_inside.ensures.noted
          ∙ c.loop-member.invariant.0,
      c.in_ok-note_inside.ensures.size,
      known-next table members c.loop-member.member-index c.member-item.result c.loop-member-test.true c.member-item.is c.note_inside.ensures.known c.loop-member.invariant.2,
    )
