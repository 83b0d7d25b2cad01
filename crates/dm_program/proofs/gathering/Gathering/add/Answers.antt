-- The object is there already, or is new.
use Rattle.std.proofs.Common.{sym}
use Rattle.std.proofs.lemmas.Option.{slice_get_within}
use Rattle.dm_program.proofs.GatherLemmas.{stands, added-completed, added-appended}
use Rattle.dm_program.proofs.gathering.Gathering.add.Goals as goal

pub complete-requires : goal.complete-requires
complete-requires c =
    let self = c.args.self.now in
    let found = stands self.places.items self.statics.items self.placed c.args.number c.in-Some.at (sym c.in-Some.ensures) in
    slice_get_within self.statics.items c.in-Some.at found.0 found.1

pub returns-in-Some : goal.returns-in-Some
returns-in-Some c = added-completed c.args.self.now c.complete.new.self c.args.number c.in-Some.at c.args.initial (sym c.in-Some.ensures) c.complete.ensures.declared c.complete.ensures.statics

pub returns-in_ok-append-in-None : goal.returns-in_ok-append-in-None
returns-in_ok-append-in-None c =
    added-appended c.args.self.now c.append.new.self c.args.number c.args.initial (sym c.in-None.ensures) c.in_ok-append-in-None.ensures.declared c.in_ok-append-in-None.ensures.statics
