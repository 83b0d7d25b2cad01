-- The object keeps its number, and so its place.
use Rattle.std.proofs.Common.{get_or, ap, sym}
use Rattle.std.proofs.lemmas.Option.{slice_get-get_or}
use Rattle.dm_program.specs.declared.fixed.Static.{Static}
use Rattle.dm_program.proofs.GatherLemmas.{placed-set, set-completed, set-incomplete}
use Rattle.dm_program.proofs.gathering.Gathering.complete.Goals as goal

pub invariant_of-self : goal.invariant_of-self
invariant_of-self c =
    let self = c.args.self.now in
    let before : Static = c.index.result.now in record {
      placed =
          placed-set self.places.items self.statics.items c.args.at (get_or self.statics.items c.args.at before) (record { declared = before.declared; initial = c.args.initial })
          (slice_get-get_or self.statics.items c.args.at before c.requires) (ap (λ (s : Static). s.declared) c.index.ensures) self.placed;
      sized = self.sized;
    }

pub returns-then-is_some-clause-statics : goal.returns-then-is_some-clause-statics
returns-then-is_some-clause-statics c = λ one e. set-completed c.args.self.now.statics.items c.args.at c.args.initial c.index.result.now one c.index.ensures e (sym c.if-is_some.ensures)

pub returns-else-is_some-clause-statics : goal.returns-else-is_some-clause-statics
returns-else-is_some-clause-statics c = λ one e. set-incomplete c.args.self.now.statics.items c.args.at c.args.initial one e (sym c.if-is_some.ensures)
