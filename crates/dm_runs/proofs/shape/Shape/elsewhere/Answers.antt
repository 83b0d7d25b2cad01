use Rattle.std.proofs.Common.{ℕ, Option, Vec, Global, sym, subst}
use Rattle.std.specs.Prelude.{IfSome}
use Rattle.dm_runs.specs.Reaches.{AreKnown, AreReached}
use Rattle.dm_runs.proofs.SpanLemmas.{filled-run, run-ordered}
use Rattle.dm_runs.proofs.shape.Shape.elsewhere.Goals as goal

pub reach_of-requires-clause-inside : goal.reach_of-requires-clause-inside
reach_of-requires-clause-inside c = (filled-run c.args.prefix.now c.args.self.now.tokens.now c.args.run c.requires.run c.requires.filled).within

pub reach_of-requires-clause-ordered : goal.reach_of-requires-clause-ordered
reach_of-requires-clause-ordered c = run-ordered c.args.prefix.now c.args.self.now.tokens.now c.args.run c.requires.run

pub reach_of-requires-clause-under : goal.reach_of-requires-clause-under
reach_of-requires-clause-under c = (filled-run c.args.prefix.now c.args.self.now.tokens.now c.args.run c.requires.run c.requires.filled).under

pub returns-in-Some-clause-place : goal.returns-in-Some-clause-place
returns-in-Some-clause-place c =
    let stand = c.args.stand.now in
    let tokens = c.args.self.now.tokens.now in
    let prefix = c.args.prefix.now in
    let full = filled-run prefix tokens c.args.run c.requires.run c.requires.filled in
    let known = subst (λ (found : Option (Vec ℕ Global)). IfSome found (λ some. AreKnown stand.names.now tokens stand.definition.now prefix c.args.run some.items)) c.in-Some.is c.requires.reach in
    c.would_stand.ensures stand.names.now tokens stand.definition.now prefix full.under full.within
    (subst (AreReached stand.names.now tokens stand.definition.now prefix c.args.run) (sym c.as_slice.ensures.value) known.0)

pub returns-clause-place : goal.returns-clause-place
returns-clause-place c =
    let stand = c.args.stand.now in
    let tokens = c.args.self.now.tokens.now in
    let prefix = c.args.prefix.now in
    let full = filled-run prefix tokens c.args.run c.requires.run c.requires.filled in
    c.would_stand-place.ensures stand.names.now tokens stand.definition.now prefix full.under full.within
    (subst (AreReached stand.names.now tokens stand.definition.now prefix c.args.run) (sym c.as_slice-2.ensures.value) c.in_ok-known.ensures.reached)
