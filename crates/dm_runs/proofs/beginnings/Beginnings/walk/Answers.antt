-- Nothing is added where the last trail is walked again.
use Rattle.dm_runs.proofs.GrowthLemmas.{last-numbers, walked-again}
use Rattle.dm_runs.proofs.beginnings.Beginnings.walk.Goals as goal

pub returns-then-is_of-clause-trails : goal.returns-then-is_of-clause-trails
returns-then-is_of-clause-trails c =
    let found = c.args.self.now.trails.items in
    let numbers = c.args.path.numbers.items in
    walked-again found c.args.trail.now numbers
    (last-numbers (λ last. last.now) c.args.path.trail found c.args.trail.now numbers c.requires.path (c.is_of.ensures c.if-is_of.true))

pub returns-then-is_of-clause-numbers : goal.returns-then-is_of-clause-numbers
returns-then-is_of-clause-numbers c =
    last-numbers (λ last. last.now) c.args.path.trail c.args.self.now.trails.items c.args.trail.now c.args.path.numbers.items c.requires.path (c.is_of.ensures c.if-is_of.true)
