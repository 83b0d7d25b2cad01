use Rattle.std.proofs.Common.{[], ◌∷◌, ◌++◌, None}
use Rattle.dm_token.specs.declared.expansion.Mark.TheVariants.{Argument as argument}
use Rattle.dm_runs.proofs.ExtentLemmas.{extent_in}
use Rattle.dm_runs.proofs.RunLemmas.{mapped-at, extent-nowhere}
use Rattle.dm_runs.proofs.shape.Shape.below.Goals as goal

pub returns-in-None : goal.returns-in-None
returns-in-None c =
    let self = c.args.self.now in
    extent-nowhere self.beginnings.now.links.keys self.beginnings.now.trails.items self.extents.now self.tokens.now c.requires.shape
    (c.args.prefix.now ++ argument c.args.named.now.parameter c.args.named.now.occurrence ∷ []) (c.in-None.ensures c.args.prefix.now c.requires.prefix)

pub returns-in-Some : goal.returns-in-Some
returns-in-Some c =
    let self = c.args.self.now in
    mapped-at (extent_in self.tokens.now) self.beginnings.now.trails.items self.extents.now c.in-Some.inner
    (c.args.prefix.now ++ argument c.args.named.now.parameter c.args.named.now.occurrence ∷ []) None c.requires.shape.are (c.in-Some.ensures c.args.prefix.now c.requires.prefix)
