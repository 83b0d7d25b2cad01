-- The extents of the tokens up to here.
use Rattle.std.proofs.Common.{◌≡◌, IfSome, fold, take, map}
use Rattle.std.specs.List.{flat_map}
use Rattle.dm_token.specs.declared.token.CToken.{CToken}
use Rattle.dm_runs.specs.Beginnings.{beginnings_of, once_more}
use Rattle.dm_runs.specs.Trees.{AreLinked, AreNumbers}
use Rattle.dm_runs.proofs.GrowthLemmas.{Covers}
use Rattle.dm_runs.proofs.ExtentLemmas.{extent_in, trails_of}
use Rattle.dm_runs.proofs.extents.extents.Given as goal

abbrev pub invariant-loop-position : goal.invariant-loop-position
invariant-loop-position l = record {
  linked : AreLinked l.beginnings.links.keys l.beginnings.trails.items;
  trails : l.beginnings.trails.items ≡ fold once_more l.initial.beginnings.trails.items (flat_map (λ (token : CToken). beginnings_of token.trail) (take l.position l.tokens));
  covers : Covers l.beginnings.trails.items (trails_of (take l.position l.tokens));
  path : IfSome l.path.trail (λ trail. AreNumbers l.beginnings.trails.items trail.now l.path.numbers.items);
  extents : l.extents.items ≡ map (extent_in (take l.position l.tokens)) l.beginnings.trails.items;
}
