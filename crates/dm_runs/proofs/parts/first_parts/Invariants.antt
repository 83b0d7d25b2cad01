-- The first parts of the tokens up to here.
use Rattle.std.proofs.Common.{◌≡◌, IfSome, [], ◌∷◌, false, fold, take, map}
use Rattle.std.specs.List.{flat_map}
use Rattle.dm_token.specs.declared.token.Token.{Token}
use Rattle.dm_runs.specs.Beginnings.{beginnings_of, once_more}
use Rattle.dm_runs.specs.Runs.{first_part}
use Rattle.dm_runs.specs.Spans.{begun_among}
use Rattle.dm_runs.specs.Trees.{AreLinked, AreNumbers}
use Rattle.dm_runs.proofs.GrowthLemmas.{Covers}
use Rattle.dm_runs.proofs.PartLemmas.{trails_in, behind, Stand}
use Rattle.dm_runs.proofs.parts.first_parts.Given as goal

abbrev pub invariant-loop-token : goal.invariant-loop-token
invariant-loop-token l = record {
  linked : AreLinked l.beginnings.links.keys l.beginnings.trails.items;
  trails : l.beginnings.trails.items ≡ fold once_more ([] ∷ []) (flat_map (λ (token : Token). beginnings_of token.trail) (take l.token-index l.tokens));
  covers : Covers l.beginnings.trails.items (trails_in (take l.token-index l.tokens));
  stand : Stand l.beginnings.trails.items (take l.token-index l.tokens);
  begun : l.begun ≡ begun_among false (take l.token-index l.tokens);
  behind : l.is_behind_literal ≡ behind false (take l.token-index l.tokens);
  path : IfSome l.path.trail (λ trail. AreNumbers l.beginnings.trails.items trail.now l.path.numbers.items);
  parts : l.parts.items ≡ map (first_part (take l.token-index l.tokens)) l.beginnings.trails.items;
}
