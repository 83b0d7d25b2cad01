use Rattle.std.proofs.Common.{List, map, slice_get, ap, ◌∙◌}
use Rattle.std.specs.List.{flat_map}
use Rattle.dm_token.specs.declared.expansion.Mark.{Mark}
use Rattle.dm_token.specs.declared.token.Token.{Token}
use Rattle.dm_token.specs.declared.token.CToken.{CToken}
use Rattle.dm_runs.specs.Beginnings.{met, beginnings_of}
use Rattle.dm_runs.proofs.RunLemmas.{stays}
use Rattle.dm_runs.proofs.runs.Runs.of.Goals as goal

pub of_beginnings-requires-clause-known : goal.of_beginnings-requires-clause-known
of_beginnings-requires-clause-known c = λ k trail is.
    ap (λ (ts : List (List Mark)). slice_get ts k) c.in_ok-extents.ensures.trails
    ∙ stays c.first_parts.new.beginnings.trails.items (flat_map (λ (token : CToken). beginnings_of token.trail) c.args.tokens.now) k trail
    (ap (λ (ts : List (List Mark)). slice_get ts k) c.in_ok-parts.ensures.trails
    ∙ ap (λ (ts : List Token). slice_get (met (map (λ (token : Token). token.trail) ts)) k) c.items.ensures ∙ is)
