use Rattle.std.proofs.Common.{◌≡◌, ◌<◌, ◌≤◌, List, [], ◌++◌, length, map, get_or, slice_get, Some, sym, ap, ◌∙◌, arith}
use Rattle.std.proofs.lemmas.List.{length-map, take_all}
use Rattle.std.proofs.lemmas.Option.{slice_get-get_or, slice_get_within}
use Rattle.dm_token.specs.declared.expansion.Mark.{Mark}
use Rattle.dm_token.specs.declared.token.Token.{Token}
use Rattle.dm_token.specs.declared.unit.UnitTokens.{UnitTokens}
use Rattle.dm_runs.specs.declared.run.Run.{Run}
use Rattle.dm_runs.specs.Beginnings.{met, last_mark}
use Rattle.dm_runs.specs.Listings.{items_at}
use Rattle.dm_runs.specs.Runs.{first_part, run_if, runs_among, expanded}
use Rattle.dm_runs.proofs.ItemLemmas.{some-same}
use Rattle.dm_runs.proofs.RunLemmas.{mapped-at, runs-more}
use Rattle.dm_runs.proofs.runs.of_beginnings.Goals as goal

pub with_run-requires-clause-inside : goal.with_run-requires-clause-inside
with_run-requires-clause-inside c =
    let starts : List (List Mark) = met (map (λ (token : Token). token.trail) c.args.pp.now.tokens) in
    let n = c.loop-number.number in
    let inside : n < length starts = omega (arith, c.loop-number-test.true, ap length c.requires.parts, length-map starts (first_part c.args.pp.now.tokens)) in
    let start : List Mark = get_or starts n [] in
    slice_get_within c.args.shape.now.beginnings.now.trails.items n start (c.requires.known n start (slice_get-get_or starts n [] inside))

pub with_run-requires-clause-part : goal.with_run-requires-clause-part
with_run-requires-clause-part c = λ trail known.
    let tokens = c.args.pp.now.tokens in
    let starts : List (List Mark) = met (map (λ (token : Token). token.trail) tokens) in
    let n = c.loop-number.number in
    let inside : n < length starts = omega (arith, c.loop-number-test.true, ap length c.requires.parts, length-map starts (first_part tokens)) in
    let start : List Mark = get_or starts n [] in
    let is : slice_get starts n ≡ Some start = slice_get-get_or starts n [] inside in
    mapped-at (first_part tokens) starts c.args.parts.now n start 0 c.requires.parts is ∙ ap (first_part tokens) (some-same start trail (sym (c.requires.known n start is) ∙ known))
    ∙ ap (λ (unit : UnitTokens). first_part unit.tokens trail) (sym c.in_ok-known.ensures)

pub loop-number-preserved : goal.loop-number-preserved
loop-number-preserved c = λ file hash.
    let pp = c.args.pp.now in
    let starts : List (List Mark) = met (map (λ (token : Token). token.trail) pp.tokens) in
    let n = c.loop-number.number in
    let inside : n < length starts = omega (arith, c.loop-number-test.true, ap length c.requires.parts, length-map starts (first_part pp.tokens)) in
    let start : List Mark = get_or starts n [] in
    let is : slice_get starts n ≡ Some start = slice_get-get_or starts n [] inside in
    let tokens = c.args.shape.now.tokens.now in
    c.in_ok-found.ensures file hash start (c.requires.known n start is)
    ∙ ap (λ (unit : UnitTokens). items_at c.loop-number.found file hash ++ run_if unit tokens file hash start (expanded unit.read (last_mark start))) c.in_ok-known.ensures
    ∙ ap (λ (found : List Run). found ++ run_if pp tokens file hash start (expanded pp.read (last_mark start))) (c.loop-number.invariant file hash)
    ∙ runs-more pp tokens file hash starts n start is

pub returns : goal.returns
returns c = λ file hash.
    let pp = c.args.pp.now in
    let starts : List (List Mark) = met (map (λ (token : Token). token.trail) pp.tokens) in
    let n = c.loop-number.number in
    let past : length starts ≤ n = omega (arith, c.loop-number-test.false, ap length c.requires.parts, length-map starts (first_part pp.tokens)) in
    c.loop-number.invariant file hash ∙ ap (runs_among pp c.args.shape.now.tokens.now file hash) (take_all n starts past)
