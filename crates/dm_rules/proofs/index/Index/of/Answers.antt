-- Each part is made of the reading's lists.
use Rattle.std.proofs.Common.{List, ap, ◌∙◌}
use Rattle.dm_token.specs.declared.expansion.Expansion.{Expansion}
use Rattle.dm_token.specs.declared.token.CToken.{CToken}
use Rattle.dm_token.specs.declared.unit.Read.{Read}
use Rattle.dm_runs.specs.Runs.{is_at, runs_of}
use Rattle.dm_runs.specs.Spans.{positions}
use Rattle.dm_rules.specs.Listing.{is_expansion_at}
use Rattle.dm_rules.proofs.index.Index.of.Goals as goal

pub invariant_of-result : goal.invariant_of-result
invariant_of-result c =
    let reading = c.args.reading.now in
    record {
      has_runs = λ file hash. c.in_ok-runs.ensures file hash ∙ ap (λ (tokens : List CToken). runs_of reading.pp tokens file hash) c.items.ensures;
      has_mentions = c.in_ok-mentions.ensures;
      has_readings = λ file hash. c.in_ok-readings.ensures file hash ∙ ap (positions (λ (one : Read). is_at file hash one.definition) 0) c.items-2.ensures;
      has_expansions = λ file hash. c.in_ok-expansions.ensures file hash
          ∙ ap (λ (read : List Read). positions (λ (one : Expansion). is_expansion_at file hash read one) 0 c.items-4.result.now) c.items-3.ensures
          ∙ ap (positions (λ (one : Expansion). is_expansion_at file hash reading.pp.read one) 0) c.items-4.ensures;
      has_tokens = c.in_ok-places.ensures.tokens ∙ c.items-5.ensures;
      has_externals = c.in_ok-places.ensures.externals ∙ c.items-6.ensures;
    }
