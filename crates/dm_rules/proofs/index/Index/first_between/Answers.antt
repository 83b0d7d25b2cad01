-- One byte after another.
use Rattle.std.proofs.Common.{◌≡◌, ◌≤◌, ◌+◌, ◌||◌, List, Option, None, sym, ap, ◌∙◌, arith, slice_get}
use Rattle.std.specs.Prelude.{option_and_then, option_map}
use Rattle.dm_token.specs.declared.expansion.Definition.{Definition}
use Rattle.dm_token.specs.declared.unit.Read.{Read}
use Rattle.dm_runs.specs.Runs.{is_at}
use Rattle.dm_rules.specs.Lines.{first_position, is_between, least}
use Rattle.dm_rules.proofs.LineLemmas.{all-bytes, between-first, least-either, never-first, none-between, one-more, same-first}
use Rattle.dm_rules.proofs.index.Index.first_between.Goals as goal

pub loop-hash-init : goal.loop-hash-init
loop-hash-init c =
    let file = c.args.file in
    let from = c.args.from in
    record {
      first =
          sym (never-first (λ (one : Read). is_between file from from one.definition) (λ one. none-between file from from (omega arith) one.definition) 0 c.args.self.now.reading.now.pp.read);
      still = λ le. omega arith;
    }

pub loop-hash-preserved : goal.loop-hash-preserved
loop-hash-preserved c =
    let all : List Read = c.args.self.now.reading.now.pp.read in
    let file = c.args.file in
    let from = c.args.from in
    let at = c.loop-hash.hash in
    record {
      first =
          c.least-found.ensures ∙ ap (λ one. least one c.first_at.result) c.loop-hash.invariant.first
          ∙ ap (least (first_position (λ (one : Read). is_between file from at one.definition) 0 all)) c.first_at.ensures
          ∙ least-either (λ (one : Read). is_between file from at one.definition) (λ (one : Read). is_at file at one.definition) 0 all
          ∙ sym (same-first (λ (one : Read). is_between file from (at + 1) one.definition) (λ (one : Read). is_between file from at one.definition || is_at file at one.definition)
          (λ one. one-more file from at c.loop-hash.auto.hash one.definition) 0 all);
      still = λ le. omega (arith, le, c.loop-hash-test.true, c.loop-hash.auto.hash);
    }

pub returns-in-None : goal.returns-in-None
returns-in-None c =
    let all : List Read = c.args.self.now.reading.now.pp.read in
    let at = c.loop-hash.hash in
    ap (λ number. option_map (λ (one : Read). one.definition) (option_and_then (slice_get all) number)) (sym c.in-None.is)
    ∙ between-first c.args.file c.args.from at c.args.to all c.loop-hash.found c.loop-hash.invariant.first
    (all-bytes c.args.file c.args.from at c.args.to (omega (arith, c.loop-hash-test.false)) c.loop-hash.auto.hash-end c.loop-hash.invariant.still)

pub returns-in-Some : goal.returns-in-Some
returns-in-Some c =
    let all : List Read = c.args.self.now.reading.now.pp.read in
    let at = c.loop-hash.hash in
    c.definition_at.ensures ∙ ap (λ (read : List Read). option_map (λ (one : Read). one.definition) (slice_get read c.in-Some.number)) c.items.ensures
    ∙ ap (λ number. option_map (λ (one : Read). one.definition) (option_and_then (slice_get all) number)) (sym c.in-Some.is)
    ∙ between-first c.args.file c.args.from at c.args.to all c.loop-hash.found c.loop-hash.invariant.first
    (all-bytes c.args.file c.args.from at c.args.to (omega (arith, c.loop-hash-test.false)) c.loop-hash.auto.hash-end c.loop-hash.invariant.still)
