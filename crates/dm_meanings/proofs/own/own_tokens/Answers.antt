-- One occurrence after another.
use Rattle.std.proofs.Common.{rules, ◌≡◌, ◌+◌, Bool, true, false, ◌&&◌, not, List, get_or, length, replicate, sym, ap, ◌∙◌, arith}
use Rattle.std.proofs.lemmas.List.{at_drop_all, get_or-replicate, length-replicate}
use Rattle.dm_runs.specs.declared.run.Occurrence.{Occurrence}
use Rattle.dm_meanings.specs.Captures.{is_own}
use Rattle.dm_meanings.proofs.OwnLemmas.{and-true, is_in_one, back, occurrence-step}
use Rattle.dm_meanings.proofs.own.own_tokens.Goals as goal

pub loop-one-init : goal.loop-one-init
loop-one-init c =
    let first = c.args.run.now.span.first in
    let count = c.saturating_sub.result in
    let own : List Bool = c.in_ok-own.own.items in
    let are : own ≡ replicate count true = c.in_ok-own.ensures.items_if_clones_equal (λ y clone. search rules) in
    let long : length own ≡ count = ap length are ∙ length-replicate count true in
    record {
      long = long ∙ c.saturating_sub.ensures;
      own = λ at inside. ap (λ b. b && not (is_in_one c.items-occurrences.result.now (first + at))) (ap (λ (marks : List Bool). get_or marks at false) are ∙ get_or-replicate count at true false (omega (arith, inside, long)))
          ∙ ap (λ (all : List Occurrence). not (is_in_one all (first + at))) c.items-occurrences.ensures;
    }

pub loop-one-preserved : goal.loop-one-preserved
loop-one-preserved c =
    let occurrences : List Occurrence = c.items-occurrences.result.now in
    let index = c.loop-one.one-index in
    let size = c.loop-one.own.len in
    let old : List Bool = c.loop-one.own.items in
    let given : List Bool = c.as_mut_slice.result.now in
    let new : List Bool = c.leave_out_span.new.own in
    let whole : size ≡ length old = omega (arith, c.loop-one.own.ok.0) in
    record {
      long = ap length (back occurrences index c.args.run.now.span.first size (get_or occurrences index record { parameter = 0; occurrence = 0; span = record { first = 0; after = 0 } }) old given new (is_own c.args.run.now) c.loop-one-test.true whole c.as_mut_slice.ensures.value c.leave_out_span.ensures.long)
          ∙ c.leave_out_span.ensures.long ∙ ap length c.as_mut_slice.ensures.value ∙ c.loop-one.invariant.long;
      own = occurrence-step occurrences index c.args.run.now.span.first size _ old given new (is_own c.args.run.now) c.loop-one-test.true whole c.as_mut_slice.ensures.value c.leave_out_span.ensures.long
          c.leave_out_span.ensures.own c.loop-one.invariant.own;
    }

pub returns : goal.returns
returns c =
    let first = c.args.run.now.span.first in
    let own : List Bool = c.loop-one.own.items in
    record {
      long = c.loop-one.invariant.long;
      own = λ at inside. sym (ap (λ b. get_or own at false && not b) (at_drop_all (λ (all : List Occurrence). is_in_one all (first + at)) c.items-occurrences.result.now c.loop-one.one-index c.loop-one-test.false)
          ∙ and-true (get_or own at false)) ∙ c.loop-one.invariant.own at inside;
    }
