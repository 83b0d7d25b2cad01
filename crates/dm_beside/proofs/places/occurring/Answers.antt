-- One occurrence more.
use Rattle.std.proofs.Common.{◌≡◌, ◌||◌, ◌==◌, Bool, false, List, get_or, length, replicate, ap, sym, ◌∙◌, arith, rules}
use Rattle.std.specs.List.{list_any}
use Rattle.std.proofs.lemmas.List.{get_or-replicate, length-replicate, take_all}
use Rattle.std.proofs.lemmas.List.Folds.{list_any_more}
use Rattle.dm_runs.specs.declared.run.Occurrence.{Occurrence}
use Rattle.dm_beside.proofs.places.occurring.Goals as goal

pub loop-one-init : goal.loop-one-init
loop-one-init c =
    let count = c.args.count in
    let marks : List Bool = c.in_ok-marks.marks.items in
    let are : marks ≡ replicate count false = c.in_ok-marks.ensures.items_if_clones_equal (λ y clone. search rules) in
    record {
      long = ap length are ∙ length-replicate count false;
      marked = λ n less. ap (λ (them : List Bool). get_or them n false) are ∙ get_or-replicate count n false false less;
    }

abbrev nobody : Occurrence
nobody = record { parameter = 0; occurrence = 0; span = record { first = 0; after = 0 } }

pub loop-one-preserved : goal.loop-one-preserved
loop-one-preserved c =
    let known = c.loop-one.invariant in
    let long = known.long in
    let all = c.items-occurrences.result.now in
    let i = c.loop-one.one-index in
    record {
      long = c.mark.ensures.long ∙ long;
      marked = λ n less. c.mark.ensures.marked n (omega (arith, less, long))
          ∙ (ap (λ (b : Bool). b || ((get_or all i nobody).parameter == n)) (known.marked n less)
          ∙ sym (list_any_more (λ (one : Occurrence). one.parameter == n) all i nobody c.loop-one-test.true));
    }

pub returns : goal.returns
returns c n less =
    c.loop-one.invariant.marked n less
    ∙ (ap (list_any (λ (one : Occurrence). one.parameter == n)) (take_all c.loop-one.one-index c.items-occurrences.result.now c.loop-one-test.false)
    ∙ ap (list_any (λ (one : Occurrence). one.parameter == n)) c.items-occurrences.ensures)
