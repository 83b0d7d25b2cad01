-- What waits last enters.
use Rattle.std.proofs.Common.{rules, ◌≡◌, ◌||◌, Bool, List, [], sym, ap, ◌∙◌}
use Rattle.std.proofs.Math.Bool.{or-false}
use Rattle.dm_tree.specs.Views.{view}
use Rattle.dm_align.specs.declared.places.Waiting.{Waiting}
use Rattle.dm_align.specs.Places.{has, stands_in, is_unevaluated_below, waits, waits_unevaluated}
use Rattle.dm_align.proofs.PlaceLemmas.{waits-last}
use Rattle.dm_align.proofs.places.add_tree.Goals as goal

pub loop-one-preserved : goal.loop-one-preserved
loop-one-preserved c =
    let all = c.loop-one.waiting.items in
    let front = c.pop.new.self.items in
    let one : Waiting = c.in-Some.one in
    record {
      all = λ types span wanted.
          c.in_ok-enter.ensures.all types span wanted
          ∙ (sym (ap (λ (rest : Bool). has c.loop-one.places.all span || rest) (waits-last (λ (w : Waiting). stands_in span (view types w.tree.now)) all front one c.in-Some.ensures.items))
          ∙ c.loop-one.invariant.all types span wanted);
      unevaluated = λ types span wanted.
          c.in_ok-enter.ensures.unevaluated types span wanted
          ∙ (sym (ap (λ (rest : Bool). has c.loop-one.places.unevaluated span || rest) (waits-last (λ (w : Waiting). is_unevaluated_below w.unevaluated span (view types w.tree.now)) all front one c.in-Some.ensures.items))
          ∙ c.loop-one.invariant.unevaluated types span wanted);
    }

pub returns-clause-all : goal.returns-clause-all
returns-clause-all c types span wanted =
    let none : c.loop-one.waiting.items ≡ [] = search rules in
    sym (or-false (has c.loop-one.places.all span)) ∙ (ap (λ (waiting : List Waiting). has c.loop-one.places.all span || waits types span waiting) (sym none) ∙ c.loop-one.invariant.all types span wanted)

pub returns-clause-unevaluated : goal.returns-clause-unevaluated
returns-clause-unevaluated c types span wanted =
    let none : c.loop-one.waiting.items ≡ [] = search rules in
    sym (or-false (has c.loop-one.places.unevaluated span))
    ∙ (ap (λ (waiting : List Waiting). has c.loop-one.places.unevaluated span || waits_unevaluated types span waiting) (sym none) ∙ c.loop-one.invariant.unevaluated types span wanted)
