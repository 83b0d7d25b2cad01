use Rattle.std.proofs.Common.{ap, ◌∙◌, sym, get_or}
use Rattle.std.specs.FinSet as set
use Rattle.std.proofs.lemmas.List.{take_all, take_more}
use Rattle.dm_expand.proofs.HiddenLemmas.{of_list, push-is, union-nothing, union-insert, union-front}
use Rattle.dm_expand.proofs.hidden.Hidden.union.Goals as goal

pub returns-then-is_front : goal.returns-then-is_front
returns-then-is_front c = c.in_ok-longer.ensures ∙ union-front _ _ _ _ _ c.numbers-mine.ensures c.numbers-theirs.ensures (c.is_front.ensures c.if-is_front.true)

pub returns-then-hides_all : goal.returns-then-hides_all
returns-then-hides_all c =
    c.in_ok-longer-2.ensures ∙ c.hides_all.ensures c.if-hides_all.true ∙ ap (λ s. set.union c.args.self.now s) c.numbers-theirs.ensures

pub loop-number-init : goal.loop-number-init
loop-number-init c = ap of_list c.in_ok-all.ensures ∙ c.numbers-mine.ensures ∙ union-nothing _

pub loop-number-preserved : goal.loop-number-preserved
loop-number-preserved c =
    let numbers = c.numbers-theirs.result.now in
    let i = c.loop-number.number-index in
    c.in_ok-add_to.ensures
    ∙ ap (λ s. set.insert s (get_or numbers i 0)) c.loop-number.invariant
    ∙ union-insert _ _ _
    ∙ ap (λ s. set.union c.args.self.now s) (sym (ap of_list (take_more numbers i 0 c.loop-number-test.true) ∙ push-is _ _))

pub returns : goal.returns
returns c =
    c.in_ok-either.ensures
    ∙ c.loop-number.invariant
    ∙ ap (λ numbers. set.union c.args.self.now (of_list numbers)) (take_all _ _ c.loop-number-test.false)
    ∙ ap (λ s. set.union c.args.self.now s) c.numbers-theirs.ensures
