use Rattle.std.proofs.Common.{ap, ◌∙◌, sym, get_or, take}
use Rattle.std.specs.FinSet as set
use Rattle.std.proofs.lemmas.List.{take_all, take_more}
use Rattle.dm_expand.proofs.HiddenLemmas.{of_list, union-nothing, union-present}
use Rattle.dm_expand.proofs.hidden.Hidden.hides_all.Goals as goal

pub loop-number-init : goal.loop-number-init
loop-number-init c = union-nothing _

pub loop-number-preserved : goal.loop-number-preserved
loop-number-preserved c =
    let numbers = c.args.numbers.now in
    let i = c.loop-number.number-index in
    union-present c.args.self.now (take i numbers) (get_or numbers i 0) c.loop-number.invariant (sym c.if-not-holds.ensures)
    ∙ ap (λ some. set.union c.args.self.now (of_list some)) (sym (take_more numbers i 0 c.loop-number-test.true))

pub returns : goal.returns
returns c = λ _.
    c.loop-number.invariant ∙ ap (λ some. set.union c.args.self.now (of_list some)) (take_all c.loop-number.number-index c.args.numbers.now c.loop-number-test.false)
