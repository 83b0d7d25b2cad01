-- One step more, or the end.
use Rattle.std.proofs.Common.{ℕ, ◌+◌, ◌-◌, inl, inr, ap, sym, ◌∙◌}
use Rattle.dm_program.specs.Sources.{meant}
use Rattle.dm_exec.specs.Orders.{drawn, turned}
use Rattle.dm_exec.specs.Shown.{shown}
use Rattle.dm_exec.proofs.RunLemmas.{last-step, one-step, step-taken}
use Rattle.dm_exec.proofs.run.take_steps.Goals as goal

pub returns-in-Exited : goal.returns-in-Exited
returns-in-Exited c =
    let table = c.args.program.now.table in
    let program = meant c.args.program.now in
    let before = shown table c.loop.state in
    let later = shown table c.step.new.state in
    let number = c.loop.choices.number in
    let choice = c.draw-choice.result in
    let did = c.in_ok-step.field-0 in
    let taken = step-taken program choice before later did c.in_ok-step.ensures.step in
    let chosen = c.draw-choice.ensures.choice ∙ ap (λ (order : ℕ). drawn order (turned number)) c.loop.invariant.order in
    sym (last-step program c.args.order c.draw-choice.new.self.number (c.args.n - (c.loop.counter + 1)) choice before later did taken (λ went. elim c.in-Exited.is [ inl h ↦ cc | inr h ↦ cc ]))
    ∙ (one-step program c.args.order number c.draw-choice.new.self.number c.args.n c.loop.counter choice before later did c.loop-test.true chosen c.draw-choice.ensures.number taken
    ∙ c.loop.invariant.left)

pub loop-preserved : goal.loop-preserved
loop-preserved c =
    let table = c.args.program.now.table in
    let program = meant c.args.program.now in
    let before = shown table c.loop.state in
    let later = shown table c.step.new.state in
    let number = c.loop.choices.number in
    let choice = c.draw-choice.result in
    let did = c.in_ok-step.field-0 in
    let taken = step-taken program choice before later did c.in_ok-step.ensures.step in
    let chosen = c.draw-choice.ensures.choice ∙ ap (λ (order : ℕ). drawn order (turned number)) c.loop.invariant.order in
    record {
      fits = c.in_ok-step.ensures.fits;
      order = c.draw-choice.ensures.order ∙ c.loop.invariant.order;
      left =
          one-step program c.args.order number c.draw-choice.new.self.number c.args.n c.loop.counter choice before later did c.loop-test.true chosen c.draw-choice.ensures.number taken
          ∙ c.loop.invariant.left;
    }
