-- The step of a node, or the end.
use Rattle.std.proofs.Common.{false, refl}
use Rattle.dm_program.specs.Sources.{meant}
use Rattle.dm_exec.proofs.BesideLemmas.{goes-on, leaves, left-alone}
use Rattle.dm_exec.proofs.taking.evaluate.Goals as goal

pub returns-in_ok-turn : goal.returns-in_ok-turn
returns-in_ok-turn c = λ tasks.
    left-alone c.args.program.now.table c.in_ok-turn.turn (record { running = c.conclude.new.running; ongoing = c.conclude.new.ongoing; goes = false }) _ refl
    (c.in_ok-turn.ensures tasks c.args.choice)

pub returns-in-GoesOn : goal.returns-in-GoesOn
returns-in-GoesOn c = λ tasks.
    let going = c.args.going.now in
    let left =
    goes-on c.args.program.now.table (meant c.args.program.now) c.args.choice going.running c.advance.new.running tasks going.ongoing c.advance.new.ongoing c.in_ok-advance.field-0 c.in-GoesOn.is
    (c.in_ok-advance.ensures tasks) in
    (left.1, λ goes. left.0)

pub returns-in-Left : goal.returns-in-Left
returns-in-Left c = λ tasks.
    let going = c.args.going.now in
    left-alone c.args.program.now.table c.in-Left.turn (record { running = c.advance.new.running; ongoing = c.advance.new.ongoing; goes = false }) _ refl
    (leaves c.args.program.now.table (meant c.args.program.now) c.args.choice going.running c.advance.new.running tasks going.ongoing c.advance.new.ongoing c.in_ok-advance.field-0 c.in-Left.turn c.in-Left.is
    (c.in_ok-advance.ensures tasks))
