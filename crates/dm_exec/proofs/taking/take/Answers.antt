-- What a step leaves is the definition's, by what comes next.
use Rattle.std.proofs.Common.{length, subst}
use Rattle.dm_type.specs.Tables.{Table}
use Rattle.dm_meaning.specs.Steps.{handed_back}
use Rattle.dm_value.specs.Views.{view_of_value}
use Rattle.dm_program.specs.Sources.{meant}
use Rattle.dm_state.specs.Turns.{state_with, IsLeft}
use Rattle.dm_exec.proofs.DueLemmas.{behind-end, behind-switch}
use Rattle.dm_exec.proofs.TakeLemmas.{took-begins, took-declares, took-ends, took-initials, took-leaves, took-skips, took-switch, took-value}
use Rattle.dm_exec.proofs.taking.take.Goals as goal

pub returns-in_ok-begin-in-Begins : goal.returns-in_ok-begin-in-Begins
returns-in_ok-begin-in-Begins c = λ tasks choice.
    took-begins c.args.program.now.table (meant c.args.program.now) choice c.args.running.now c.begin.new.self tasks c.args.next c.in-Begins.tree c.in-Begins.is (c.in_ok-begin-in-Begins.ensures tasks)

pub returns-in_ok-declare-in-Declares : goal.returns-in_ok-declare-in-Declares
returns-in_ok-declare-in-Declares c = λ tasks choice.
    took-declares c.args.program.now.table (meant c.args.program.now) choice c.args.running.now c.declare.new.self tasks c.args.next c.in-Declares.local c.in-Declares.is (c.in_ok-declare-in-Declares.ensures tasks)

pub returns-in_ok-initialise-in-Initials : goal.returns-in_ok-initialise-in-Initials
returns-in_ok-initialise-in-Initials c = λ tasks choice.
    took-initials c.args.program.now.table (meant c.args.program.now) choice c.args.running.now c.initialise.new.self tasks c.args.next c.in-Initials.at c.in-Initials.kind c.in-Initials.initial c.in-Initials.is (c.in_ok-initialise-in-Initials.ensures tasks)

pub returns-in_ok-leave-in-Leaves : goal.returns-in_ok-leave-in-Leaves
returns-in_ok-leave-in-Leaves c = λ tasks choice.
    took-leaves c.args.program.now.table (meant c.args.program.now) choice c.args.running.now c.leave.new.self tasks c.args.next c.in-Leaves.is (c.in_ok-leave-in-Leaves.ensures c.args.program.now.table tasks c.requires.fits)

pub returns-in_ok-skip-in-Skips : goal.returns-in_ok-skip-in-Skips
returns-in_ok-skip-in-Skips c = λ tasks choice.
    took-skips c.args.program.now.table (meant c.args.program.now) choice c.args.running.now c.skip.new.self tasks c.args.next c.in-Skips.is (c.in_ok-skip-in-Skips.ensures c.args.program.now.table tasks c.requires.fits)

pub returns-in-Ends : goal.returns-in-Ends
returns-in-Ends c = λ tasks choice.
    let table = c.args.program.now.table in
    let old = c.args.running.now in
    let fits = behind-end table (length old.frame.objects) c.args.next c.in-Ends.alive old.frame.tasks c.in-Ends.is c.requires.next in
    took-ends table (meant c.args.program.now) choice old c.end.new.self tasks c.args.next c.in-Ends.alive c.in-Ends.is
    (c.end.ensures table tasks fits.0 fits.1 c.requires.fits.blocks c.requires.fits.callers)

pub returns-in-EndsSwitch : goal.returns-in-EndsSwitch
returns-in-EndsSwitch c = λ tasks choice.
    let table = c.args.program.now.table in
    let old = c.args.running.now in
    let fits = behind-switch table (length old.frame.objects) c.args.next c.in-EndsSwitch.alive old.frame.tasks c.in-EndsSwitch.is c.requires.next in
    took-switch table (meant c.args.program.now) choice old c.end-in-EndsSwitch.new.self tasks c.args.next c.in-EndsSwitch.alive c.in-EndsSwitch.is
    (c.end-in-EndsSwitch.ensures table tasks fits.0 fits.1 c.requires.fits.blocks c.requires.fits.callers)

pub returns-in_ok-turn-in-HandsBack : goal.returns-in_ok-turn-in-HandsBack
returns-in_ok-turn-in-HandsBack c = λ tasks choice.
    let old = c.args.running.now in
    let left =
    subst (λ (table : Table). IsLeft table c.in_ok-turn-in-HandsBack.turn c.hand_back.new.self (handed_back (state_with table tasks old) (view_of_value c.in-HandsBack.value) (state_with table tasks old).callers))
    c.layout.ensures (c.in_ok-turn-in-HandsBack.ensures tasks) in
    took-value c.args.program.now.table (meant c.args.program.now) choice old c.hand_back.new.self tasks c.args.next c.in-HandsBack.value c.in_ok-turn-in-HandsBack.turn c.in-HandsBack.is left
