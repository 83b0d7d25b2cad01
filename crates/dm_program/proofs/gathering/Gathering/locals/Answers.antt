-- One declarator after the other.
use Rattle.std.proofs.Common.{◌≡◌, length, rules}
use Rattle.dm_program.proofs.WalkLemmas.{locals-more, locals-none}
use Rattle.dm_program.proofs.gathering.Gathering.locals.Goals as goal

pub loop-local-preserved : goal.loop-local-preserved
loop-local-preserved c = λ made more.
    c.loop-local.invariant made (locals-more c.loop-local.self c.local.new.self made c.loop-local.left.now c.in-Some.local.now c.in-Some.rest.now c.in-Some.ensures.cases.0 c.in_ok-local.ensures more)

pub returns : goal.returns
returns c =
    let none : length c.loop-local.left.now ≡ 0 = search rules in
    c.loop-local.invariant c.loop-local.self (locals-none c.loop-local.self c.loop-local.left.now none)
