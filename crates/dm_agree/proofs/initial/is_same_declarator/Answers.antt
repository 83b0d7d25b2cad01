-- The initialisers decide.
use Rattle.std.proofs.Common.{rules}
use Rattle.dm_agree.proofs.InitialLemmas.{initialised-same}
use Rattle.dm_agree.proofs.StepLemmas.{through}
use Rattle.dm_agree.proofs.initial.is_same_declarator.Goals as goal

pub returns-in-Some-Some : goal.returns-in-Some-Some
returns-in-Some-Some c a b =
    through (c.is_same_initial.ensures a b)
    (initialised-same a b c.args.block c.args.new.now c.args.old.now c.in-Some-Some.initial c.in-Some-Some.other c.in-Some-Some.is-0 c.in-Some-Some.is-1 (search rules) (search rules))
