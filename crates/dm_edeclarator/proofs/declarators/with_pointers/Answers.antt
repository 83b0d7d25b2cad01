-- One pointer more in front of the steps.
use Rattle.std.specs.Prelude.{◌-◌, ◌∷◌, ◌++◌, nat_le}
use Rattle.std.proofs.Common.{sym, ap, ◌∙◌, arith, get_or}
use Rattle.dm_edeclarator.specs.Steps.{steps_over}
use Rattle.dm_typing.specs.Typing.{pointing}
use Rattle.dm_edeclarator.proofs.DeclaratorStepLemmas.{pointers-from}
use Rattle.dm_edeclarator.proofs.declarators.with_pointers.Goals as goal

pub loop-n-preserved : goal.loop-n-preserved
loop-n-preserved c =
    let before = c.loop-n.invariant in
    let made = c.in_ok-more.ensures in (
      omega (arith, before.0),
      λ later.
          made.steps later ∙ (ap (λ steps. pointing c.args.first (nat_le 1 (get_or c.args.pointers.now (c.loop-n.n - 1) 0)) ∷ steps) (before.1 later)
          ∙ ap (λ steps. steps ++ steps_over later c.args.steps) (sym (pointers-from c.args.first c.args.pointers.now c.loop-n.n c.loop-n-test.true before.0))),
      λ types all. made.numbered types tt (before.2 types all),
    )
