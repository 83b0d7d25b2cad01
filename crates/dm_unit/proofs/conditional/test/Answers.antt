use Rattle.std.proofs.Common.{sym, subst}
use Rattle.dm_unit.specs.Loaders.{shown}
use Rattle.dm_unit.specs.declared.directive.Directive.{Directive}
use Rattle.dm_unit.specs.Views.{state_of, Tests, TestsBy}
use Rattle.dm_unit.proofs.conditional.test.Goals as goal

pub returns-in-Ifdef-clause-tests : goal.returns-in-Ifdef-clause-tests
returns-in-Ifdef-clause-tests c =
    let files = shown c.args.loader.now in
    subst (λ (d : Directive). Tests (TestsBy d c.args.reader.now.main c.args.start.now c.args.operands.now (state_of c.args.reader.now files)) c.test_defined.result (state_of c.test_defined.new.reader files))
    (sym c.in-Ifdef.is) (c.test_defined.ensures.tests files)

pub returns-in-Ifndef-clause-tests : goal.returns-in-Ifndef-clause-tests
returns-in-Ifndef-clause-tests c =
    let files = shown c.args.loader.now in
    subst (λ (d : Directive). Tests (TestsBy d c.args.reader.now.main c.args.start.now c.args.operands.now (state_of c.args.reader.now files)) c.test_defined-in-Ifndef.result (state_of c.test_defined-in-Ifndef.new.reader files))
    (sym c.in-Ifndef.is) (c.test_defined-in-Ifndef.ensures.tests files)
