-- The declarators of a declaration, or those in a body.
use Rattle.dm_program.proofs.StaticsLemmas.{declaration-gathers, function-gathers}
use Rattle.dm_program.proofs.WalkLemmas.{at-locals}
use Rattle.dm_program.proofs.gathering.Gathering.external.Goals as goal

pub returns-in_ok-locals-in-Declaration : goal.returns-in_ok-locals-in-Declaration
returns-in_ok-locals-in-Declaration c =
    declaration-gathers c.args.self.now c.locals.new.self c.args.external.now.form c.in-Declaration.locals c.in-Declaration.is
    (at-locals c.args.self.now c.locals.new.self c.in-Declaration.locals c.items.result.now c.items.ensures c.in_ok-locals-in-Declaration.ensures)

pub returns-in_ok-tree-in-Function : goal.returns-in_ok-tree-in-Function
returns-in_ok-tree-in-Function c =
    function-gathers c.args.self.now c.tree.new.self c.args.external.now.form c.in-Function.function c.in-Function.parameters c.in-Function.body c.in-Function.is c.in_ok-tree-in-Function.ensures
