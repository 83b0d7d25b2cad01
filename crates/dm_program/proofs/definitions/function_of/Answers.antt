-- The definition of a sound external declaration fits.
use Rattle.std.proofs.Common.{refl}
use Rattle.dm_program.proofs.DefinitionLemmas.{function-fits}
use Rattle.dm_program.proofs.definitions.function_of.Goals as goal

pub returns-in-Function-clause-fits : goal.returns-in-Function-clause-fits
returns-in-Function-clause-fits c = λ source sound.
    function-fits source c.args.external.now c.in-Function.function c.in-Function.parameters c.in-Function.body c.in-Function.is sound _ refl c.items.ensures refl c.items_of.ensures
