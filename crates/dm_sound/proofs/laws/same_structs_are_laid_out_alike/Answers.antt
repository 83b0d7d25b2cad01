use Rattle.dm_sound.proofs.LayoutLemmas.{laid_out_alike, constants_alike}
use Rattle.dm_sound.proofs.laws.same_structs_are_laid_out_alike.Goals as goal

pub returns-clause-layout : goal.returns-clause-layout
returns-clause-layout c old new program same = laid_out_alike old new same program

pub returns-clause-constants : goal.returns-clause-constants
returns-clause-constants c old new program tree same = constants_alike old new same program tree
