-- The objects are those of the definition.
use Rattle.std.proofs.Common.{ap, sym, subst, ◌∙◌}
use Rattle.dm_meaning.specs.Units.{static_numbers}
use Rattle.dm_program.specs.Sources.{meant}
use Rattle.dm_start.specs.Making.{IsMade}
use Rattle.dm_start.proofs.MakingLemmas.{statics-declared}
use Rattle.dm_start.proofs.making.make.Goals as goal

pub returns : goal.returns
returns c =
    let program = meant c.args.program.now in
    let table = c.args.program.now.table in
    subst (λ ds. IsMade program ds c.args.names.now c.args.blocks.now c.make_all.new.names c.make_all.new.blocks)
    (sym (statics-declared table c.statics.result.now) ∙ ap static_numbers c.statics.ensures.same) c.in_ok-make_all.ensures
