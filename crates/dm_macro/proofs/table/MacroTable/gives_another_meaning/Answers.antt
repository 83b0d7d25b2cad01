use Rattle.std.proofs.Common.{sym, ◌∙◌}
use Rattle.dm_macro.proofs.table.MacroTable.gives_another_meaning.Goals as goal

pub definition-requires : goal.definition-requires
definition-requires c = (c.get.ensures.sound c.args.definition.now.name c.in-Some.number (sym c.get.ensures.number ∙ c.in-Some.is)).0
