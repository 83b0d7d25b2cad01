use Rattle.std.proofs.Common.{sym, subst}
use Rattle.dm_macro.specs.Tables.{table_of, IsSound}
use Rattle.dm_macro.proofs.TableLemmas.{undefined_sound}
use Rattle.dm_macro.proofs.table.MacroTable.undefine.Goals as goal

pub invariant_of-self : goal.invariant_of-self
invariant_of-self c =
    let read = c.self.inside.read.items in (
      subst (λ names. IsSound (table_of read names)) (sym c.remove.ensures.removed) (undefined_sound read c.self.inside.names c.args.name.now c.self.invariant.0),
      c.self.invariant.1,
    )
