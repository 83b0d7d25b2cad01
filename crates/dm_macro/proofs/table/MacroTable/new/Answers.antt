use Rattle.std.proofs.Common.{sym, subst, []}
use Rattle.dm_macro.specs.Tables.{table_of, IsSound}
use Rattle.dm_macro.specs.Roles.{AreAllRoles}
use Rattle.dm_macro.proofs.TableLemmas.{empty_sound}
use Rattle.dm_macro.proofs.table.MacroTable.new.Goals as goal

pub invariant_of-result : goal.invariant_of-result
invariant_of-result c = (
  subst (λ read. IsSound (table_of read c.new-3.result)) (sym c.new.ensures.items) (subst (λ names. IsSound (table_of [] names)) (sym c.new-3.ensures) empty_sound),
  subst (λ read. AreAllRoles read c.new-2.result.items) (sym c.new.ensures.items) (subst (AreAllRoles []) (sym c.new-2.ensures.items) tt),
)
