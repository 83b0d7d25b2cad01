-- The types of a typed unit's entries and trees are numbered.
use Rattle.std.proofs.Common.{All, sym, subst}
use Rattle.dm_type.specs.Tables.{IsId}
use Rattle.dm_tree.specs.declared.unit.Declared.{Declared}
use Rattle.unit_list.specs.Known.{IsKnownExternal}
use Rattle.unit_list.proofs.KnownLemmas.{entries-known, externals-known}
use Rattle.unit_list.proofs.listing.put_core.Goals as goal

pub put_entries-requires : goal.put_entries-requires
put_entries-requires c =
    subst (λ entries. All (λ (entry : Declared). IsId c.args.types.now entry.kind) entries) (sym c.items-2.ensures)
    (entries-known c.args.types.now c.args.core.now.declared c.requires.known_in_entries)

pub put_externals-requires : goal.put_externals-requires
put_externals-requires c =
    subst (λ externals. All (IsKnownExternal c.args.types.now) externals) (sym c.items-5.ensures)
    (externals-known c.args.types.now c.args.core.now.externals c.requires.known_in_trees)
