use Rattle.std.proofs.Common.{◌≡◌, ◌<◌, length, refl, sym, ap, ◌∙◌, Some, slice_get, arith, rules, vec_len}
use Rattle.std.proofs.lemmas.Option.{slice_get_read}
use Rattle.dm_token.specs.declared.expansion.Definition.{Definition}
use Rattle.dm_macro.specs.Tables.{Table}
use Rattle.dm_macro.proofs.RoleLemmas.{all-count, all-at}
use Rattle.dm_macro.proofs.table.MacroTable.body.Goals as goal

pub index-requires-2 : goal.index-requires-2
index-requires-2 c =
    let counted : vec_len c.self.inside.roles ≡ length c.self.inside.roles.items = search rules in
    let read : length c.self.inside.read.items ≡ length c.args.self.now.read = ap (λ (table : Table). length table.read) c.self.view_is in
    omega (arith, counted, read, c.requires, all-count c.self.inside.read.items c.self.inside.roles.items c.self.invariant.1)

pub new-requires : goal.new-requires
new-requires c =
    let read : length c.self.inside.read.items ≡ length c.args.self.now.read = ap (λ (table : Table). length table.read) c.self.view_is in
    all-at c.self.inside.read.items c.self.inside.roles.items c.args.number c.index.result.now c.index-2.result.now c.self.invariant.1 (omega (arith, read, c.requires)) c.index.ensures c.index-2.ensures

pub returns : goal.returns
returns c =
    let read = c.self.inside.read.items in
    let same : length read ≡ length c.args.self.now.read = ap (λ (table : Table). length table.read) c.self.view_is in
    ap (λ (table : Table). slice_get table.read c.args.number) (sym c.self.view_is)
    ∙ slice_get_read read (length read) c.args.number c.index.result.now refl (omega (arith, same, c.requires)) c.index.ensures
    ∙ ap (λ (definition : Definition). Some definition) (sym c.new.ensures)
