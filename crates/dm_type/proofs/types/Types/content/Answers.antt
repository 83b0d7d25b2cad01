-- The content of a struct in a sound table.
use Rattle.std.proofs.Common.{◌≡◌, Some, slice_get, get_or, sym, ap, ◌∙◌, subst}
use Rattle.std.specs.Option.{option_and_then}
use Rattle.std.proofs.lemmas.Option.{slice_get-get_or}
use Rattle.dm_type.specs.declared.shape.Struct.{Struct}
use Rattle.dm_type.specs.Tables.{Table}
use Rattle.dm_type.specs.Sound.{IsSound}
use Rattle.dm_type.proofs.SoundLemmas.{content-facts}
use Rattle.dm_type.proofs.types.Types.content.Goals as goal

pub returns-clause-sound : goal.returns-clause-sound
returns-clause-sound c =
    let entry : Struct = c.index.result.now in
    let structs : c.self.inside.structs.items ≡ c.args.self.now.structs = ap (λ (t : Table). t.structs) c.self.view_is in
    let at : entry ≡ get_or c.args.self.now.structs c.args.number entry = c.index.ensures ∙ ap (λ xs. get_or xs c.args.number entry) structs in
    let found : slice_get c.args.self.now.structs c.args.number ≡ Some entry = slice_get-get_or c.args.self.now.structs c.args.number entry c.requires ∙ ap Some (sym at) in
    content-facts c.args.self.now c.args.number c.as_ref.result (subst IsSound c.self.view_is c.self.invariant.0)
    (c.as_ref.ensures.value ∙ sym (ap (option_and_then (λ (e : Struct). e.content)) found))
