-- A struct gets its members.
use Rattle.std.proofs.Common.{◌≡◌, ℕ, List, All, Option, Some, slice_set, slice_get, get_or, refl, sym, ap, ◌∙◌, subst}
use Rattle.std.specs.Option.{option_and_then}
use Rattle.std.proofs.lemmas.Option.{slice_get-get_or}
use Rattle.dm_type.specs.declared.shape.Shape.{Shape}
use Rattle.dm_type.specs.declared.shape.Struct.{Struct}
use Rattle.dm_type.specs.declared.shape.Member.{Member}
use Rattle.dm_type.specs.declared.layout.Layout.{Layout}
use Rattle.dm_type.specs.Tables.{Table, IsId, tag_of}
use Rattle.dm_type.specs.Layouts.{struct_layout}
use Rattle.dm_type.proofs.SoundLemmas.{sound-content}
use Rattle.dm_type.proofs.types.Types.set_members.Goals as goal

-- a table with one struct set
abbrev table : List Shape → List Struct → ℕ → Option (List ℕ) → List Member → Option Layout → Table
table shapes structs number tag members layout =
    record { shapes = shapes; structs = slice_set structs number (record { tag = tag; content = Some (record { members = members; layout = layout }) }) }

pub invariant_of-self : goal.invariant_of-self
invariant_of-self c = (
  sound-content (record { shapes = c.self.inside.shapes.keys; structs = c.self.inside.structs.items }) c.args.number _ _ c.self.invariant.0 refl
      (subst (λ (t : Table). All (λ member. IsId t member.kind) c.args.members) (sym c.self.view_is) c.requires.types, c.struct_layout-layout.ensures.within),
  c.self.invariant.1,
  c.self.invariant.2,
)

pub returns-clause-members : goal.returns-clause-members
returns-clause-members c =
    let entry : Struct = c.index_mut-entry.result.now in
    let shapes : c.self.inside.shapes.keys ≡ c.args.self.now.shapes = ap (λ (t : Table). t.shapes) c.self.view_is in
    let structs : c.self.inside.structs.items ≡ c.args.self.now.structs = ap (λ (t : Table). t.structs) c.self.view_is in
    let at : entry ≡ get_or c.args.self.now.structs c.args.number entry = c.index_mut-entry.ensures.value ∙ ap (λ xs. get_or xs c.args.number entry) structs in
    let found : slice_get c.args.self.now.structs c.args.number ≡ Some entry = slice_get-get_or c.args.self.now.structs c.args.number entry c.requires.number ∙ ap Some (sym at) in
    let tag : entry.tag ≡ tag_of c.args.self.now c.args.number = sym (ap (option_and_then (λ (e : Struct). e.tag)) found) in
    let layout : c.struct_layout-layout.result ≡ struct_layout c.args.self.now c.args.members = c.struct_layout-layout.ensures.layout ∙ ap (struct_layout c.args.self.now) c.items.ensures in
    ap (λ xs. table xs c.self.inside.structs.items c.args.number entry.tag c.args.members c.struct_layout-layout.result) shapes
    ∙ ap (λ xs. table c.args.self.now.shapes xs c.args.number entry.tag c.args.members c.struct_layout-layout.result) structs
    ∙ ap (λ t. table c.args.self.now.shapes c.args.self.now.structs c.args.number t c.args.members c.struct_layout-layout.result) tag
    ∙ ap (table c.args.self.now.shapes c.args.self.now.structs c.args.number (tag_of c.args.self.now c.args.number) c.args.members) layout
