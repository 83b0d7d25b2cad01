-- What a sound table says of a shape.
use Rattle.std.proofs.Common.{◌≡◌, Some, slice_get, get_or, sym, ap, ◌∙◌, subst}
use Rattle.std.proofs.lemmas.Option.{slice_get-get_or, get_or_from_slice_get}
use Rattle.dm_type.specs.Tables.{Table, as_is, types_of}
use Rattle.dm_type.specs.Sound.{IsSound}
use Rattle.dm_type.specs.declared.shape.Shape.{Shape}
use Rattle.dm_type.specs.declared.shape.Shape.TheVariants.{Void}
use Rattle.dm_type.proofs.DistinctLemmas.{distinct, type-seen}
use Rattle.dm_type.proofs.SoundLemmas.{shape-facts}
use Rattle.dm_type.proofs.types.Types.shape.Goals as goal

sound : (c : goal.After-index-as_slice-index) → IsSound c.args.self.now
sound c = subst IsSound c.self.view_is c.self.invariant.0

found : (c : goal.After-index-as_slice-index) → slice_get c.args.self.now.shapes c.args.id ≡ Some c.index-as_slice-index.result
found c =
    let shape : Shape = c.index-as_slice-index.result in
    let shapes : c.as_slice.result.now ≡ c.args.self.now.shapes = c.as_slice.ensures.keys ∙ ap (λ (t : Table). t.shapes) c.self.view_is in
    let at : get_or c.args.self.now.shapes c.args.id shape ≡ shape =
    ap (λ xs. get_or xs c.args.id shape) (sym shapes) ∙ ap (λ k. get_or c.as_slice.result.now k shape) (sym c.index.ensures) ∙ sym c.index-as_slice-index.is in
    slice_get-get_or c.args.self.now.shapes c.args.id shape c.requires ∙ ap Some at

pub returns-clause-typed : goal.returns-clause-typed
returns-clause-typed c = (shape-facts c.args.self.now c.args.id c.index-as_slice-index.result (sound c) (found c)).0

pub returns-clause-exact : goal.returns-clause-exact
returns-clause-exact c =
    type-seen c.args.self.now (sound c) c.args.id c.requires
    ∙ ap (as_is (types_of c.args.self.now.shapes)) (get_or_from_slice_get c.args.self.now.shapes c.args.id c.index-as_slice-index.result Void (found c))

pub returns-clause-over : goal.returns-clause-over
returns-clause-over c = (shape-facts c.args.self.now c.args.id c.index-as_slice-index.result (sound c) (found c)).1

pub returns-clause-below : goal.returns-clause-below
returns-clause-below c = (shape-facts c.args.self.now c.args.id c.index-as_slice-index.result (sound c) (found c)).2

pub returns-clause-plain : goal.returns-clause-plain
returns-clause-plain c = (shape-facts c.args.self.now c.args.id c.index-as_slice-index.result (sound c) (found c)).3

pub returns-clause-distinct : goal.returns-clause-distinct
returns-clause-distinct c = distinct c.args.self.now (sound c)
