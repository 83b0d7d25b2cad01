-- A shape that is there keeps its number, and a new one goes last.
use Rattle.std.proofs.Common.{◌≡◌, false, List, [], ◌∷◌, ◌++◌, length, is_some, Some, slice_get, sym, ap, ◌∙◌, subst, arith, length-append}
use Rattle.std.specs.List.{list_any, position}
use Rattle.dm_type.specs.declared.shape.Shape.{Shape}
use Rattle.dm_type.specs.declared.shape.Struct.{Struct}
use Rattle.dm_type.specs.Tables.{Table, IsShape, Has, shaped, Extends}
use Rattle.dm_type.specs.Sound.{IsSound, IsPlain}
use Rattle.dm_type.specs.TableLaws.{extends-itself}
use Rattle.dm_type.proofs.DistinctLemmas.{distinct}
use Rattle.dm_type.specs.EqualLaws.{equal, same}
use Rattle.dm_type.proofs.SoundLemmas.{sound-push, has-shape, absent-shape, found-shape, keys-new}
use Rattle.dm_type.proofs.types.Types.number.Goals as goal

pub returns-in-Some-clause-typed : goal.returns-in-Some-clause-typed
returns-in-Some-clause-typed c =
    let sound : IsSound c.args.self.now = subst IsSound c.self.view_is c.self.invariant.0 in
    let shapes : c.self.inside.shapes.keys ≡ c.args.self.now.shapes = ap (λ (t : Table). t.shapes) c.self.view_is in
    let place : position (equal c.args.shape) c.self.inside.shapes.keys ≡ Some c.in-Some.number = sym c.get_index_of.ensures.index ∙ c.in-Some.is in
    let found : slice_get c.args.self.now.shapes c.in-Some.number ≡ Some c.args.shape = subst (λ ss. slice_get ss c.in-Some.number ≡ Some c.args.shape) shapes (found-shape c.self.inside.shapes.keys c.args.shape c.in-Some.number place) in
    subst (λ n. Has c.args.self.now n (shaped c.args.self.now c.args.shape)) (sym c.new.ensures)
    (has-shape c.args.self.now c.args.self.now c.args.shape c.in-Some.number sound (extends-itself c.args.self.now) c.requires.shape found)

pub returns-in-Some-clause-distinct : goal.returns-in-Some-clause-distinct
returns-in-Some-clause-distinct c = distinct c.args.self.now (subst IsSound c.self.view_is c.self.invariant.0)

-- the table before, and after
abbrev before : List Shape → List Struct → Table
before shapes structs = record { shapes = shapes; structs = structs }

absent : (c : goal.After-new-2) → list_any (equal c.args.shape) c.self.inside.shapes.keys ≡ false
absent c = sym c.get_index_of.ensures.found ∙ ap is_some c.in_default.is

new-keys : (c : goal.After-new-2) → c.insert_full.new.self.keys ≡ c.self.inside.shapes.keys ++ c.args.shape ∷ []
new-keys c = keys-new c.self.inside.shapes.keys c.insert_full.new.self.keys c.args.shape (absent c) c.in_ok-number.ensures.keys

after-sound : (c : goal.After-new-2) → IsSound (before c.insert_full.new.self.keys c.self.inside.structs.items)
after-sound c =
    subst (λ keys. IsSound (before keys c.self.inside.structs.items)) (sym (new-keys c))
    (sound-push (before c.self.inside.shapes.keys c.self.inside.structs.items) c.args.shape c.self.invariant.0
    (subst (λ (t : Table). IsShape t c.args.shape) (sym c.self.view_is) c.requires.shape)
    (subst (λ (t : Table). IsPlain t.shapes c.args.shape) (sym c.self.view_is) c.requires.plain)
    (absent-shape c.self.inside.shapes.keys c.args.shape (absent c)))

pub invariant_of-self-2 : goal.invariant_of-self-2
invariant_of-self-2 c =
    let keys : length c.insert_full.new.self.keys ≡ length (c.self.inside.shapes.keys ++ c.args.shape ∷ []) = ap length (new-keys c) in
    let one = length-append c.self.inside.shapes.keys (c.args.shape ∷ []) in
    let pushed : length c.push_reserved.new.self.items ≡ length (c.reserve.new.self.items ++ c.in_ok-parts.parts ∷ []) = ap length c.push_reserved.ensures.items in
    let two = length-append c.reserve.new.self.items (c.in_ok-parts.parts ∷ []) in
    let reserved : length c.reserve.new.self.items ≡ length c.self.inside.parts.items = ap length c.in_ok-reserve.ensures.items in
    let counted = c.self.invariant.1 in
    let room = c.if-len-ge-MOST_TYPES.false in
    let len = c.len.ensures.len in
    (after-sound c, omega (arith, keys, one, pushed, two, reserved, counted), omega (arith, keys, one, room, len))

extends : (c : goal.After-new-2) → Extends c.args.self.now (before c.insert_full.new.self.keys c.self.inside.structs.items)
extends c =
    ((c.args.shape ∷ [], new-keys c ∙ ap (λ (t : Table). t.shapes ++ c.args.shape ∷ []) c.self.view_is), ap (λ (t : Table). t.structs) c.self.view_is)

pub returns-clause-typed : goal.returns-clause-typed
returns-clause-typed c =
    let stored = c.in_ok-number.ensures.stored in
    let found : slice_get c.insert_full.new.self.keys c.in_ok-number.number ≡ Some c.args.shape = stored.1 ∙ ap Some (sym (same c.args.shape stored.0 stored.2)) in
    subst (λ n. Has (before c.insert_full.new.self.keys c.self.inside.structs.items) n (shaped c.args.self.now c.args.shape)) (sym c.new-2.ensures)
    (has-shape c.args.self.now (before c.insert_full.new.self.keys c.self.inside.structs.items) c.args.shape c.in_ok-number.number (after-sound c) (extends c) c.requires.shape found)

pub returns-clause-kept : goal.returns-clause-kept
returns-clause-kept c = extends c

pub returns-clause-distinct : goal.returns-clause-distinct
returns-clause-distinct c = distinct (before c.insert_full.new.self.keys c.self.inside.structs.items) (after-sound c)
