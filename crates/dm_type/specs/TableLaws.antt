-- What stays as a table grows, for the layers above.
use Rattle.std.specs.Prelude.{◌≡◌, ℕ, zero, suc, ◌<◌, ◌≤◌, List, [], ◌∷◌, ◌++◌, length, map, fold, All, Some, slice_get}
use Rattle.std.proofs.Common.{refl, sym, ap, ◌∙◌, arith, append_assoc, append-nil}
use Rattle.std.proofs.lemmas.List.{length-append, get_or_append_left}
use Rattle.std.proofs.lemmas.List.Sums.{fold-append}
use Rattle.std.proofs.lemmas.Option.{none-some}
use Rattle.std.proofs.lemmas.List.Elements.{All-head, All-tail}
use Rattle.std.proofs.Math.Seq.{get_or-append_seam}
use Rattle.dm_type.specs.declared.shape.Shape.{Shape}
use Rattle.dm_type.specs.declared.shape.Shape.TheVariants.{Void, Integer, Pointer, Array, Struct, Function, Const}
use Rattle.dm_type.specs.CTypes.{CType, void, pointer, array, function, all_of, with_const}
use Rattle.dm_type.specs.Tables.{Table, at, written_out, types_of, type_of, IsId, Extends}
use Rattle.dm_type.specs.Sound.{IsBelow}

-- the types after one more shape
abbrev step : List CType → Shape → List CType
step types shape = types ++ written_out types shape ∷ []

-- more shapes put more types behind
grown : (types : List CType) (shapes : List Shape) → (more : List CType) × (fold step types shapes ≡ types ++ more) × (length more ≡ length shapes)
grown types [] = ([], sym (append-nil types), refl)
grown types (shape ∷ shapes) =
    let rest = grown (step types shape) shapes in
    (written_out types shape ∷ rest.0, rest.1 ∙ append_assoc types (written_out types shape ∷ []) rest.0, ap suc rest.2)

at-grown : (types : List CType) (shapes : List Shape) (id : ℕ) → id < length types → at (fold step types shapes) id ≡ at types id
at-grown types shapes id inside =
    let all = grown types shapes in
    ap (λ ts. at ts id) all.1 ∙ get_or_append_left types all.0 void id inside

-- each shape has a type
pub length-types_of : (shapes : List Shape) → length (types_of shapes) ≡ length shapes
unfolding types_of
length-types_of shapes = let all = grown [] shapes in ap length all.1 ∙ all.2

-- the type of a new shape stands last
pub types_of-push : (shapes : List Shape) (shape : Shape) → types_of (shapes ++ shape ∷ []) ≡ types_of shapes ++ written_out (types_of shapes) shape ∷ []
unfolding types_of
types_of-push shapes shape = fold-append step [] shapes (shape ∷ [])

-- earlier numbers keep their types
pub at-types_of-append : (shapes more : List Shape) (id : ℕ) → id < length shapes → at (types_of (shapes ++ more)) id ≡ at (types_of shapes) id
unfolding types_of
at-types_of-append shapes more id inside =
    let n = length-types_of shapes in
    let front : at (fold step [] (shapes ++ more)) id ≡ at (fold step (types_of shapes) more) id = ap (λ ts. at ts id) (fold-append step [] shapes more) in
    front ∙ at-grown (types_of shapes) more id (omega (arith, n, inside))

-- the types of a new shape's number
pub at-types_of-last : (shapes : List Shape) (shape : Shape) (more : List Shape) → at (types_of (shapes ++ shape ∷ more)) (length shapes) ≡ written_out (types_of shapes) shape
at-types_of-last shapes shape more =
    let n = length-types_of shapes in
    let front : length shapes < length (shapes ++ shape ∷ []) = let l = length-append shapes (shape ∷ []) in omega (arith, l) in
    ap (λ ss. at (types_of ss) (length shapes)) (sym (append_assoc shapes (shape ∷ []) more))
    ∙ at-types_of-append (shapes ++ shape ∷ []) more (length shapes) front
    ∙ ap (λ ts. at ts (length shapes)) (types_of-push shapes shape)
    ∙ ap (λ k. at (types_of shapes ++ written_out (types_of shapes) shape ∷ []) k) (sym n)
    ∙ get_or-append_seam (types_of shapes) (written_out (types_of shapes) shape) [] void

-- types in which some numbers have the same types
map-same : (these those : List CType) (limit : ℕ) → ((id : ℕ) → id < limit → at these id ≡ at those id) → (ids : List ℕ) → All (λ id. id < limit) ids
    → map (at these) ids ≡ map (at those) ids
map-same these those limit same [] all = refl
map-same these those limit same (id ∷ ids) all =
    ap (λ t. t ∷ map (at these) ids) (same id (All-head (λ i. i < limit) id ids all)) ∙ ap (λ ts. at those id ∷ ts) (map-same these those limit same ids (All-tail (λ i. i < limit) id ids all))

-- so a shape has one type in both
pub written_out-same : (these those : List CType) (limit structs : ℕ) → ((id : ℕ) → id < limit → at these id ≡ at those id) → (shape : Shape) → IsBelow limit structs shape
    → written_out these shape ≡ written_out those shape
written_out-same these those limit structs same Void below = refl
written_out-same these those limit structs same (Integer kind) below = refl
written_out-same these those limit structs same (Pointer id) below = ap pointer (same id below)
written_out-same these those limit structs same (Array id length) below = ap (λ t. array t length) (same id below.0)
written_out-same these those limit structs same (Struct number) below = refl
written_out-same these those limit structs same (Function result parameters) below =
    ap (λ t. function t (all_of (map (at these) parameters))) (same result below.0)
    ∙ ap (λ ts. function (at those result) (all_of ts)) (map-same these those limit same parameters below.1)
written_out-same these those limit structs same (Const id) below = ap with_const (same id below)

pub injected : {A : Type 0} (x y : A) → Some x ≡ Some y → x ≡ y
injected x y e = cc

-- a number that is found has a place in the list
split : {A : Type 0} (xs : List A) (k : ℕ) (x : A) → slice_get xs k ≡ Some x → (front : List A) × (back : List A) × (xs ≡ front ++ x ∷ back) × (length front ≡ k)
split [] k x found = absurd (none-some x found)
split (y ∷ xs) zero x found = ([], xs, ap (λ z. z ∷ xs) (injected y x found), refl)
split (y ∷ xs) (suc k) x found = let rest = split xs k x found in (y ∷ rest.0, rest.1, ap (λ zs. y ∷ zs) rest.2, ap suc rest.3)

-- what is made of types below a number is made of types below a greater one
pub below-more : (less more structs : ℕ) (shape : Shape) → less ≤ more → IsBelow less structs shape → IsBelow more structs shape
below-more less more structs Void le below = below
below-more less more structs (Integer kind) le below = below
below-more less more structs (Pointer id) le below = omega (arith, le, below)
below-more less more structs (Array id length) le below = (let first = below.0 in omega (arith, le, first), below.1)
below-more less more structs (Struct number) le below = below
below-more less more structs (Function result parameters) le below =
    (let first = below.0 in omega (arith, le, first), λ k d inside. let one = below.1 k d inside in omega (arith, le, one))
below-more less more structs (Const id) le below = omega (arith, le, below)

-- the type of a number is that of its shape
pub at-types_of : (shapes : List Shape) (structs k : ℕ) (shape : Shape) → slice_get shapes k ≡ Some shape → IsBelow k structs shape
    → at (types_of shapes) k ≡ written_out (types_of shapes) shape
at-types_of shapes structs k shape found below =
    let parts = split shapes k shape found in
    let here : at (types_of shapes) k ≡ written_out (types_of parts.0) shape =
    ap (λ ss. at (types_of ss) k) parts.2 ∙ ap (λ n. at (types_of (parts.0 ++ shape ∷ parts.1)) n) (sym parts.3) ∙ at-types_of-last parts.0 shape parts.1 in
    let same : (id : ℕ) → id < k → at (types_of parts.0) id ≡ at (types_of shapes) id =
    λ id lt. sym (ap (λ ss. at (types_of ss) id) parts.2 ∙ at-types_of-append parts.0 (shape ∷ parts.1) id (let e = parts.3 in omega (arith, e, lt))) in
    here ∙ written_out-same (types_of parts.0) (types_of shapes) k structs same shape below

-- A number of the old table has its type in the new one.
pub type_of-kept : (old new : Table) (id : ℕ) → Extends old new → IsId old id → type_of new id ≡ type_of old id
type_of-kept old new id kept inside =
    ap (λ ss. at (types_of ss) id) kept.0.1 ∙ at-types_of-append old.shapes kept.0.0 id inside

pub id-kept : (old new : Table) (id : ℕ) → Extends old new → IsId old id → IsId new id
id-kept old new id kept inside =
    let l = length-append old.shapes kept.0.0 in
    let n : length new.shapes ≡ length (old.shapes ++ kept.0.0) = ap length kept.0.1 in
    omega (arith, l, n, inside)

-- A table extends itself, and what extends an extension extends the first.
pub extends-itself : (table : Table) → Extends table table
extends-itself table = (([], sym (append-nil table.shapes)), refl)

pub extends-on : (a b c : Table) → Extends a b → Extends b c → Extends a c
extends-on a b c first second =
    ((first.0.0 ++ second.0.0, second.0.1 ∙ ap (λ ss. ss ++ second.0.0) first.0.1 ∙ append_assoc a.shapes first.0.0 second.0.0), second.1 ∙ first.1)
