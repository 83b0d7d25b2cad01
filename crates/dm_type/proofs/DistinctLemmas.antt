-- Equal types have one number.
use Rattle.std.proofs.Common.{◌≡◌, ℕ, zero, suc, ◌<◌, ◌≤◌, List, [], ◌∷◌, length, map, Option, Some, None, slice_get, get_or, drop, refl, sym, ap, ◌∙◌, arith}
use Rattle.std.specs.Prelude.{All}
use Rattle.std.proofs.lemmas.Option.{slice_get-get_or}
use Rattle.std.proofs.lemmas.List.Elements.{All-head, All-tail}
use Rattle.dm_int.specs.declared.Kind.{Kind}
use Rattle.dm_type.specs.declared.shape.Shape.{Shape}
use Rattle.dm_type.specs.declared.shape.Shape.TheVariants.{Void, Integer, Pointer, Array, Struct, Function, Const}
use Rattle.dm_type.specs.CTypes.{CType, void, integer, pointer, array, struct, function, const, all_of, list_of, with_const}
use Rattle.dm_type.specs.Tables.{Table, at, as_is, written_out, types_of, IsId, AreDistinct}
use Rattle.dm_type.specs.Sound.{IsBelow, IsPlain, CanBeConst, IsSound}
use Rattle.dm_type.specs.TableLaws.{at-types_of, below-more}

-- which way a type is made
abbrev way : CType → ℕ
way void = 0
way (integer kind) = 1
way (pointer type) = 2
way (array type length) = 3
way (struct number) = 4
way (function result parameters) = 5
way (const type) = 6

-- the parts of a type, where it has them
abbrev kind_in : Kind → CType → Kind
kind_in other (integer kind) = kind
kind_in other type = other

abbrev inner : CType → CType
inner (pointer type) = type
inner (array type length) = type
inner (function result parameters) = result
inner (const type) = type
inner type = type

abbrev length_in : CType → Option ℕ
length_in (array type length) = length
length_in type = None

abbrev struct_in : CType → ℕ
struct_in (struct number) = number
struct_in type = 0

abbrev parameters_in : CType → List CType
parameters_in (function result parameters) = list_of parameters
parameters_in type = []

list-all : (types : List CType) → list_of (all_of types) ≡ types
list-all [] = refl
list-all (type ∷ types) = ap (λ ts. type ∷ ts) (list-all types)

-- a type that may be const is made const directly
can-be-const : (types : List CType) (shape : Shape) → CanBeConst shape → with_const (written_out types shape) ≡ const (written_out types shape)
can-be-const types Void can = refl
can-be-const types (Integer kind) can = refl
can-be-const types (Pointer id) can = refl
can-be-const types (Array id length) can = absurd can
can-be-const types (Struct number) can = refl
can-be-const types (Function result parameters) can = refl
can-be-const types (Const id) can = absurd can

-- Numbers below a limit have one type only where they are one.
abbrev Apart : List CType → ℕ → Type 0
Apart types limit = (a b : ℕ) → a < limit → b < limit → at types a ≡ at types b → a ≡ b

same-ids : (types : List CType) (limit : ℕ) → Apart types limit → (these those : List ℕ) → All (λ id. id < limit) these → All (λ id. id < limit) those
    → map (at types) these ≡ map (at types) those → these ≡ those
same-ids types limit apart [] [] first second e = refl
same-ids types limit apart [] (b ∷ those) first second e = absurd (let n : ◌≡◌ {A = ℕ} 0 (suc (length (map (at types) those))) = ap length e in omega (arith, n))
same-ids types limit apart (a ∷ these) [] first second e = absurd (let n : ◌≡◌ {A = ℕ} (suc (length (map (at types) these))) 0 = ap length e in omega (arith, n))
same-ids types limit apart (a ∷ these) (b ∷ those) first second e =
    let head : a ≡ b = apart a b (All-head (λ i. i < limit) a these first) (All-head (λ i. i < limit) b those second) (ap (λ ts. get_or ts 0 void) e) in
    let rest : these ≡ those = same-ids types limit apart these those (All-tail (λ i. i < limit) a these first) (All-tail (λ i. i < limit) b those second) (ap (drop 1) e) in
    cc

-- shapes over such numbers have one type only where they are one
same-shapes : (types : List CType) (limit structs : ℕ) → Apart types limit → (this that : Shape) → IsBelow limit structs this → IsBelow limit structs that
    → as_is types this ≡ as_is types that → this ≡ that
same-shapes types limit structs apart Void Void first second e = refl
same-shapes types limit structs apart (Integer kind) (Integer other) first second e = ap Integer (ap (kind_in kind) e)
same-shapes types limit structs apart (Pointer a) (Pointer b) first second e = ap Pointer (apart a b first second (ap inner e))
same-shapes types limit structs apart (Array a m) (Array b n) first second e =
    let elements : a ≡ b = apart a b first.0 second.0 (ap inner e) in
    let lengths : m ≡ n = ap length_in e in
    cc
same-shapes types limit structs apart (Struct m) (Struct n) first second e = ap Struct (ap struct_in e)
same-shapes types limit structs apart (Function a these) (Function b those) first second e =
    let results : a ≡ b = apart a b first.0 second.0 (ap inner e) in
    let parameters : these ≡ those = same-ids types limit apart these those first.1 second.1 (sym (list-all (map (at types) these)) ∙ ap parameters_in e ∙ list-all (map (at types) those)) in
    cc
same-shapes types limit structs apart (Const a) (Const b) first second e = ap Const (apart a b first second (ap inner e))
same-shapes types limit structs apart this that first second e =
    absurd (let ways : way (as_is types this) ≡ way (as_is types that) = ap way e in omega (arith, ways))

module _ (table : Table) (sound : IsSound table) where
  abbrev shape_at : ℕ → Shape
  shape_at id = get_or table.shapes id Void

  abbrev types : List CType
  types = types_of table.shapes

  found : (id : ℕ) → IsId table id → slice_get table.shapes id ≡ Some (shape_at id)
  found id inside = slice_get-get_or table.shapes id Void inside

  below : (id : ℕ) → IsId table id → IsBelow id (length table.structs) (shape_at id)
  below id inside = sound.below id (shape_at id) (found id inside)

  type-at : (id : ℕ) → IsId table id → at types id ≡ written_out types (shape_at id)
  type-at id inside = at-types_of table.shapes (length table.structs) id (shape_at id) (found id inside) (below id inside)

  -- a shape of the table is written as it is
  plain-seen : (limit : ℕ) (shape : Shape) → limit ≤ length table.shapes → IsBelow limit (length table.structs) shape → IsPlain table.shapes shape → written_out types shape ≡ as_is types shape
  plain-seen limit Void le below plain = refl
  plain-seen limit (Integer kind) le below plain = refl
  plain-seen limit (Pointer id) le below plain = refl
  plain-seen limit (Array id length) le below plain = refl
  plain-seen limit (Struct number) le below plain = refl
  plain-seen limit (Function result parameters) le below plain = refl
  plain-seen limit (Const id) le below plain =
      let is : at types id ≡ written_out types (shape_at id) = type-at id (omega (arith, le, below)) in
      ap with_const is ∙ can-be-const types (shape_at id) plain ∙ ap const (sym is)

  pub type-seen : (id : ℕ) → IsId table id → at types id ≡ as_is types (shape_at id)
  type-seen id inside =
      type-at id inside
      ∙ plain-seen id (shape_at id) (omega (arith, inside)) (below id inside) (sound.plain id (shape_at id) (found id inside))

  apart-up_to : (limit : ℕ) → limit ≤ length table.shapes → Apart types limit
  apart-up_to zero le a b first second e = absurd (omega (arith, first))
  apart-up_to (suc limit) le a b first second e =
      let inside_a : IsId table a = omega (arith, le, first) in
      let inside_b : IsId table b = omega (arith, le, second) in
      let shapes : shape_at a ≡ shape_at b =
      same-shapes types limit (length table.structs) (apart-up_to limit (omega (arith, le))) (shape_at a) (shape_at b)
      (below-more a limit (length table.structs) (shape_at a) (omega (arith, first)) (below a inside_a))
      (below-more b limit (length table.structs) (shape_at b) (omega (arith, second)) (below b inside_b))
      (sym (type-seen a inside_a) ∙ e ∙ type-seen b inside_b) in
      sound.single a b (shape_at a) (found a inside_a) (found b inside_b ∙ ap Some (sym shapes))

  -- equal types have one number
  pub distinct : AreDistinct table
  distinct a b first second e = apart-up_to (length table.shapes) (omega arith) a b first second e
