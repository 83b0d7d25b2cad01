-- Any two lists of shapes go on to lists that have the same types, and so one is the other with other numbers.
use Rattle.std.specs.Prelude.{unwrap_or, if◌then◌else◌, ◌≡◌, ℕ, zero, suc, ◌+◌, ◌≤◌, Bool, true, false, ◌||◌, List, [], ◌∷◌, ◌++◌, length, map, fold, Option, Some, None, slice_get, refl}
use Rattle.std.proofs.Common.{sym, ap, ap₂, ◌∙◌, arith, append_assoc, append-nil}
use Rattle.std.proofs.lemmas.List.{get_or-append-add}
use Rattle.std.proofs.lemmas.List.Sums.{fold-append}
use Rattle.std.proofs.lemmas.Option.{slice_get_past, unwrap_or-slice_get, get_or_from_slice_get}
use Rattle.dm_type.specs.declared.shape.Shape.{Shape}
use Rattle.dm_type.specs.declared.shape.Shape.TheVariants.{Void, Integer, Pointer, Array, Struct, Function, Const}
use Rattle.dm_type.specs.CTypes.{CType, void, pointer, array, function, all_of, with_const}
use Rattle.dm_type.specs.TableLaws.{injected}
use Rattle.dm_type.specs.Tables.{at, written_out, types_of}
use Rattle.dm_typing.specs.Conversions.{is_same}
use Rattle.dm_typing.specs.Typing.{number_among}
use Rattle.dm_typing.specs.Views.{Begins}
use Rattle.dm_typing.proofs.TypeLemmas.{same-types}
use Rattle.dm_typing.proofs.ValueLemmas.{same-itself}
use Rattle.dm_outcome.proofs.Renumbered.{Renumbers}

-- ---- shapes behind others

-- the shape where so many numbers stand before its own
shifted : ℕ → Shape → Shape
shifted n Void = Void
shifted n (Integer kind) = Integer kind
shifted n (Pointer id) = Pointer (n + id)
shifted n (Array id many) = Array (n + id) many
shifted n (Struct at) = Struct at
shifted n (Function result parameters) = Function (n + result) (map (λ id. n + id) parameters)
shifted n (Const id) = Const (n + id)

abbrev pub one_more : List CType → Shape → List CType
one_more types shape = types ++ written_out types shape ∷ []

at-behind : (xs ys : List CType) (id : ℕ) → at (xs ++ ys) (length xs + id) ≡ at ys id
at-behind xs ys id = get_or-append-add xs ys id void

all-behind : (xs ys : List CType) (ids : List ℕ) → map (at (xs ++ ys)) (map (λ id. length xs + id) ids) ≡ map (at ys) ids
all-behind xs ys [] = refl
all-behind xs ys (id ∷ ids) = ap₂ (λ type types. type ∷ types) (at-behind xs ys id) (all-behind xs ys ids)

written-behind : (xs ys : List CType) (shape : Shape) → written_out (xs ++ ys) (shifted (length xs) shape) ≡ written_out ys shape
unfolding shifted
written-behind xs ys Void = refl
written-behind xs ys (Integer kind) = refl
written-behind xs ys (Pointer id) = ap pointer (at-behind xs ys id)
written-behind xs ys (Array id many) = ap (λ type. array type many) (at-behind xs ys id)
written-behind xs ys (Struct n) = refl
written-behind xs ys (Function result parameters) = ap₂ (λ type types. function type (all_of types)) (at-behind xs ys result) (all-behind xs ys parameters)
written-behind xs ys (Const id) = ap with_const (at-behind xs ys id)

fold-behind : (xs ys : List CType) (shapes : List Shape) → fold one_more (xs ++ ys) (map (shifted (length xs)) shapes) ≡ xs ++ fold one_more ys shapes
fold-behind xs ys [] = refl
fold-behind xs ys (shape ∷ shapes) =
    ap (λ types. fold one_more types (map (shifted (length xs)) shapes))
    (ap (λ type. (xs ++ ys) ++ type ∷ []) (written-behind xs ys shape) ∙ append_assoc xs ys (written_out ys shape ∷ []))
    ∙ fold-behind xs (one_more ys shape) shapes

-- the shapes, and others behind them
pub joined : List Shape → List Shape → List Shape
joined one other = one ++ map (shifted (length (types_of one))) other

pub joined-types : (one other : List Shape) → types_of (joined one other) ≡ types_of one ++ types_of other
unfolding joined types_of
joined-types one other =
    fold-append one_more [] one (map (shifted (length (types_of one))) other)
    ∙ ap (λ types. fold one_more types (map (shifted (length (types_of one))) other)) (sym (append-nil (types_of one)))
    ∙ fold-behind (types_of one) [] other

pub begins-joined : (one other : List Shape) → Begins one (joined one other)
unfolding joined
begins-joined one other = (map (shifted (length (types_of one))) other, refl)

-- ---- a type among others

is_in : CType → List CType → Bool
is_in type [] = false
is_in type (first ∷ others) = is_same first type || is_in type others

or-moved : (x y z : Bool) → (x || (y || z)) ≡ ((x || y) || z)
or-moved true y z = refl
or-moved false y z = refl

in-both : (type : CType) (xs ys : List CType) → is_in type (xs ++ ys) ≡ (is_in type xs || is_in type ys)
unfolding is_in
in-both type [] ys = refl
in-both type (first ∷ xs) ys = ap (λ it. is_same first type || it) (in-both type xs ys) ∙ or-moved (is_same first type) (is_in type xs) (is_in type ys)

or-turned : (x y : Bool) → (x || y) ≡ (y || x)
or-turned true true = refl
or-turned true false = refl
or-turned false true = refl
or-turned false false = refl

-- a type that is among them has the number at which it stands
abbrev Stands : CType → ℕ → List CType → Type 0
Stands type n types = (k : ℕ) × (number_among type n types ≡ n + k) × (slice_get types k ≡ Some type)

found-one : (type first : CType) (n : ℕ) (others : List CType) (test : Bool) → is_same first type ≡ test → (test || is_in type others) ≡ true
    → (is_in type others ≡ true → Stands type (n + 1) others) → Stands type n (first ∷ others)
found-one type first n others true same h inner =
    let none : n ≡ n + 0 = omega arith in
    (0, ap (λ it. if it then n else number_among type (n + 1) others) same ∙ none, ap Some (same-types first type same))
found-one type first n others false differs h inner =
    let it = inner h in
    let more : (n + 1) + it.0 ≡ n + suc it.0 = omega arith in
    (suc it.0, ap (λ it. if it then n else number_among type (n + 1) others) differs ∙ it.1 ∙ more, it.2)

found : (type : CType) (n : ℕ) (types : List CType) → is_in type types ≡ true → Stands type n types
unfolding is_in
found type n [] h = absurd (cc)
found type n (first ∷ others) h = found-one type first n others (is_same first type) refl h (found type (n + 1) others)

-- and one that isn't has the number behind them
missed-one : (type first : CType) (n : ℕ) (others : List CType) (test : Bool) → is_same first type ≡ test → (test || is_in type others) ≡ false
    → (is_in type others ≡ false → number_among type (n + 1) others ≡ (n + 1) + length others) → number_among type n (first ∷ others) ≡ n + length (first ∷ others)
missed-one type first n others true same h inner = absurd (cc)
missed-one type first n others false differs h inner =
    let more : (n + 1) + length others ≡ n + length (first ∷ others) = omega arith in
    ap (λ it. if it then n else number_among type (n + 1) others) differs ∙ inner h ∙ more

missed : (type : CType) (n : ℕ) (types : List CType) → is_in type types ≡ false → number_among type n types ≡ n + length types
unfolding is_in
missed type n [] h = omega arith
missed type n (first ∷ others) h = missed-one type first n others (is_same first type) refl h (missed type (n + 1) others)

-- what stands at a number is among them
stands-in : (types : List CType) (k : ℕ) (type : CType) → slice_get types k ≡ Some type → is_in type types ≡ true
unfolding is_in
stands-in [] k type h = absurd (cc)
stands-in (first ∷ others) zero type h = ap (λ it. it || is_in type others) (ap (λ it. is_same it type) (injected first type h) ∙ same-itself type)
stands-in (first ∷ others) (suc k) type h = ap (λ it. is_same first type || it) (stands-in others k type h) ∙ or-turned (is_same first type) true

-- ---- other numbers

module _ (one other : List CType) (alike : (type : CType) → is_in type one ≡ is_in type other) where
  number-of : Option CType → ℕ
  number-of None = length other
  number-of (Some type) = number_among type 0 other

  renumbered : ℕ → ℕ
  renumbered id = number-of (slice_get one id)

  at-nowhere : (types : List CType) (id : ℕ) → slice_get types id ≡ None → at types id ≡ void
  at-nowhere types id h = sym (unwrap_or-slice_get types id void) ∙ ap (λ found. unwrap_or found void) h

  past-all : (types : List CType) (id : ℕ) → length types ≤ id → at types id ≡ void
  past-all types id h = at-nowhere types id (slice_get_past types id h)

  same-kind : (id : ℕ) → at other (renumbered id) ≡ at one id
  unfolding number-of renumbered
  same-kind id = go (slice_get one id) refl
    where
      go : (it : Option CType) → slice_get one id ≡ it → at other (number-of (slice_get one id)) ≡ at one id
      go None e = ap (λ it. at other (number-of it)) e ∙ past-all other (length other) (omega arith) ∙ sym (at-nowhere one id e)
      go (Some type) e =
          let place = found type 0 other (sym (alike type) ∙ stands-in one id type e) in
          ap (λ it. at other (number-of it)) e ∙ ap (at other) (place.1 ∙ (omega arith)) ∙ get_or_from_slice_get other place.0 type void place.2 ∙ sym (get_or_from_slice_get one id type void e)

  same-number : (type : CType) → number_among type 0 other ≡ renumbered (number_among type 0 one)
  unfolding number-of renumbered
  same-number type = go (is_in type one) refl
    where
      go : (test : Bool) → is_in type one ≡ test → number_among type 0 other ≡ number-of (slice_get one (number_among type 0 one))
      go true h =
          let place = found type 0 one h in
          let at_place : number_among type 0 one ≡ place.0 = place.1 ∙ (omega arith) in
          sym (ap number-of (ap (slice_get one) at_place ∙ place.2))
      go false h =
          let past : number_among type 0 one ≡ length one = missed type 0 one h ∙ (omega arith) in
          let nowhere : number_among type 0 other ≡ length other = missed type 0 other (sym (alike type) ∙ h) ∙ (omega arith) in
          nowhere ∙ sym (ap number-of (ap (slice_get one) past ∙ slice_get_past one (length one) (omega arith)))

-- the shapes that go on from one list and from the other
turned : (one other : List Shape) (type : CType) → is_in type (types_of (joined one other)) ≡ is_in type (types_of (joined other one))
turned one other type =
    ap (is_in type) (joined-types one other) ∙ in-both type (types_of one) (types_of other) ∙ or-turned (is_in type (types_of one)) (is_in type (types_of other))
    ∙ sym (ap (is_in type) (joined-types other one) ∙ in-both type (types_of other) (types_of one))

pub new_number : (one other : List Shape) → ℕ → ℕ
new_number one other id = renumbered (types_of (joined one other)) (types_of (joined other one)) (turned one other) id

pub renumbers : (one other : List Shape) → Renumbers (joined one other) (joined other one) (new_number one other)
unfolding new_number
renumbers one other = record {
  kinds = same-kind (types_of (joined one other)) (types_of (joined other one)) (turned one other);
  numbers = same-number (types_of (joined one other)) (types_of (joined other one)) (turned one other);
}
