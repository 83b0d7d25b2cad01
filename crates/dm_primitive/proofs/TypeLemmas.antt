-- When the types of functions match, by their parameters.
use Rattle.std.proofs.Common.{◌≡◌, ℕ, Bool, true, false, ◌&&◌, List, [], ◌∷◌, map, refl, ap, sym, ◌∙◌}
use Rattle.dm_int.specs.declared.Kind.TheVariants.{Char}
use Rattle.dm_type.specs.Alike.{are_compatible, match_as_parameters}
use Rattle.dm_type.specs.CTypes.{CType, CTypes, void, integer, pointer, array, struct, function, const, no_types, more_types, all_of, bare}
use Rattle.dm_type.specs.declared.shape.Shape.{Shape}
use Rattle.dm_type.specs.declared.shape.Shape.TheVariants as shape
use Rattle.dm_type.specs.Tables.{as_is}

and_true : (p : Bool) → (p && true) ≡ p
and_true true = refl
and_true false = refl

-- one parameter
pub one-matches : (a b : CType) → match_as_parameters (more_types a no_types) (more_types b no_types) ≡ are_compatible (bare a) (bare b)
one-matches void b = and_true _
one-matches (integer kind) b = and_true _
one-matches (pointer type) b = and_true _
one-matches (array type count) b = and_true _
one-matches (struct number) b = and_true _
one-matches (function result parameters) b = and_true _
one-matches (const type) b = and_true _

-- more than one
rest-fails : (c : CType) (others : CTypes) → match_as_parameters (more_types c others) no_types ≡ false
rest-fails void others = refl
rest-fails (integer kind) others = refl
rest-fails (pointer type) others = refl
rest-fails (array type count) others = refl
rest-fails (struct number) others = refl
rest-fails (function result parameters) others = refl
rest-fails (const type) others = refl

both-fail : (p q : Bool) → q ≡ false → (p && q) ≡ false
both-fail true q fails = fails
both-fail false q fails = refl

pub more-fail : (a c : CType) (others : CTypes) (b : CType) → match_as_parameters (more_types a (more_types c others)) (more_types b no_types) ≡ false
more-fail void c others b = both-fail (are_compatible void (bare b)) _ (rest-fails c others)
more-fail (integer kind) c others b = both-fail (are_compatible (integer kind) (bare b)) _ (rest-fails c others)
more-fail (pointer type) c others b = both-fail (are_compatible (pointer type) (bare b)) _ (rest-fails c others)
more-fail (array type count) c others b = both-fail (are_compatible (array type count) (bare b)) _ (rest-fails c others)
more-fail (struct number) c others b = both-fail (are_compatible (struct number) (bare b)) _ (rest-fails c others)
more-fail (function result parameters) c others b = both-fail (are_compatible (function result parameters) (bare b)) _ (rest-fails c others)
more-fail (const type) c others b = both-fail (are_compatible type (bare b)) _ (rest-fails c others)

-- a list of parameters that has another one behind the first
pub never-one : (types : ℕ → CType) (a c : ℕ) (others : List ℕ) (b : CType) → match_as_parameters (all_of (map types (a ∷ c ∷ others))) (more_types b no_types) ≡ false
never-one types a c others b = more-fail (types a) (types c) (all_of (map types others)) b

-- ---- shapes

pub never-pointer : (types : List CType) (one : Shape) (type : CType) → ((to : ℕ) → one ≡ shape.Pointer to → ⊥) → are_compatible (as_is types one) (pointer type) ≡ false
never-pointer types shape.Void type never = refl
never-pointer types (shape.Integer kind) type never = refl
never-pointer types (shape.Pointer to) type never = absurd (never to refl)
never-pointer types (shape.Array id count) type never = refl
never-pointer types (shape.Struct number) type never = refl
never-pointer types (shape.Function result parameters) type never = refl
never-pointer types (shape.Const id) type never = refl

pub never-const : (types : List CType) (one : Shape) (type : CType) → ((id : ℕ) → one ≡ shape.Const id → ⊥) → are_compatible (as_is types one) (const type) ≡ false
never-const types shape.Void type never = refl
never-const types (shape.Integer kind) type never = refl
never-const types (shape.Pointer to) type never = refl
never-const types (shape.Array id count) type never = refl
never-const types (shape.Struct number) type never = refl
never-const types (shape.Function result parameters) type never = refl
never-const types (shape.Const id) type never = absurd (never id refl)

-- the only parameter
pub only-matches : (types : ℕ → CType) (parameters : List ℕ) (parameter : ℕ) (b : CType) → parameters ≡ parameter ∷ []
    → match_as_parameters (all_of (map types parameters)) (more_types b no_types) ≡ are_compatible (bare (types parameter)) (bare b)
only-matches types parameters parameter b is = ap (λ all. match_as_parameters (all_of (map types all)) (more_types b no_types)) is ∙ one-matches (types parameter) b

-- the only parameter beside a pointer to const char
pub text-matches : (types : ℕ → CType) (parameters : List ℕ) (parameter bared : ℕ) → parameters ≡ parameter ∷ [] → types bared ≡ bare (types parameter)
    → match_as_parameters (all_of (map types parameters)) (more_types (pointer (const (integer Char))) no_types) ≡ are_compatible (types bared) (pointer (const (integer Char)))
text-matches types parameters parameter bared is same =
    only-matches types parameters parameter (pointer (const (integer Char))) is ∙ ap (λ type. are_compatible type (pointer (const (integer Char)))) (sym same)
