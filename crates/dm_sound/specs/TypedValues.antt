-- Values of types (6.2.5, 6.2.6): what an object of a type may hold, and what an expression may give.
--     own_type type      the type without its own const
--     part_types layout type      the types of an object's parts
--     HasType layout type value      an object of the type may hold the value
--     IsGiven layout type value      an expression of the type may give it
--     AreTyped layout memory      each object holds a value of its type
--     StaySet memory later      objects that hold a value that was set go on to do so
use Rattle.std.specs.Prelude.{◌≡◌, ℕ, Bool, true, false, not, IsTrue, List, [], ◌∷◌, map, replicate, Some}
use Rattle.dm_int.specs.Kinds.{InRange}
use Rattle.dm_type.specs.CTypes.{CType, void, integer, array, struct, function, const}
use Rattle.dm_meaning.specs.Values.{Value, Values, integer_value, pointer_value, parts, unset, no_values, more_values}
use Rattle.dm_meaning.specs.Objects.{Layout, is_array}
use Rattle.dm_meaning.specs.Memory.{Memory, Block, look_up}
use Rattle.dm_meaning.specs.Causes.{is_unset}
use Rattle.dm_meaning.specs.Units.{is_pointer}

-- the type without its own const, as often as that stands there (6.7.3p5)
abbrev pub own_type : CType → CType
own_type (const type) = own_type type
own_type type = type

-- the types of the parts of an object: of its elements, or of its members
abbrev pub part_types : Layout → CType → List CType
part_types layout (array type (Some count)) = replicate count type
part_types layout (struct number) = map (λ field. field.kind) (layout.fields number)
part_types layout type = []

-- an array or a struct (6.2.5p20)
abbrev pub has_parts : CType → Bool
has_parts (array type length) = true
has_parts (struct number) = true
has_parts type = false

abbrev mutual
  -- The value is one of the type: a number in the range of its kind, a pointer, or parts of the parts' types. What has no parts may be a
  -- scalar that was never set.
  pub HasType : Layout → CType → Value → Type 0
  HasType layout type (integer_value kind z) = (own_type type ≡ integer kind) × InRange kind z
  HasType layout type (pointer_value p) = IsTrue (is_pointer (own_type type))
  HasType layout type (parts all) = IsTrue (has_parts (own_type type)) × HaveTypes layout (part_types layout (own_type type)) all
  HasType layout type unset = part_types layout (own_type type) ≡ []

  pub HaveTypes : Layout → List CType → Values → Type 0
  HaveTypes layout [] no_values = Unit {0}
  HaveTypes layout (type ∷ types) (more_values value rest) = HasType layout type value × HaveTypes layout types rest
  HaveTypes layout types all = ⊥

-- the type has values that expressions give: it is neither void nor that of a function (6.2.5p1, p19)
abbrev pub has_values : CType → Bool
has_values void = false
has_values (function result parameters) = false
has_values type = true

-- What an expression of the type gives: a value of it that was set, or nothing where the type has no values. No expression gives an array
-- (6.3.2.1p3).
pub record IsGiven (layout : Layout) (type : CType) (value : Value) : Type 0 where
  pub typed : HasType layout type value
  pub set : IsTrue (has_values (own_type type)) → is_unset value ≡ false
  pub whole : IsTrue (not (is_array (own_type type)))

-- each object in memory holds a value of its type
abbrev pub AreTyped : Layout → Memory → Type 0
AreTyped layout memory = (n : ℕ) (block : Block) → look_up memory n ≡ Some block → HasType layout block.kind block.contents

-- the object of this number holds a value that was set; of the parts of an array or a struct this says nothing
abbrev pub IsSet : Memory → ℕ → Type 0
IsSet memory n = (block : Block) × (look_up memory n ≡ Some block) × (is_unset block.contents ≡ false)

-- objects that hold such a value go on to do so
abbrev pub StaySet : Memory → Memory → Type 0
StaySet memory later = (n : ℕ) → IsSet memory n → IsSet later n
