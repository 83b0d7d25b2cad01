-- What the code of the conditional operator finds on the way (6.5.15).
--     arms_kind known a b      the type to which both arms are converted
--     IsNumberBy shapes id type      the number is that of this type, whatever numbers come
use Rattle.std.specs.Prelude.{◌≡◌, ℕ, ◌<◌, Bool, true, ◌==◌, if◌then◌else◌, List, [], ◌∷◌, length, Option, Some, None}
use Rattle.dm_int.specs.Kinds.{common}
use Rattle.dm_type.specs.declared.shape.Shape.{Shape}
use Rattle.dm_type.specs.CTypes.{CType, void, integer, struct}
use Rattle.dm_syn.specs.Sources.{Source}
use Rattle.dm_tree.specs.Constants.{integer_kind}
use Rattle.dm_tree.specs.Scenes.{target, is_scalar}
use Rattle.dm_tree.specs.Trees.{Tree, kind_of}
use Rattle.dm_tree.specs.Trees as label
use Rattle.dm_typing.specs.Known.{Known}
use Rattle.dm_typing.specs.declared.extent.Extent.{Extent}
use Rattle.dm_typing.specs.Conversions.{made}
use Rattle.dm_typing.specs.Rules.{Pair, arms_by_targets, arms}
use Rattle.dm_typing.specs.Views.{Begins, type_over}
use Rattle.dm_ebinary.specs.declared.ways.Sides.{Sides}
use Rattle.dm_ebinary.specs.Pairs.{both_kinds}

-- the number is that of this type, whatever numbers come
abbrev pub IsNumberBy : List Shape → ℕ → (List Shape → CType) → Type 0
IsNumberBy shapes id type = (id < length shapes) × ((later : List Shape) → Begins shapes later → type_over later id ≡ type later)

-- of void twice and of two structs: whether they are one type
abbrev pub same_plainly : CType → CType → Option Bool
same_plainly void void = Some true
same_plainly (struct m) (struct n) = Some (m == n)
same_plainly a b = None

abbrev pub by_plainness : Known → Tree → Tree → Option Bool → Option CType
by_plainness known a b (Some same) = if same then Some (kind_of a) else None
by_plainness known a b None = arms_by_targets known a b (target (kind_of a)) (target (kind_of b))

-- the type to which arms are converted that are not both integers
abbrev pub kind_of_types : Known → Tree → Tree → Option CType
kind_of_types known a b = by_plainness known a b (same_plainly (kind_of a) (kind_of b))

abbrev pub by_sides : Known → Tree → Tree → Option Sides → Option CType
by_sides known a b (Some kinds) = Some (integer (common kinds.left kinds.right))
by_sides known a b None = kind_of_types known a b

-- the type to which both arms are converted
abbrev pub arms_kind : Known → Tree → Tree → Option CType
arms_kind known a b = by_sides known a b (both_kinds (integer_kind (kind_of a)) (integer_kind (kind_of b)))

-- how they come together behind a condition, which is a scalar
abbrev pub arms_behind : Known → Tree → Tree → Tree → Option Pair
arms_behind known condition a b = if is_scalar (kind_of condition) then arms known a b else None

-- the node of the conditional operator on arms after their conversions
abbrev pub choice : Source → Extent → Tree → Pair → Tree
choice source extent condition both = made source extent label.choose both.kind (condition ∷ both.left ∷ both.right ∷ [])
