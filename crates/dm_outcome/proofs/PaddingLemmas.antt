-- Shapes that go on from others, so that so many numbers keep the types that they had, or had not.
use Rattle.std.specs.Prelude.{◌≡◌, ℕ, zero, suc, ◌<◌, List, [], ◌∷◌, ◌++◌, fold, refl}
use Rattle.std.proofs.Common.{sym, ap, ◌∙◌, arith, append_assoc, append-nil}
use Rattle.std.proofs.lemmas.List.Sums.{fold-append}
use Rattle.dm_type.specs.declared.shape.Shape.{Shape}
use Rattle.dm_type.specs.declared.shape.Shape.TheVariants.{Void}
use Rattle.dm_type.specs.CTypes.{CType, void}
use Rattle.dm_type.specs.Tables.{at, types_of}
use Rattle.dm_typing.specs.Views.{Begins}
use Rattle.dm_outcome.proofs.JoinLemmas.{one_more, joined, joined-types, begins-joined}

voids : ℕ → List Shape
voids zero = []
voids (suc n) = Void ∷ voids n

void_types : ℕ → List CType
void_types zero = []
void_types (suc n) = void ∷ void_types n

fold-voids : (types : List CType) (n : ℕ) → fold one_more types (voids n) ≡ types ++ void_types n
unfolding voids void_types
fold-voids types zero = sym (append-nil types)
fold-voids types (suc n) = fold-voids (types ++ void ∷ []) n ∙ append_assoc types (void ∷ []) (void_types n)

-- the shapes, and so many more of void
pub padded : ℕ → List Shape → List Shape
padded n shapes = shapes ++ voids n

padded-types : (n : ℕ) (shapes : List Shape) → types_of (padded n shapes) ≡ types_of shapes ++ void_types n
unfolding padded types_of
padded-types n shapes = fold-append one_more [] shapes (voids n) ∙ fold-voids (types_of shapes) n

within-voids : (n id : ℕ) (more : List CType) → id < n → at (void_types n ++ more) id ≡ void
unfolding void_types
within-voids zero id more inside = absurd (omega (arith, inside))
within-voids (suc n) zero more inside = refl
within-voids (suc n) (suc id) more inside = within-voids n id more (omega (arith, inside))

same-below : (types : List CType) (n : ℕ) (more : List CType) (id : ℕ) → id < n → at (types ++ (void_types n ++ more)) id ≡ at types id
same-below [] n more id inside = within-voids n id more inside
same-below (type ∷ types) n more zero inside = refl
same-below (type ∷ types) n more (suc id) inside = same-below types n more id (omega (arith, inside))

pub begins-padded : (n : ℕ) (shapes others : List Shape) → Begins shapes (joined (padded n shapes) others)
unfolding padded
begins-padded n shapes others = let joins = begins-joined (padded n shapes) others in (voids n ++ joins.0, joins.1 ∙ append_assoc shapes (voids n) joins.0)

-- these numbers have the types that they had
pub kinds-stay : (n : ℕ) (shapes others : List Shape) (id : ℕ) → id < n → at (types_of (joined (padded n shapes) others)) id ≡ at (types_of shapes) id
kinds-stay n shapes others id inside =
    ap (λ types. at types id)
    (joined-types (padded n shapes) others ∙ ap (λ types. types ++ types_of others) (padded-types n shapes) ∙ append_assoc (types_of shapes) (void_types n) (types_of others))
    ∙ same-below (types_of shapes) n (types_of others) id inside
