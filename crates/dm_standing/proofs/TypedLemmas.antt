-- What well-typed external declarations give.
--     HasTypedBody types declared body      the body of a function is well typed in a scene of the unit
--     all_without, all_there      lists of which each element has a property
use Rattle.std.specs.Prelude.{◌≡◌, refl, ℕ, zero, suc, ◌+◌, All, IfSome, IsSome, List, [], ◌∷◌, take, drop, Option, Some, None, slice_get}
use Rattle.std.proofs.Common.{subst}
use Rattle.std.proofs.lemmas.Bool.{false≢true}
use Rattle.std.proofs.lemmas.List.Elements.{All-head, All-tail, All-append, All-take, All-drop}
use Rattle.dm_type.specs.CTypes.{CType, void, integer, pointer, array, struct, function as function_type, const}
use Rattle.dm_type.specs.Tables.{Table}
use Rattle.dm_tree.specs.Scenes.{Scene}
use Rattle.dm_tree.specs.Trees.{Label, switch, case, default, while_loop, do_loop, for_loop, Tree}
use Rattle.dm_tree.specs.Typing.{inside, IsWellTyped, file_scene, body_scene, DefinitionFits, FunctionFits, FormFits}
use Rattle.dm_tree.specs.Units.{Declaration, defines_function}
use Rattle.dm_meaning.proofs.OptionLemmas.{none_is_some, some_is_some}
use Rattle.dm_align.specs.Units.{without}

pub inside_declared : (scene : Scene) (label : Label) (parts : List Tree) → (inside scene label parts).declared ≡ scene.declared
inside_declared scene switch parts = refl
inside_declared scene case parts = refl
inside_declared scene default parts = refl
inside_declared scene while_loop parts = refl
inside_declared scene do_loop parts = refl
inside_declared scene (for_loop first second third) parts = refl
inside_declared scene label parts = refl

-- ---- bodies

pub record HasTypedBody (types : Table) (declared : List Declaration) (body : Tree) : Type 0 where
  pub result : CType
  pub typed : IsWellTyped (body_scene (file_scene types declared) result) body

by_type : (types : Table) (declared : List Declaration) (parameters : List ℕ) (body : Tree) (kind : CType)
    → DefinitionFits (file_scene types declared) parameters body kind → HasTypedBody types declared body
by_type types declared parameters body (function_type result kinds) fits = record { result = result; typed = fits.2 }
by_type types declared parameters body void fits = absurd fits
by_type types declared parameters body (integer kind) fits = absurd fits
by_type types declared parameters body (pointer kind) fits = absurd fits
by_type types declared parameters body (array kind n) fits = absurd fits
by_type types declared parameters body (struct n) fits = absurd fits
by_type types declared parameters body (const kind) fits = absurd fits

by_entry : (types : Table) (declared : List Declaration) (parameters : List ℕ) (body : Tree) (found : Option Declaration)
    → IfSome found (FunctionFits (file_scene types declared) parameters body) → IsSome found → HasTypedBody types declared body
by_entry types declared parameters body None fits is = absurd (false≢true is)
by_entry types declared parameters body (Some entry) fits is = by_type types declared parameters body entry.kind fits.1

pub typed_body : (types : Table) (declared : List Declaration) (f : ℕ) (parameters : List ℕ) (body : Tree)
    → FormFits (file_scene types declared) (defines_function f parameters body) → HasTypedBody types declared body
typed_body types declared f parameters body fits = by_entry types declared parameters body (slice_get declared f) fits.0 fits.1

-- ---- lists

pub all_without : {A : Type 0} (P : A → Type 0) (n : ℕ) (items : List A) → All P items → All P (without n 1 items)
all_without P n items h = All-append P (take n items) (drop (n + 1) items) (All-take P n items h) (All-drop P (n + 1) items h)

pub all_there : {A : Type 0} (P : A → Type 0) (items : List A) → All P items → (n : ℕ) (x : A) → slice_get items n ≡ Some x → P x
all_there P [] h n x e = absurd (none_is_some x e)
all_there P (first ∷ rest) h zero x e = subst P (some_is_some first x e) (All-head P first rest h)
all_there P (first ∷ rest) h (suc n) x e = all_there P rest (All-tail P first rest h) n x e
