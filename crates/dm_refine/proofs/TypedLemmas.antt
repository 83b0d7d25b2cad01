-- What well-typed external declarations give.
--     HasTypedBody types declared body      the body of a function is a block, well typed in a scene of the unit
use Rattle.std.specs.Prelude.{◌≡◌, ℕ, IfSome, IsSome, Option, Some, None, List, slice_get}
use Rattle.std.proofs.lemmas.Bool.{false≢true}
use Rattle.dm_type.specs.CTypes.{CType, void, integer, pointer, array, struct, function as function_type, const}
use Rattle.dm_type.specs.Tables.{Table}
use Rattle.dm_tree.specs.Trees.{block, Tree, label_of}
use Rattle.dm_tree.specs.Typing.{IsWellTyped, file_scene, body_scene, DefinitionFits, FunctionFits, FormFits}
use Rattle.dm_tree.specs.Units.{Declaration, defines_function}

pub record HasTypedBody (types : Table) (declared : List Declaration) (body : Tree) : Type 0 where
  pub result : CType
  pub block : label_of body ≡ block
  pub typed : IsWellTyped (body_scene (file_scene types declared) result) body

by_type : (types : Table) (declared : List Declaration) (parameters : List ℕ) (body : Tree) (kind : CType)
    → DefinitionFits (file_scene types declared) parameters body kind → HasTypedBody types declared body
by_type types declared parameters body (function_type result kinds) fits = record { result = result; block = fits.1; typed = fits.2 }
by_type types declared parameters body void fits = absurd fits
by_type types declared parameters body (integer kind) fits = absurd fits
by_type types declared parameters body (pointer kind) fits = absurd fits
by_type types declared parameters body (array kind n) fits = absurd fits
by_type types declared parameters body (struct n) fits = absurd fits
by_type types declared parameters body (const kind) fits = absurd fits

by_entry : (types : Table) (declared : List Declaration) (parameters : List ℕ) (body : Tree) (found : Option Declaration)
    → IfSome found (FunctionFits (file_scene types declared) parameters body) → IsSome found → HasTypedBody types declared body
by_entry types declared parameters body None fits is = absurd (false≢true is)
by_entry types declared parameters body (Some entry) fits is = by_type types declared parameters body entry.kind fits.1

pub typed_body : (types : Table) (declared : List Declaration) (f : ℕ) (parameters : List ℕ) (body : Tree)
    → FormFits (file_scene types declared) (defines_function f parameters body) → HasTypedBody types declared body
typed_body types declared f parameters body fits = by_entry types declared parameters body (slice_get declared f) fits.0 fits.1
