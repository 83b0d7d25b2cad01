-- The program of a well-typed unit is typed.
use Rattle.std.specs.Prelude.{◌≡◌, refl, ◌⊎◌, ℕ, zero, suc, IfSome, IsSome, All, List, [], ◌∷◌, Option, Some, None, slice_get}
use Rattle.std.proofs.Common.{sym, subst, inl, inr}
use Rattle.std.proofs.lemmas.Bool.{false≢true}
use Rattle.std.proofs.lemmas.List.Elements.{All-head, All-tail}
use Rattle.dm_type.specs.Tables.{Table}
use Rattle.dm_tree.specs.Trees.{Tree}
use Rattle.dm_tree.specs.Typing.{IsEntry, FunctionFits, FormFits, ExternalFits, IsWellTypedUnit, file_scene}
use Rattle.dm_tree.specs.Units.{Declaration, External, ExternalForm, declares, defines_function, TypedUnit}
use Rattle.dm_meaning.specs.Among.{IsAmong}
use Rattle.dm_meaning.specs.Programs.{Definition}
use Rattle.dm_meaning.specs.Units.{definitions_by, definitions_in, program_of}
use Rattle.dm_meaning.proofs.AmongLemmas.{among_either}
use Rattle.dm_meaning.proofs.OptionLemmas.{none_is_some, some_is_some}
use Rattle.dm_sound.specs.TypedTrees.{IsProper, IsProperTree, IsSoundTable}
use Rattle.dm_sound.specs.TypedRuns.{IsTypedFunction, IsTypedProgram, IsProperForm, IsProperUnit}
use Rattle.dm_sound.proofs.LocalLemmas.{unit_statics}

all_there : {A : Type 0} (P : A → Type 0) (xs : List A) → All P xs → (n : ℕ) (x : A) → slice_get xs n ≡ Some x → P x
all_there P [] h n x e = absurd (none_is_some x e)
all_there P (first ∷ rest) h zero x e = subst P (some_is_some first x e) (All-head P first rest h)
all_there P (first ∷ rest) h (suc n) x e = all_there P rest (All-tail P first rest h) n x e

module _ (types : Table) (unit : TypedUnit) (sound : IsSoundTable types) where
  abbrev Typed : Definition → Type 0
  Typed definition = IsTypedFunction (program_of types unit) definition

  by_entry : (f : ℕ) (parameters : List ℕ) (body : Tree) → IsProperTree body → (found : Option Declaration) → slice_get unit.declared f ≡ found
      → IfSome found (FunctionFits (file_scene types unit.declared) parameters body) → IsSome found → Typed (record { function = f; parameters = parameters; body = body })
  by_entry f parameters body proper None e fits is = absurd (false≢true is)
  by_entry f parameters body proper (Some entry) e fits is = record { entry = entry; declared = e; fits = fits; proper = proper }

  form_typed : (form : ExternalForm) → FormFits (file_scene types unit.declared) form → IsProperForm form → (definition : Definition) → IsAmong definition (definitions_by form) → Typed definition
  form_typed (declares declarators trees) fits proper definition h = absurd h
  form_typed (defines_function f parameters body) fits proper definition (inl e) = subst Typed (sym e) (by_entry f parameters body proper (slice_get unit.declared f) refl fits.0 fits.1)
  form_typed (defines_function f parameters body) fits proper definition (inr e) = absurd e

  all_typed : (externals : List External) → All (ExternalFits (file_scene types unit.declared)) externals → All (λ (external : External). IsProperForm external.form) externals
      → (definition : Definition) → IsAmong definition (definitions_in externals) → Typed definition
  all_typed [] fits proper definition h = absurd h
  all_typed (external ∷ externals) fits proper definition h =
      pick (among_either definition (definitions_by external.form) (definitions_in externals) h)
      (all_typed externals (All-tail (ExternalFits (file_scene types unit.declared)) external externals fits) (All-tail (λ (one : External). IsProperForm one.form) external externals proper) definition)
    where
      pick : IsAmong definition (definitions_by external.form) ⊎ IsAmong definition (definitions_in externals) → (IsAmong definition (definitions_in externals) → Typed definition) → Typed definition
      pick (inl a) later =
          form_typed external.form (All-head (ExternalFits (file_scene types unit.declared)) external externals fits).2 (All-head (λ (one : External). IsProperForm one.form) external externals proper) definition a
      pick (inr b) later = later b

  pub unit_typed : IsWellTypedUnit types unit → IsProperUnit unit → IsTypedProgram (program_of types unit)
  unit_typed typed proper = record {
    scope = record {
      table = sound;
      entries = λ d entry e. all_there IsEntry unit.declared typed.entries d entry e;
      proper = λ d entry e. all_there (λ (one : Declaration). IsProper one.kind) unit.declared proper.entries d entry e;
    };
    functions = all_typed unit.externals typed.externals proper.externals;
    statics = unit_statics types unit typed proper.externals;
  }
