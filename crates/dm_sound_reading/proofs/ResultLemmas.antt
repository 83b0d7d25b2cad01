-- The functions of a unit that give void or complete object types give void or values.
use Rattle.std.specs.Prelude.{◌≡◌, refl, ◌⊎◌, Bool, true, false, ◌||◌, IfSome, IsSome, IsTrue, All, List, [], ◌∷◌, Option, Some, None, slice_get}
use Rattle.std.proofs.Common.{ap, sym, subst, inl, inr}
use Rattle.std.proofs.lemmas.Bool.{false≢true}
use Rattle.std.proofs.lemmas.List.Elements.{All-head, All-tail}
use Rattle.dm_type.specs.CTypes.{CType, function as function_type, bare}
use Rattle.dm_type.specs.Tables.{Table}
use Rattle.dm_tree.specs.Scenes.{is_void, IsComplete}
use Rattle.dm_tree.specs.Typing.{file_scene}
use Rattle.dm_tree.specs.Units.{Declaration, External, ExternalForm, declares, defines_function, TypedUnit}
use Rattle.dm_meaning.specs.Among.{IsAmong}
use Rattle.dm_meaning.specs.Programs.{Definition}
use Rattle.dm_meaning.specs.Statements.{kind_declared}
use Rattle.dm_meaning.specs.Units.{definitions_by, definitions_in, program_of}
use Rattle.dm_meaning.proofs.AmongLemmas.{among_either}
use Rattle.dm_edecl.specs.Results.{GivesResult, DefinesResult}
use Rattle.dm_sound.specs.Lacks.{GivesValues}
use Rattle.dm_sound.specs.TypedRuns.{result_in, result_of}
use Rattle.dm_sound.specs.TypedValues.{own_type, has_values}
use Rattle.dm_sound.proofs.GivenLemmas.{complete_values}

-- void, or a type that has values
abbrev gives : CType → Bool
gives type = is_void (bare type) || has_values (own_type type)

module _ (types : Table) (unit : TypedUnit) where
  complete_gives : (result : CType) → IsTrue (is_void (bare result)) ⊎ IsComplete (file_scene types unit.declared) result → gives result ≡ true
  complete_gives result (inl is) = ap (λ (b : Bool). b || has_values (own_type result)) is
  complete_gives result (inr is) = either (is_void (bare result)) (complete_values types result is)
    where
      either : (b : Bool) → has_values (own_type result) ≡ true → (b || has_values (own_type result)) ≡ true
      either true h = refl
      either false h = h

  type_gives : (type : CType) → GivesResult (file_scene types unit.declared) type → gives (result_in type) ≡ true
  type_gives (function_type result parameters) h = complete_gives result h.1
  type_gives type h = absurd h

  by_entry : (found : Option Declaration) → IfSome found (λ (entry : Declaration). GivesResult (file_scene types unit.declared) entry.kind) → IsSome found
      → gives (result_in (kind_declared found)) ≡ true
  by_entry None h is = absurd (false≢true is)
  by_entry (Some entry) h is = type_gives entry.kind h

  abbrev Gives : Definition → Type 0
  Gives definition = gives (result_of (program_of types unit) definition.function) ≡ true

  form_gives : (form : ExternalForm) → DefinesResult (file_scene types unit.declared) form → (definition : Definition) → IsAmong definition (definitions_by form) → Gives definition
  form_gives (declares declarators trees) h definition e = absurd e
  form_gives (defines_function f parameters body) h definition (inl e) = subst Gives (sym e) (by_entry (slice_get unit.declared f) h.0 h.1)
  form_gives (defines_function f parameters body) h definition (inr e) = absurd e

  abbrev Defines : External → Type 0
  Defines one = DefinesResult (file_scene types unit.declared) one.form

  all_give : (externals : List External) → All Defines externals → (definition : Definition) → IsAmong definition (definitions_in externals) → Gives definition
  all_give [] h definition e = absurd e
  all_give (one ∷ others) h definition e =
      pick (among_either definition (definitions_by one.form) (definitions_in others) e) (all_give others (All-tail Defines one others h) definition)
    where
      pick : IsAmong definition (definitions_by one.form) ⊎ IsAmong definition (definitions_in others) → (IsAmong definition (definitions_in others) → Gives definition) → Gives definition
      pick (inl a) later = form_gives one.form (All-head Defines one others h) definition a
      pick (inr b) later = later b

  pub unit_gives : All Defines unit.externals → GivesValues (program_of types unit)
  unit_gives h definition e = all_give unit.externals h definition e
