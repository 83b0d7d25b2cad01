-- Aligned units, where nothing is put in or an enumerator.
--     enumerated_units      the new program refines the old one
use Rattle.std.specs.Prelude.{◌≡◌, refl, ℕ, ◌+◌, All, ℤ, List, [], ◌∷◌, ◌++◌, take, drop, Option, Some, None, slice_get, option_and_then}
use Rattle.std.specs.Option.{IsSomeAnd}
use Rattle.std.proofs.Common.{ap, sym, ◌∙◌, subst, inl, inr}
use Rattle.std.proofs.lemmas.Bool.{false≢true}
use Rattle.dm_runs.specs.declared.run.Run.{Run}
use Rattle.dm_type.specs.Tables.{Table}
use Rattle.dm_tree.specs.declared.unit.Sort.TheVariants.{Enumerator}
use Rattle.dm_tree.specs.Constants.{enumerator_value, value_if_enumerator}
use Rattle.dm_tree.specs.Trees.{block, is_statement, Tree, node, trees_of, label_of}
use Rattle.dm_tree.specs.Typing.{FormFits, ExternalFits, IsWellTypedUnit, file_scene, body_scene}
use Rattle.dm_tree.specs.Units.{Declaration, External, ExternalForm, declares, defines_function, TypedUnit}
use Rattle.dm_meaning.specs.Refinement.{Refines, refines_through}
use Rattle.dm_meaning.specs.Replaced as replaced
use Rattle.dm_meaning.specs.Replaced.{Replaced, Zipped}
use Rattle.dm_meaning.specs.ReplacedUnits.{change_of, FormAgrees, IsBare, ExternalsAgree}
use Rattle.dm_meaning.specs.Units.{machine_of, program_of}
use Rattle.dm_meaning.proofs.UnitLemmas.{units_refine}
use Rattle.dm_same.proofs.MachineLemmas.{refines_same}
use Rattle.dm_agree.specs.Agreement.{Added, nothing, added_function, added_enumerator, added_constant}
use Rattle.dm_align.specs.Units as aligned
use Rattle.dm_align.specs.Units.{Insertion, moved, added_by, other_externals, FormAdds, rewriting_of, AreAligned}
use Rattle.dm_refine.proofs.EnumeratorTreeLemmas.{AddsValue, trees_whole_enumerated, whole_enumerated}
use Rattle.dm_refine.proofs.NumberLemmas.{moved_injective, entry_told}
use Rattle.dm_refine.proofs.PutLemmas.{parts_of_list, all_without, zipped_typed}
use Rattle.dm_refine.proofs.TypedLemmas.{typed_body}

-- what is put in is nothing, or an enumerator
abbrev pub IsValue : Added → Type 0
IsValue nothing = Unit {0}
IsValue (added_enumerator d value) = Unit {0}
IsValue (added_function f parameters body) = ⊥
IsValue (added_constant d value) = ⊥

-- the parts of bodies that agree
body_parts : (change : Replaced) (tree other : Tree) → label_of tree ≡ block → replaced.Agrees change tree other → replaced.AllAgree change (trees_of tree) (trees_of other)
body_parts change (node label kind spans parts) other e (inl h) = h.2
body_parts change (node label kind spans parts) other e (inr h) = absurd (false≢true (ap is_statement (sym h.is ∙ e)))

-- ---- what is put in

entry_value : (new : TypedUnit) (name : List ℕ) (d : ℕ) (value : ℤ) (found : Option Declaration) → slice_get new.declared d ≡ found
    → IsSomeAnd found (λ (entry : Declaration). (entry.name ≡ name) × (entry.sort ≡ Enumerator value)) → enumerator_value new.declared d ≡ Some value
entry_value new name d value None e h = absurd h
entry_value new name d value (Some entry) e h =
    ap (option_and_then (λ (one : Declaration). value_if_enumerator one.sort)) e ∙ ap value_if_enumerator h.1

-- it is declared without declarators, and has its value
put_value : (types : Table) (new : TypedUnit) (change : Replaced) → change.declared ≡ new.declared → (put : Insertion) (added : Added) → IsValue added → (external : External)
    → FormAdds types new put added external.form → AddsValue change added × IsBare external
put_value types new change e put nothing is external h = absurd h
put_value types new change e put (added_function f parameters body) is external h = absurd is
put_value types new change e put (added_constant d value) is external h = absurd is
put_value types new change e put (added_enumerator d value) is external h =
    (ap (λ declared. enumerator_value declared d) e ∙ entry_value new put.name d value (slice_get new.declared d) refl h.1.1, h.0)

-- ---- external declarations

-- where none is bare
all_agree : (change : Replaced) (externals others : List External) → Zipped (λ (one other : External). FormAgrees change one.form other.form) externals others
    → ExternalsAgree change externals others
all_agree change [] [] h = tt
all_agree change [] (other ∷ others) h = absurd h
all_agree change (external ∷ externals) [] h = absurd h
all_agree change (external ∷ externals) (other ∷ others) h = inl (h.0, all_agree change externals others h.1)

-- where a bare one is among them
bare_first : (change : Replaced) (bare : External) (behind others : List External) → IsBare bare
    → Zipped (λ (one other : External). FormAgrees change one.form other.form) behind others → ExternalsAgree change (bare ∷ behind) others
bare_first change bare behind [] is h = (is, all_agree change behind [] h)
bare_first change bare behind (other ∷ others) is h = inr (is, all_agree change behind (other ∷ others) h)

agree_but_bare : (change : Replaced) (before behind others : List External) (bare : External) → IsBare bare
    → Zipped (λ (one other : External). FormAgrees change one.form other.form) (before ++ behind) others → ExternalsAgree change (before ++ bare ∷ behind) others
agree_but_bare change [] behind others bare is h = bare_first change bare behind others is h
agree_but_bare change (first ∷ before) behind [] bare is h = absurd h
agree_but_bare change (first ∷ before) behind (other ∷ others) bare is h = inl (h.0, agree_but_bare change before behind others bare is h.1)

module _ (old_types new_types : Table) (old new : TypedUnit) (runs : List Run) (put : Option Insertion) where
  abbrev change : Replaced
  change = change_of old_types new old (moved put)

  abbrev Fits : Table → List Declaration → External → Type 0
  Fits types declared external = ExternalFits (file_scene types declared) external

  forms_agree : AddsValue change (added_by put) → (form other : ExternalForm) → FormFits (file_scene new_types new.declared) form → FormFits (file_scene old_types old.declared) other
      → aligned.FormsAgree (rewriting_of old_types old runs put) form other → FormAgrees change form other
  forms_agree adds (declares declarators trees) (declares others other_trees) t u h =
      (h.0, trees_whole_enumerated old_types runs change (added_by put) adds (file_scene old_types old.declared) (file_scene new_types new.declared) trees other_trees t.0 u.0 h.1)
  forms_agree adds (declares declarators trees) (defines_function g others body) t u h = absurd h
  forms_agree adds (defines_function f parameters body) (declares others other_trees) t u h = absurd h
  forms_agree adds (defines_function f parameters body) (defines_function g others other) t u h =
      let new_body = typed_body new_types new.declared f parameters body t in
      let old_body = typed_body old_types old.declared g others other u in (
        h.0,
        h.1,
        new_body.block,
        old_body.block,
        body_parts change body other new_body.block
            (whole_enumerated old_types runs change (added_by put) adds (body_scene (file_scene old_types old.declared) old_body.result) (body_scene (file_scene new_types new.declared) new_body.result)
            body other new_body.typed old_body.typed h.2),
      )

  module _ (typed : IsWellTypedUnit new_types new) (old_typed : IsWellTypedUnit old_types old) where
    -- those that agree, one by one
    others_agree : AddsValue change (added_by put) → (externals : List External) → All (Fits new_types new.declared) externals
        → Zipped (aligned.ExternalsAgree (rewriting_of old_types old runs put)) externals old.externals
        → Zipped (λ (one other : External). FormAgrees change one.form other.form) externals old.externals
    others_agree adds externals t h =
        zipped_typed (Fits new_types new.declared) (Fits old_types old.declared) (aligned.ExternalsAgree (rewriting_of old_types old runs put)) (λ (one other : External). FormAgrees change one.form other.form)
        (λ one other fits other_fits agrees. forms_agree adds one.form other.form fits.2 other_fits.2 agrees.1) externals old.externals t old_typed.externals h

-- ---- units

module _ (old_types new_types : Table) (old new : TypedUnit) (runs : List Run) (old_typed : IsWellTypedUnit old_types old) (typed : IsWellTypedUnit new_types new) where
  with_put : (put : Insertion) → IsValue put.added → AreAligned old_types new_types old new runs (Some put) → (found : Option External) → slice_get new.externals put.external ≡ found
      → IsSomeAnd found (λ external. FormAdds new_types new put put.added external.form) → ExternalsAgree (change_of old_types new old (moved (Some put))) new.externals old.externals
  with_put put is h None e adds = absurd adds
  with_put put is h (Some external) e adds =
      let change = change_of old_types new old (moved (Some put)) in
      let value = put_value new_types new change refl put put.added is external adds in
      subst (λ externals. ExternalsAgree change externals old.externals) (sym (parts_of_list put.external new.externals external e))
      (agree_but_bare change (take put.external new.externals) (drop (put.external + 1) new.externals) old.externals external value.1
      (others_agree old_types new_types old new runs (Some put) typed old_typed value.0 (other_externals (Some put) new.externals)
      (all_without (ExternalFits (file_scene new_types new.declared)) put.external new.externals typed.externals) h.externals))

  externals_agree : (put : Option Insertion) → IsValue (added_by put) → AreAligned old_types new_types old new runs put
      → ExternalsAgree (change_of old_types new old (moved put)) new.externals old.externals
  externals_agree None is h =
      all_agree (change_of old_types new old (moved None)) new.externals old.externals (others_agree old_types new_types old new runs None typed old_typed tt new.externals typed.externals h.externals)
  externals_agree (Some put) is h = with_put put is h (slice_get new.externals put.external) refl h.added

  pub enumerated_units : (put : Option Insertion) → IsValue (added_by put) → AreAligned old_types new_types old new runs put
      → Refines (machine_of (program_of new_types new)) (machine_of (program_of old_types old))
  enumerated_units put is h =
      refines_through (machine_of (program_of new_types new)) (machine_of (program_of old_types new)) (machine_of (program_of old_types old))
      (refines_same old_types new_types h.structs new)
      (units_refine old_types new old (moved put) (record {
        injective = moved_injective put;
        told = entry_told put new.declared old.declared h.declared;
        externals = externals_agree put is h;
      }))
