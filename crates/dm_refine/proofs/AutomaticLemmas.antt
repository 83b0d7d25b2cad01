-- Parameters of functions are automatic.
--     nowhere_local      an object that isn't automatic is no parameter of a function
use Rattle.std.specs.Prelude.{◌≡◌, refl, ℕ, Bool, true, false, not, ◌&&◌, ◌||◌, ◌==◌, IfSome, IsSome, All, List, [], ◌∷◌, ◌++◌, Option, Some, None, slice_get}
use Rattle.std.specs.List.{list_any}
use Rattle.std.proofs.Common.{ap, sym, ◌∙◌}
use Rattle.std.proofs.lemmas.Bool.{true≢false, false≢true}
use Rattle.std.proofs.lemmas.List.Elements.{All-head, All-tail}
use Rattle.dm_type.specs.CTypes.{CType, CTypes, void, integer, pointer, array, struct, function as function_type, const, no_types, more_types}
use Rattle.dm_type.specs.Tables.{Table}
use Rattle.dm_tree.specs.Trees.{Tree}
use Rattle.dm_tree.specs.Typing.{ParameterFits, ParametersFit, DefinitionFits, FunctionFits, FormFits, ExternalFits, IsWellTypedUnit, file_scene}
use Rattle.dm_tree.specs.Units.{Declaration, External, ExternalForm, declares, defines_function, TypedUnit}
use Rattle.dm_meaning.specs.Called.{is_parameter, is_nowhere_local}
use Rattle.dm_meaning.specs.Programs.{Definition}
use Rattle.dm_meaning.specs.Statements.{is_automatic_declaration, is_automatic_sort}
use Rattle.dm_meaning.specs.Units.{definitions_by, definitions_in, program_of}
use Rattle.dm_meaning.proofs.GrowLemmas.{equal_of}

-- ---- parameters are automatic

or_false : (a b : Bool) → a ≡ false → b ≡ false → (a || b) ≡ false
or_false a b e f = ap (λ x. x || b) e ∙ f

any_append : {A : Type 0} (test : A → Bool) (xs ys : List A) → list_any test xs ≡ false → list_any test ys ≡ false → list_any test (xs ++ ys) ≡ false
any_append test [] ys e f = f
any_append test (x ∷ xs) ys e f = or_false (test x) (list_any test (xs ++ ys)) (left (test x) (list_any test xs) e) (any_append test xs ys (right (test x) (list_any test xs) e) f)
  where
    left : (a b : Bool) → (a || b) ≡ false → a ≡ false
    left true b h = h
    left false b h = refl

    right : (a b : Bool) → (a || b) ≡ false → b ≡ false
    right true b h = absurd (true≢false h)
    right false b h = h

module _ (types : Table) (declared : List Declaration) (d : ℕ) (still : is_automatic_declaration (slice_get declared d) ≡ false) where
  automatic : (found : Option Declaration) (type : CType) → IfSome found (ParameterFits (file_scene types declared) type) → IsSome found → is_automatic_declaration found ≡ true
  automatic None type fits is = absurd (false≢true is)
  automatic (Some entry) type fits is = ap is_automatic_sort fits.0

  parameters_other : (parameters : List ℕ) (kinds : CTypes) → ParametersFit (file_scene types declared) parameters kinds → list_any (λ p. p == d) parameters ≡ false
  parameters_other [] kinds fits = refl
  parameters_other (p ∷ ps) no_types fits = absurd fits
  parameters_other (p ∷ ps) (more_types kind kinds) fits = or_false (p == d) (list_any (λ q. q == d) ps) (by_bool (p == d) refl) (parameters_other ps kinds fits.1)
    where
      by_bool : (b : Bool) → (p == d) ≡ b → (p == d) ≡ false
      by_bool false e = e
      by_bool true e = absurd (true≢false (sym (automatic (slice_get declared p) kind fits.0.0 fits.0.1) ∙ (ap (λ n. is_automatic_declaration (slice_get declared n)) (equal_of p d e) ∙ still)))

  by_type : (parameters : List ℕ) (body : Tree) (kind : CType) → DefinitionFits (file_scene types declared) parameters body kind → list_any (λ p. p == d) parameters ≡ false
  by_type parameters body (function_type result kinds) fits = parameters_other parameters kinds fits.0
  by_type parameters body void fits = absurd fits
  by_type parameters body (integer kind) fits = absurd fits
  by_type parameters body (pointer kind) fits = absurd fits
  by_type parameters body (array kind n) fits = absurd fits
  by_type parameters body (struct n) fits = absurd fits
  by_type parameters body (const kind) fits = absurd fits

  by_entry : (parameters : List ℕ) (body : Tree) (found : Option Declaration) → IfSome found (FunctionFits (file_scene types declared) parameters body) → IsSome found
      → list_any (λ p. p == d) parameters ≡ false
  by_entry parameters body None fits is = absurd (false≢true is)
  by_entry parameters body (Some entry) fits is = by_type parameters body entry.kind fits.1

  form_other : (form : ExternalForm) → FormFits (file_scene types declared) form → is_parameter (definitions_by form) d ≡ false
  form_other (declares declarators trees) fits = refl
  form_other (defines_function g parameters body) fits = or_false (list_any (λ p. p == d) parameters) false (by_entry parameters body (slice_get declared g) fits.0 fits.1) refl

  externals_other : (externals : List External) → All (ExternalFits (file_scene types declared)) externals → is_parameter (definitions_in externals) d ≡ false
  externals_other [] fits = refl
  externals_other (external ∷ externals) fits =
      any_append (λ (definition : Definition). list_any (λ p. p == d) definition.parameters) (definitions_by external.form) (definitions_in externals)
      (form_other external.form (All-head (ExternalFits (file_scene types declared)) external externals fits).2)
      (externals_other externals (All-tail (ExternalFits (file_scene types declared)) external externals fits))

pub nowhere_local : (types : Table) (one : TypedUnit) → IsWellTypedUnit types one → (d : ℕ) → is_automatic_declaration (slice_get one.declared d) ≡ false
    → is_nowhere_local (program_of types one) d ≡ true
nowhere_local types one typed d still =
    ap (λ b. not b && not (is_parameter (definitions_in one.externals) d)) still ∙ ap not (externals_other types one.declared d still one.externals typed.externals)
