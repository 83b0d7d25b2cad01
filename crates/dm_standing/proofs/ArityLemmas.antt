-- A call of a function that a unit defines has as many arguments as the function has parameters (6.5.2.2p2).
--     IsDefinedAs scene f parameters      the entry of a function that is defined with these parameters
--     named_parts      the name in a call, which has no parts, and so many arguments
use Rattle.std.specs.Prelude.{◌≡◌, refl, ℕ, suc, true, ◌&&◌, IsTrue, IfSome, List, [], ◌∷◌, length, Option, Some, slice_get}
use Rattle.std.proofs.Common.{ap, sym, ◌∙◌, subst}
use Rattle.std.proofs.lemmas.Bool.{false≢true}
use Rattle.dm_type.specs.CTypes.{CType, CTypes, void, integer, pointer, array, struct, function as function_type, const, no_types, more_types, bare}
use Rattle.dm_tree.specs.Composites.{covers, cover_parameters}
use Rattle.dm_tree.specs.Initialisers.{is_function_sort}
use Rattle.dm_tree.specs.Operands.{FitParameters, FitsCall}
use Rattle.dm_tree.specs.Scenes.{Scene, Names}
use Rattle.dm_tree.specs.Trees.{function, call, Spans, Tree, Trees, node, no_trees, more_trees, listed}
use Rattle.dm_tree.specs.Typing.{FitsExpression, inside, AreWellTyped, ParametersFit}
use Rattle.dm_tree.specs.Units.{Declaration}
use Rattle.dm_meaning.proofs.OptionLemmas.{none_is_some, some_is_some, and_right}
use Rattle.dm_effect.specs.Entities.{function_first}

pub record IsDefinedAs (declared : List Declaration) (f : ℕ) (parameters : List ℕ) : Type 0 where
  pub entry : Declaration
  pub found : slice_get declared f ≡ Some entry
  pub result : CType
  pub types : CTypes
  pub typed : entry.kind ≡ function_type result types
  pub scene : Scene
  pub fits : ParametersFit scene parameters types

rest_covers : (type other : CType) (types others : CTypes) → cover_parameters (more_types type types) (more_types other others) ≡ true → cover_parameters types others ≡ true
rest_covers (const type) other types others e = and_right (covers type (bare other)) (cover_parameters types others) e
rest_covers void other types others e = and_right (covers void (bare other)) (cover_parameters types others) e
rest_covers (integer kind) other types others e = and_right (covers (integer kind) (bare other)) (cover_parameters types others) e
rest_covers (pointer type) other types others e = and_right (covers (pointer type) (bare other)) (cover_parameters types others) e
rest_covers (array type n) other types others e = and_right (covers (array type n) (bare other)) (cover_parameters types others) e
rest_covers (struct n) other types others e = and_right (covers (struct n) (bare other)) (cover_parameters types others) e
rest_covers (function_type result kinds) other types others e = and_right (covers (function_type result kinds) (bare other)) (cover_parameters types others) e

as_many : (scene : Scene) (parameters : List ℕ) (types others : CTypes) (arguments : List Tree) → ParametersFit scene parameters types → cover_parameters types others ≡ true
    → FitParameters arguments others → length arguments ≡ length parameters
as_many scene [] no_types no_types [] fits e passed = refl
as_many scene [] no_types no_types (argument ∷ arguments) fits e passed = absurd passed
as_many scene [] no_types (more_types other others) arguments fits e passed = absurd (false≢true e)
as_many scene [] (more_types type types) others arguments fits e passed = absurd fits
as_many scene (d ∷ parameters) no_types others arguments fits e passed = absurd fits
as_many scene (d ∷ parameters) (more_types (const type) types) no_types arguments fits e passed = absurd (false≢true e)
as_many scene (d ∷ parameters) (more_types type types) no_types arguments fits e passed = absurd (false≢true e)
as_many scene (d ∷ parameters) (more_types type types) (more_types other others) [] fits e passed = absurd passed
as_many scene (d ∷ parameters) (more_types type types) (more_types other others) (argument ∷ arguments) fits e passed =
    ap suc (as_many scene parameters types others arguments fits.1 (rest_covers type other types others e) passed.2)

counted : (scene : Scene) (parameters : List ℕ) (result : CType) (types : CTypes) (type : CType) (arguments : List Tree) (kind : CType) → ParametersFit scene parameters types
    → covers (function_type result types) type ≡ true → FitsCall type arguments kind → length arguments ≡ length parameters
counted scene parameters result types (function_type other others) arguments kind fits e passed =
    as_many scene parameters types others arguments fits (and_right (covers result other) (cover_parameters types others) e) passed.0
counted scene parameters result types void arguments kind fits e passed = absurd passed
counted scene parameters result types (integer one) arguments kind fits e passed = absurd passed
counted scene parameters result types (pointer type) arguments kind fits e passed = absurd passed
counted scene parameters result types (array type n) arguments kind fits e passed = absurd passed
counted scene parameters result types (struct n) arguments kind fits e passed = absurd passed
counted scene parameters result types (const type) arguments kind fits e passed = absurd passed

-- the function's name, and its arguments
pub record NamesIt (f : ℕ) (count : ℕ) (parts : Trees) : Type 0 where
  pub named_kind : CType
  pub named_spans : Spans
  pub arguments : Trees
  pub are : parts ≡ more_trees (node (function f) named_kind named_spans no_trees) arguments
  pub as_many : length (listed arguments) ≡ count

module _ (declared : List Declaration) (f : ℕ) (parameters : List ℕ) (it : IsDefinedAs declared f parameters) where
  covers_it : (scene : Scene) → scene.declared ≡ declared → (d : ℕ) → d ≡ f → (type : CType)
      → Names scene d (λ one. IsTrue (is_function_sort one.sort && covers one.kind type)) → covers (function_type it.result it.types) type ≡ true
  covers_it scene e d same type fits =
      let here = subst (λ (found : Option Declaration). IfSome found (λ (one : Declaration). IsTrue (is_function_sort one.sort && covers one.kind type)))
      (ap (λ (ds : List Declaration). slice_get ds d) e ∙ (ap (slice_get declared) same ∙ it.found)) fits.0 in
      ap (λ k. covers k type) (sym it.typed) ∙ and_right (is_function_sort it.entry.sort) (covers it.entry.kind type) here

  pub named_parts : (scene : Scene) → scene.declared ≡ declared → (kind : CType) (parts : Trees) → function_first parts ≡ Some f → FitsExpression scene call kind (listed parts)
      → AreWellTyped (inside scene call (listed parts)) parts → NamesIt f (length parameters) parts
  named_parts scene e kind (more_trees (node (function d) named_kind named_spans no_trees) rest) first fits typed =
      let same = some_is_some d f first in
      record {
        named_kind = named_kind;
        named_spans = named_spans;
        arguments = rest;
        are = ap (λ n. more_trees (node (function n) named_kind named_spans no_trees) rest) same;
        as_many = counted it.scene parameters it.result it.types named_kind (listed rest) kind it.fits
            (covers_it (inside scene call (node (function d) named_kind named_spans no_trees ∷ listed rest)) e d same named_kind typed.0.0) fits;
      }
  named_parts scene e kind (more_trees (node (function d) named_kind named_spans (more_trees below others)) rest) first fits typed = absurd fits
  named_parts scene e kind (more_trees (node label named_kind named_spans below) rest) first fits typed = absurd (none_is_some f first)
  named_parts scene e kind no_trees first fits typed = absurd (none_is_some f first)
