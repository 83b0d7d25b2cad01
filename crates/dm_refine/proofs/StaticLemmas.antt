-- Initialisers of objects of static storage duration, in well-typed units: they neither read nor call, but in operands of sizeof.
--     declarator_inert, declarators_inert      the expressions of declarators
use Rattle.std.specs.Prelude.{◌≡◌, refl, ℕ, Bool, true, false, not, IsTrue, IfSome, IsSome, All, List, [], ◌∷◌, take, drop, Option, Some, None, slice_get}
use Rattle.std.specs.List.{list_all}
use Rattle.std.proofs.Common.{ap, sym, ◌∙◌, subst}
use Rattle.std.proofs.lemmas.Bool.{false≢true}
use Rattle.std.proofs.lemmas.List.{take-append-drop}
use Rattle.std.proofs.lemmas.List.Elements.{All-nil, All-append, All-take, All-drop}
use Rattle.dm_type.specs.CTypes.{CType}
use Rattle.dm_tree.specs.declared.unit.Sort.{Sort}
use Rattle.dm_tree.specs.declared.unit.Sort.TheVariants.{Object, Function, Typedef, Enumerator, Tag}
use Rattle.dm_tree.specs.Initialisers.{is_fixed, is_object, AllInitialise, InitialiserFits, FitsEntry, DeclaratorFits, DeclaratorsFit, targets, expressions_of}
use Rattle.dm_tree.specs.Scenes.{Scene}
use Rattle.dm_tree.specs.Trees.{Declarator, Initialiser, Tree}
use Rattle.dm_tree.specs.Typing.{IsWellTyped}
use Rattle.dm_tree.specs.Units.{Declaration}
use Rattle.dm_meaning.specs.Statements.{is_automatic_sort, is_automatic_declaration}
use Rattle.dm_meaning.proofs.OptionLemmas.{and_left, and_right}
use Rattle.dm_effect.specs.Scoped.{is_automatic}
use Rattle.dm_refine.proofs.InertLemmas.{IsInert, all_initialise_inert}

by_targets : (scene place_scene : Scene) (fixed : Bool) → fixed ≡ true → (trees : List Tree) → All (IsWellTyped scene) trees → (types : Option (List CType))
    → IfSome types (λ types. AllInitialise place_scene fixed types trees) → IsSome types → All IsInert trees
by_targets scene place_scene fixed e trees t None h is = absurd (false≢true is)
by_targets scene place_scene fixed e trees t (Some types) h is = all_initialise_inert scene place_scene types trees t (subst (λ (b : Bool). AllInitialise place_scene b types trees) e h)

by_initialiser : (scene place_scene : Scene) (entry : Declaration) (defines : Bool) → (IsTrue defines → IsTrue (is_object entry.sort) → is_fixed entry.sort ≡ true) → (IsTrue defines → IsTrue (is_object entry.sort))
    → (trees : List Tree) → All (IsWellTyped scene) trees → (initialiser : Option Initialiser) → InitialiserFits place_scene entry defines initialiser trees → All IsInert trees
by_initialiser scene place_scene entry defines fixed is trees t None h = subst (All IsInert) (sym h) (All-nil IsInert)
by_initialiser scene place_scene entry defines fixed is trees t (Some one) h =
    by_targets scene place_scene (is_fixed entry.sort) (fixed h.0 (is h.0)) trees t (targets place_scene.types entry.kind one) h.1 h.2

-- the expressions of a declarator's initialiser, where the object that it defines has static storage duration
pub declarator_inert : (scene place_scene : Scene) (one : Declarator)
    → ((entry : Declaration) → slice_get place_scene.declared one.declared ≡ Some entry → IsTrue one.defines → IsTrue (is_object entry.sort) → is_fixed entry.sort ≡ true)
    → (trees : List Tree) → All (IsWellTyped scene) trees → DeclaratorFits place_scene one trees → All IsInert trees
declarator_inert scene place_scene one fixed trees t h = by_entry (slice_get place_scene.declared one.declared) refl h.0 h.1
  where
    by_entry : (found : Option Declaration) → slice_get place_scene.declared one.declared ≡ found → IfSome found (FitsEntry place_scene one trees) → IsSome found → All IsInert trees
    by_entry None e fits is = absurd (false≢true is)
    by_entry (Some entry) e fits is = by_initialiser scene place_scene entry one.defines (fixed entry e) (λ defines. (fits.0 defines).0) trees t one.initialiser fits.1

-- an object of file scope isn't automatic
fixed_sort : (sort : Sort) → not (is_automatic_sort sort) ≡ true → IsTrue (is_object sort) → is_fixed sort ≡ true
fixed_sort (Object true) e is = refl
fixed_sort (Object false) e is = absurd (false≢true e)
fixed_sort Function e is = absurd (false≢true is)
fixed_sort Typedef e is = absurd (false≢true is)
fixed_sort (Enumerator value) e is = absurd (false≢true is)
fixed_sort Tag e is = absurd (false≢true is)

fixed_entry : (scene : Scene) (d : ℕ) → not (is_automatic scene.declared d) ≡ true → (entry : Declaration) → slice_get scene.declared d ≡ Some entry
    → IsTrue (is_object entry.sort) → is_fixed entry.sort ≡ true
fixed_entry scene d e entry found is = fixed_sort entry.sort (sym (ap (λ (o : Option Declaration). not (is_automatic_declaration o)) found) ∙ e) is

pub declarators_inert : (scene : Scene) (declarators : List Declarator) (trees : List Tree) → All (IsWellTyped scene) trees → DeclaratorsFit scene declarators trees
    → list_all (λ (one : Declarator). not (is_automatic scene.declared one.declared)) declarators ≡ true → All IsInert trees
declarators_inert scene [] trees t h fixed = subst (All IsInert) (sym h) (All-nil IsInert)
declarators_inert scene (one ∷ more) trees t h fixed =
    let n = expressions_of one in
    subst (All IsInert) (take-append-drop n trees)
    (All-append IsInert (take n trees) (drop n trees)
    (declarator_inert scene scene one (λ entry found defines object. fixed_entry scene one.declared (and_left (not (is_automatic scene.declared one.declared)) _ fixed) entry found object)
    (take n trees) (All-take (IsWellTyped scene) n trees t) h.0)
    (declarators_inert scene more (drop n trees) (All-drop (IsWellTyped scene) n trees t) h.1 (and_right (not (is_automatic scene.declared one.declared)) _ fixed)))
