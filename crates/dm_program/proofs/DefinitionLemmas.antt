-- The functions that a unit defines, found one after another.
use Rattle.std.proofs.Common.{◌≡◌, ℕ, zero, suc, ◌<◌, ◌==◌, Bool, true, false, IsTrue, if◌then◌else◌, is_some, List, [], ◌∷◌, ◌++◌, map, length, set, replicate, Option, Some, None, option_map, slice_get, length-set, append_assoc, append-nil, refl, ap, sym, subst, ◌∙◌, arith}
use Rattle.std.specs.List.{All, AllByRecursion, list_all}
use Rattle.std.specs.Option.{IfSome, IsSome}
use Rattle.std.proofs.lemmas.Bool.{and_parts, eqb-true, eqb-false}
use Rattle.std.proofs.lemmas.List.{length-replicate}
use Rattle.std.proofs.lemmas.List.Elements.{All-head, All-tail}
use Rattle.std.proofs.lemmas.Option.{slice_get-map, slice_get_within}
use Rattle.dm_type.specs.CTypes.{CType, CTypes, no_types, more_types, function as function_type}
use Rattle.dm_tree.specs.declared.tree.Core.{Core}
use Rattle.dm_tree.specs.declared.unit.CoreExternal.{CoreExternal}
use Rattle.dm_tree.specs.declared.unit.CoreExternalForm.TheVariants as code
use Rattle.dm_tree.specs.declared.unit.Declared.{Declared}
use Rattle.dm_tree.specs.Trees.{block, is_statement, label_of, parts_of}
use Rattle.dm_tree.specs.TypeNumbers.{IsTypedUnit, are_known, external_has_known, form_has_known}
use Rattle.dm_tree.specs.Typing as typing
use Rattle.dm_tree.specs.Typing.{ExternalFits, FormFits, ParametersFit, DefinitionFits, file_scene, body_scene}
use Rattle.dm_tree.specs.Units.{Declaration}
use Rattle.dm_tree.specs.Views.{entries_of, view, view_of_declared, view_of_external, view_of_form}
use Rattle.dm_meaning.specs.Programs.{Definition, declaration_of, definition_in}
use Rattle.dm_meaning.specs.Steps.{is_main}
use Rattle.dm_meaning.specs.Units.{definitions_by, definitions_in, main_in, main_of}
use Rattle.dm_meaning.specs.Wholes.{IsWhole}
use Rattle.dm_meaning.proofs.AnywhereLemmas.{whole-anywhere}
use Rattle.dm_meaning.proofs.WholeLemmas.{typed-whole}
use Rattle.dm_program.specs.declared.function.Function.{Function}
use Rattle.dm_program.specs.Functions.{view_of_function, FunctionFits, IsItems, AreBehind, IsBefore, at_number, in_place}
use Rattle.dm_program.specs.Sources.{Source, meant, IsSoundExternal}

-- ---- external declarations are sound

all-sound : (source : Source) (all : List CoreExternal) → list_all (external_has_known (length source.table.shapes)) all ≡ true
    → All (ExternalFits (file_scene source.table (entries_of source.table source.unit.declared))) (map (view_of_external source.table) all) → AllByRecursion (IsSoundExternal source) all
all-sound source [] known typed = tt
all-sound source (one ∷ all) known typed =
    let scene = file_scene source.table (entries_of source.table source.unit.declared) in
    let both = and_parts (external_has_known (length source.table.shapes) one) (list_all (external_has_known (length source.table.shapes)) all) known in (
      record { known = both.0; typed = All-head (ExternalFits scene) (view_of_external source.table one) (map (view_of_external source.table) all) typed },
      all-sound source all both.1 (All-tail (ExternalFits scene) (view_of_external source.table one) (map (view_of_external source.table) all) typed),
    )

middle : {A : Type 0} (P : A → Type 0) (front : List A) (one : A) (behind : List A) → AllByRecursion P (front ++ one ∷ behind) → P one
middle P [] one behind all = all.0
middle P (first ∷ front) one behind all = middle P front one behind all.1

pub sound-at : (source : Source) (front : List CoreExternal) (one : CoreExternal) (behind : List CoreExternal) → IsTypedUnit source.table source.unit → front ++ one ∷ behind ≡ source.unit.externals → IsSoundExternal source one
sound-at source front one behind typed whole =
    middle (IsSoundExternal source) front one behind
    (subst (AllByRecursion (IsSoundExternal source)) (sym whole) (all-sound source source.unit.externals typed.known_in_trees typed.typed.externals))

-- ---- a definition fits

parameters-declared : (source : Source) (ds : List ℕ) (types : CTypes) → ParametersFit (file_scene source.table (entries_of source.table source.unit.declared)) ds types
    → AllByRecursion (λ d. IsSome (declaration_of (meant source) d)) ds
parameters-declared source [] no_types h = tt
parameters-declared source (d ∷ ds) (more_types type types) h = (h.0.1, parameters-declared source ds types h.1)
parameters-declared source ds types h = absurd h

-- what is known of a body and its parameters
pub record BodyFits (source : Source) (parameters : List ℕ) (body : Core) : Type 0 where
  pub block : label_of (view source.table body) ≡ block
  pub whole : IsWhole body
  pub are_declared : AllByRecursion (λ d. IsSome (declaration_of (meant source) d)) parameters

body-fits : (source : Source) (parameters : List ℕ) (body : Core) (type : CType) → DefinitionFits (file_scene source.table (entries_of source.table source.unit.declared)) parameters (view source.table body) type
    → BodyFits source parameters body
body-fits source parameters body (function_type result types) h =
    let scene = file_scene source.table (entries_of source.table source.unit.declared) in
    let statement = ap is_statement h.1 in record {
      block = h.1;
      whole = λ types. whole-anywhere types source.table body ∙ typed-whole (body_scene scene result) (view source.table body) h.2 statement;
      are_declared = parameters-declared source parameters types h.0;
    }
body-fits source parameters body type h = absurd h

entry-fits : (source : Source) (parameters : List ℕ) (body : Core) (entry : Option Declaration)
    → IfSome entry (typing.FunctionFits (file_scene source.table (entries_of source.table source.unit.declared)) parameters (view source.table body)) → IsSome entry → BodyFits source parameters body
entry-fits source parameters body None h is = absurd (cc)
entry-fits source parameters body (Some entry) h is = body-fits source parameters body entry.kind h.1

pub function-fits : (source : Source) (external : CoreExternal) (number : ℕ) (parameters : List ℕ) (body : Core) → external.form ≡ code.Function number parameters body → IsSoundExternal source external
    → (one : Function) → one.number ≡ number → one.parameters.now ≡ parameters → one.body.now ≡ body → IsItems body one.items.now → FunctionFits source one
function-fits source external number parameters body is sound one n p b items =
    let scene = file_scene source.table (entries_of source.table source.unit.declared) in
    let known : form_has_known (length source.table.shapes) (code.Function number parameters body) ≡ true =
    ap (form_has_known (length source.table.shapes)) (sym is) ∙ (and_parts (list_all (are_known (length source.table.shapes)) external.constants) (form_has_known (length source.table.shapes) external.form) sound.known).1 in
    let typed : FormFits scene (view_of_form source.table (code.Function number parameters body)) = subst (λ form. FormFits scene (view_of_form source.table form)) is sound.typed.2 in
    let fits = entry-fits source parameters body (slice_get scene.declared number) typed.0 typed.1 in
    record {
      known = subst (λ x. IsTrue (are_known (length source.table.shapes) x)) (sym b) known;
      known_items = items.known (length source.table.shapes) known;
      whole = subst IsWhole (sym b) fits.whole;
      whole_items = items.whole fits.whole;
      declared = subst (λ d. IsSome (declaration_of (meant source) d)) (sym n) typed.1;
      items = items.same source.table fits.block ∙ ap (λ x. parts_of (view source.table x)) (sym b);
      parameters = subst (AllByRecursion (λ d. IsSome (declaration_of (meant source) d))) (sym p) fits.are_declared;
    }

-- ---- by number

set-same : (xs : List (Option Function)) (n : ℕ) (x : Function) → n < length xs → in_place (slice_get (set xs n (Some x)) n) ≡ Some x
set-same [] n x h = absurd (omega arith)
set-same (y ∷ xs) zero x h = refl
set-same (y ∷ xs) (suc n) x h = set-same xs n x (omega arith)

set-other : (xs : List (Option Function)) (n d : ℕ) (x : Function) → (n ≡ d → ⊥) → in_place (slice_get (set xs n (Some x)) d) ≡ in_place (slice_get xs d)
set-other [] n d x h = refl
set-other (y ∷ xs) zero zero x h = absurd (h refl)
set-other (y ∷ xs) zero (suc d) x h = refl
set-other (y ∷ xs) (suc n) zero x h = refl
set-other (y ∷ xs) (suc n) (suc d) x h = set-other xs n d x (λ e. h (ap suc e))

none-there : (n d : ℕ) → in_place (slice_get (replicate n None) d) ≡ None
none-there zero d = refl
none-there (suc n) zero = refl
none-there (suc n) (suc d) = none-there n d

nothing : {A : Type 0} (xs : List A) → length xs ≡ 0 → xs ≡ []
nothing [] none = refl
nothing (x ∷ xs) none = absurd (omega (arith, none))

module _ (source : Source) where
  abbrev seen : Function → Definition
  seen one = view_of_function source.table one

  abbrev defined : List CoreExternal → List Definition
  defined all = definitions_in (map (view_of_external source.table) all)

  in-range : (one : Function) → FunctionFits source one → one.number < length source.unit.declared
  in-range one fits = go (slice_get source.unit.declared one.number) refl
    where
      go : (found : Option Declared) → slice_get source.unit.declared one.number ≡ found → one.number < length source.unit.declared
      go None e =
          let none : declaration_of (meant source) one.number ≡ None = slice_get-map (view_of_declared source.table) source.unit.declared one.number ∙ ap (option_map (view_of_declared source.table)) e in
          absurd (let f = ap is_some (sym none) ∙ fits.declared in cc)
      go (Some entry) e = slice_get_within source.unit.declared one.number entry e

  -- what stands at a number once a definition was put at its own
  put : (all : List (Option Function)) (one : Function) (rest : List Definition) (d : ℕ) → one.number < length all
      → option_map seen (at_number all d) ≡ definition_in rest d → IfSome (at_number all d) (FunctionFits source) → FunctionFits source one
      → (test : Bool) → (one.number == d) ≡ test
      → (option_map seen (at_number (set all one.number (Some one)) d) ≡ (if test then Some (seen one) else definition_in rest d)) × IfSome (at_number (set all one.number (Some one)) d) (FunctionFits source)
  put all one rest d inside same fit fits true e =
      let is : one.number ≡ d = eqb-true one.number d e in
      let at : at_number (set all one.number (Some one)) d ≡ Some one = subst (λ k. in_place (slice_get (set all one.number (Some one)) k) ≡ Some one) is (set-same all one.number one inside) in
      (ap (option_map seen) at, subst (λ found. IfSome found (FunctionFits source)) (sym at) fits)
  put all one rest d inside same fit fits false e =
      let at = set-other all one.number d one (eqb-false one.number d e) in
      (ap (option_map seen) at ∙ same, subst (λ found. IfSome found (FunctionFits source)) (sym at) fit)

  -- the last of the external declarations that are left defines nothing, or a function
  pub behind-none : (rest : List CoreExternal) (external : CoreExternal) (left : List CoreExternal) (all : List (Option Function)) → left ≡ rest ++ external ∷ []
      → definitions_by (view_of_form source.table external.form) ≡ [] → AreBehind source left all → AreBehind source rest all
  behind-none rest external left all is none h = record {
    behind = external ∷ h.behind;
    whole = sym (append_assoc rest (external ∷ []) h.behind) ∙ ap (λ front. front ++ h.behind) (sym is) ∙ h.whole;
    same = λ d. h.same d ∙ ap (λ first. definition_in (first ++ defined h.behind) d) (sym none);
    fit = h.fit;
    count = h.count;
  }

  pub behind-some : (rest : List CoreExternal) (external : CoreExternal) (left : List CoreExternal) (all : List (Option Function)) (one : Function) → left ≡ rest ++ external ∷ []
      → definitions_by (view_of_form source.table external.form) ≡ seen one ∷ [] → FunctionFits source one → AreBehind source left all → AreBehind source rest (set all one.number (Some one))
  behind-some rest external left all one is some fits h =
      let inside : one.number < length all = subst (λ n. one.number < n) (sym h.count) (in-range one fits) in
      record {
        behind = external ∷ h.behind;
        whole = sym (append_assoc rest (external ∷ []) h.behind) ∙ ap (λ front. front ++ h.behind) (sym is) ∙ h.whole;
        same = λ d. (put all one (defined h.behind) d inside (h.same d) (h.fit d) fits (one.number == d) refl).0 ∙ ap (λ first. definition_in (first ++ defined h.behind) d) (sym some);
        fit = λ d. (put all one (defined h.behind) d inside (h.same d) (h.fit d) fits (one.number == d) refl).1;
        count = length-set all one.number (Some one) ∙ h.count;
      }

  -- none are behind at the beginning, and all at the end
  pub none-behind : (all : List (Option Function)) → all ≡ replicate (length source.unit.declared) None → AreBehind source source.unit.externals all
  none-behind all is = record {
    behind = [];
    whole = append-nil source.unit.externals;
    same = λ d. ap (λ them. option_map seen (at_number them d)) is ∙ ap (option_map seen) (none-there (length source.unit.declared) d);
    fit = λ d. subst (λ found. IfSome found (FunctionFits source)) (sym (ap (λ them. at_number them d) is ∙ none-there (length source.unit.declared) d)) tt;
    count = ap length is ∙ length-replicate (length source.unit.declared) None;
  }

  -- the external declaration is sound
  pub sound-behind : (rest : List CoreExternal) (external : CoreExternal) (left : List CoreExternal) (all : List (Option Function)) → left ≡ rest ++ external ∷ []
      → IsTypedUnit source.table source.unit → AreBehind source left all → IsSoundExternal source external
  sound-behind rest external left all is typed h =
      sound-at source rest external h.behind typed (sym (append_assoc rest (external ∷ []) h.behind) ∙ ap (λ front. front ++ h.behind) (sym is) ∙ h.whole)

  -- ---- `main`

  more-before : (rest : List CoreExternal) (external : CoreExternal) (left : List CoreExternal) → left ≡ external ∷ rest → (h : IsBefore source left)
      → main_in (meant source) (defined (external ∷ rest)) ≡ main_in (meant source) (defined rest) → IsBefore source rest
  more-before rest external left is h skips = record {
    front = h.front ++ external ∷ [];
    whole = append_assoc h.front (external ∷ []) rest ∙ ap (λ them. h.front ++ them) (sym is) ∙ h.whole;
    same = h.same ∙ ap (λ them. main_in (meant source) (defined them)) is ∙ skips;
  }

  pub before-none : (rest : List CoreExternal) (external : CoreExternal) (left : List CoreExternal) → left ≡ external ∷ rest
      → definitions_by (view_of_form source.table external.form) ≡ [] → IsBefore source left → IsBefore source rest
  before-none rest external left is none h = more-before rest external left is h (ap (λ first. main_in (meant source) (first ++ defined rest)) none)

  pub before-other : (rest : List CoreExternal) (external : CoreExternal) (left : List CoreExternal) (one : Function) → left ≡ external ∷ rest
      → definitions_by (view_of_form source.table external.form) ≡ seen one ∷ [] → is_main (declaration_of (meant source) one.number) ≡ false → IsBefore source left → IsBefore source rest
  before-other rest external left one is some not_main h =
      more-before rest external left is h
      (ap (λ first. main_in (meant source) (first ++ defined rest)) some ∙ ap (λ test. if test then Some (seen one) else main_in (meant source) (defined rest)) not_main)

  pub main-found : (rest : List CoreExternal) (external : CoreExternal) (left : List CoreExternal) (one : Function) → left ≡ external ∷ rest
      → definitions_by (view_of_form source.table external.form) ≡ seen one ∷ [] → is_main (declaration_of (meant source) one.number) ≡ true → IsBefore source left → main_of (meant source) ≡ Some (seen one)
  main-found rest external left one is some is_it h =
      h.same ∙ ap (λ them. main_in (meant source) (defined them)) is ∙ ap (λ first. main_in (meant source) (first ++ defined rest)) some
      ∙ ap (λ test. if test then Some (seen one) else main_in (meant source) (defined rest)) is_it

  pub main-lacking : (left : List CoreExternal) → length left ≡ 0 → IsBefore source left → main_of (meant source) ≡ None
  main-lacking left none h = h.same ∙ ap (λ them. main_in (meant source) (defined them)) (nothing left none)

  pub sound-before : (rest : List CoreExternal) (external : CoreExternal) (left : List CoreExternal) → left ≡ external ∷ rest → IsTypedUnit source.table source.unit → IsBefore source left → IsSoundExternal source external
  sound-before rest external left is typed h = sound-at source h.front external rest typed (ap (λ them. h.front ++ them) (sym is) ∙ h.whole)
