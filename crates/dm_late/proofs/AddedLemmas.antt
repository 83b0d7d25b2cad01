-- The function that is put in, whether it returns its expression or drops its value.
--     IsAddedFunction types new put f parameters body external      its definition
--     Returns, Drops body whole      what its body is
--     IsValueThere declared body      its expression, which is a value
use Rattle.std.specs.Prelude.{◌≡◌, refl, ◌⊎◌, ℕ, Bool, true, false, not, ◌&&◌, IfSome, List, [], ◌∷◌, ◌++◌, Option, Some, None, codes, slice_get}
use Rattle.std.specs.Option.{IsSomeAnd}
use Rattle.std.specs.Str.{bytes_eq}
use Rattle.std.proofs.Common.{ap, sym, ◌∙◌, subst, inl, inr}
use Rattle.std.proofs.lemmas.Slice.Eq.{bytes_eq-Decides}
use Rattle.dm_type.specs.CTypes.{CType, CTypes, void, integer, pointer, array, struct, function as function_type, const, bare}
use Rattle.dm_type.specs.Tables.{Table}
use Rattle.dm_tree.specs.declared.unit.Linkage.{Linkage}
use Rattle.dm_tree.specs.declared.unit.Linkage.TheVariants.{Internal, External as Outer}
use Rattle.dm_tree.specs.declared.unit.Sort.TheVariants.{Function}
use Rattle.dm_tree.specs.Scenes.{Scene, IsValue, is_lvalue, is_void, is_function as is_function_type}
use Rattle.dm_tree.specs.Trees.{Label, block, return, full, is_statement, Spans, Tree, Trees, node, no_trees, more_trees, label_of, kind_of, parts_of, listed}
use Rattle.dm_tree.specs.Typing.{inside, IsWellTyped, AreWellTyped, ParametersFit, DefinitionFits, FunctionFits, FormFits, ExternalFits, file_scene, body_scene}
use Rattle.dm_tree.specs.Units.{Declaration, External, ExternalForm, declares, defines_function, TypedUnit}
use Rattle.dm_meaning.specs.Statements.{Local}
use Rattle.dm_meaning.specs.Steps.{is_main}
use Rattle.dm_meaning.specs.Units.{locals_by, locals_in, locals_in_all}
use Rattle.dm_meaning.proofs.OptionLemmas.{and_left, and_right}
use Rattle.dm_effect.specs.Scoped.{is_scoped}
use Rattle.dm_align.specs.Units.{Insertion, IsPut, AreParameters, IsBodyOf, DefinesAdded, result_of}
use Rattle.dm_refine.proofs.CallBodyLemmas.{not_true}
use Rattle.dm_refine.proofs.CallPutLemmas.{single_tree}
use Rattle.dm_refine.proofs.ConstantLocalLemmas.{no_locals}
use Rattle.dm_refine.proofs.ConstantTreeLemmas.{inside_declared}

pub record IsAddedFunction (types : Table) (new : TypedUnit) (put : Insertion) (f : ℕ) (parameters : List ℕ) (body : Tree) (external : External) : Type 0 where
  pub inside : IsPut put f
  pub whole : Tree
  pub form : external.form ≡ defines_function f parameters whole
  pub parameters_put : AreParameters put parameters
  pub entry : Declaration
  pub found : slice_get new.declared f ≡ Some entry
  pub result : CType
  pub kinds : CTypes
  pub typed : entry.kind ≡ function_type result kinds
  pub parameters_fit : ParametersFit (file_scene types new.declared) parameters kinds
  pub not_main : is_main (Some entry) ≡ false
  pub body_is : IsBodyOf (bare result) body (parts_of whole)
  pub block : label_of whole ≡ block
  pub fits : IsWellTyped (body_scene (file_scene types new.declared) result) whole

internal_not_outer : (linkage : Linkage) → linkage ≡ Internal → linkage ≡ Outer → ⊥
internal_not_outer linkage f g = cc

-- it isn't `main`, which has external linkage
other_name : (entry : Declaration) → entry.linkage ≡ Internal → (entry.name ≡ codes "main" → entry.linkage ≡ Outer) → is_main (Some entry) ≡ false
other_name entry internal main = by_bool (bytes_eq entry.name (codes "main")) refl
  where
    by_bool : (b : Bool) → bytes_eq entry.name (codes "main") ≡ b → bytes_eq entry.name (codes "main") ≡ false
    by_bool false e = e
    by_bool true e = absurd (internal_not_outer entry.linkage internal (main ((bytes_eq-Decides entry.name (codes "main")).0 e)))

module _ (types : Table) (new : TypedUnit) (put : Insertion) (f : ℕ) (parameters : List ℕ) (body : Tree) where
  abbrev file : Scene
  file = file_scene types new.declared

  by_type : (external : External) (whole : Tree) → external.form ≡ defines_function f parameters whole → IsPut put f → AreParameters put parameters → (entry : Declaration) → slice_get new.declared f ≡ Some entry
      → is_main (Some entry) ≡ false → (kind : CType) → entry.kind ≡ kind → IsBodyOf (result_of kind) body (parts_of whole) → DefinitionFits file parameters whole kind → IsAddedFunction types new put f parameters body external
  by_type external whole form inside own entry found main (function_type result kinds) typed is fits = record {
    inside = inside;
    whole = whole;
    form = form;
    parameters_put = own;
    entry = entry;
    found = found;
    result = result;
    kinds = kinds;
    typed = typed;
    parameters_fit = fits.0;
    not_main = main;
    body_is = is;
    block = fits.1;
    fits = fits.2;
  }
  by_type external whole form inside own entry found main void typed is fits = absurd fits
  by_type external whole form inside own entry found main (integer kind) typed is fits = absurd fits
  by_type external whole form inside own entry found main (pointer kind) typed is fits = absurd fits
  by_type external whole form inside own entry found main (array kind n) typed is fits = absurd fits
  by_type external whole form inside own entry found main (struct n) typed is fits = absurd fits
  by_type external whole form inside own entry found main (const kind) typed is fits = absurd fits

  by_entry : (external : External) (whole : Tree) → external.form ≡ defines_function f parameters whole → IsPut put f → AreParameters put parameters → (found : Option Declaration) → slice_get new.declared f ≡ found
      → IsSomeAnd found (λ entry. (entry.name ≡ put.name) × ((entry.sort ≡ Function) × (entry.linkage ≡ Internal) × IsBodyOf (result_of entry.kind) body (parts_of whole)))
      → IfSome found (FunctionFits file parameters whole) → IsAddedFunction types new put f parameters body external
  by_entry external whole form inside own None e names fits = absurd names
  by_entry external whole form inside own (Some entry) e names fits =
      by_type external whole form inside own entry e (other_name entry names.1.1 (λ is. (fits.2 is).1)) entry.kind refl names.1.2 fits.1

  of_form : (external : External) (form : ExternalForm) → external.form ≡ form → FormFits file form → DefinesAdded new put f parameters body form → IsAddedFunction types new put f parameters body external
  of_form external (declares declarators trees) is fits h = absurd h
  of_form external (defines_function g others whole) is fits h =
      let same = ap (λ n. defines_function n others whole) (sym h.0) ∙ ap (λ ps. defines_function f ps whole) (sym h.1) in
      let fits_it = subst (FormFits file) same fits in
      by_entry external whole (is ∙ same) h.3.0 h.2 (slice_get new.declared f) refl h.3.1 fits_it.0

  pub added_put : (external : External) → ExternalFits file external → DefinesAdded new put f parameters body external.form → IsAddedFunction types new put f parameters body external
  added_put external fits h = of_form external external.form refl fits.2 h

-- ---- its body

pub record Returns (result : CType) (body whole : Tree) : Type 0 where
  pub kind : CType
  pub spans : Spans
  pub is : parts_of whole ≡ node return kind spans (more_trees body no_trees) ∷ []
  pub valued : is_void (bare result) ≡ false
  pub object : is_function_type (bare result) ≡ false

pub record Drops (result : CType) (body whole : Tree) : Type 0 where
  pub kind : CType
  pub spans : Spans
  pub is : parts_of whole ≡ node full kind spans (more_trees body no_trees) ∷ []
  pub valueless : is_void (bare result) ≡ true

pub body_cases : (result : CType) (body whole : Tree) → IsBodyOf (bare result) body (parts_of whole) → Returns result body whole ⊎ Drops result body whole
body_cases result body whole h = by_items (parts_of whole) refl h
  where
    by_items : (items : List Tree) → parts_of whole ≡ items → IsBodyOf (bare result) body items → Returns result body whole ⊎ Drops result body whole
    by_items (node return kind spans (more_trees value no_trees) ∷ []) e k =
        inl (record { kind = kind; spans = spans; is = e ∙ ap (λ (v : Tree). node return kind spans (more_trees v no_trees) ∷ []) (sym k.0); valued = k.1; object = k.2 })
    by_items (node full kind spans (more_trees value no_trees) ∷ []) e k =
        inr (record { kind = kind; spans = spans; is = e ∙ ap (λ (v : Tree). node full kind spans (more_trees v no_trees) ∷ []) (sym k.0); valueless = k.1 })
    by_items items e k = absurd k

-- ---- its expression

-- a value, and not the name of a function
pub record IsValueThere (declared : List Declaration) (body : Tree) : Type 0 where
  pub inner : Scene
  pub same : inner.declared ≡ declared
  pub typed : IsWellTyped inner body
  pub value : IsValue body
  pub no_function : is_function_type (kind_of body) ≡ false

pub dropped_value : (scene : Scene) (whole body : Tree) (kind : CType) (spans : Spans) → parts_of whole ≡ node full kind spans (more_trees body no_trees) ∷ [] → IsWellTyped scene whole → is_function_type (kind_of body) ≡ false
    → IsValueThere scene.declared body
dropped_value scene (node label type own parts) body kind spans e t n =
    let item = node full kind spans (more_trees body no_trees) in
    let below = inside scene label (listed parts) in
    let there = (subst (λ (ts : Trees). AreWellTyped below ts) (single_tree parts item e) t.1).0 in
    record { inner = inside below full (body ∷ []); same = inside_declared scene label (listed parts); typed = there.1.0; value = there.0.0; no_function = n }

pub dropped_statement : (scene : Scene) (whole body : Tree) (kind : CType) (spans : Spans) → parts_of whole ≡ node full kind spans (more_trees body no_trees) ∷ []
    → IsWellTyped scene whole → is_statement (label_of body) ≡ false
dropped_statement scene (node label type own parts) body kind spans e t =
    let below = inside scene label (listed parts) in
    let there = (subst (λ (ts : Trees). AreWellTyped below ts) (single_tree parts (node full kind spans (more_trees body no_trees)) e) t.1).0 in
    not_true (is_statement (label_of body)) (and_right (not (is_lvalue body)) (not (is_statement (label_of body))) there.0.0)

-- names in it are in the scope of the function's parameters
pub dropped_scoped : (automatic : ℕ → Bool) (scope : List ℕ) (whole body : Tree) (kind : CType) (spans : Spans) → label_of whole ≡ block → parts_of whole ≡ node full kind spans (more_trees body no_trees) ∷ []
    → is_scoped automatic scope whole ≡ true → is_scoped automatic scope body ≡ true
dropped_scoped automatic scope (node label type own parts) body kind spans b e h =
    let whole : is_scoped automatic scope (node block type own (more_trees (node full kind spans (more_trees body no_trees)) no_trees)) ≡ true =
    ap (λ (l : Label). is_scoped automatic scope (node l type own (more_trees (node full kind spans (more_trees body no_trees)) no_trees))) (sym b)
    ∙ (ap (λ (ts : Trees). is_scoped automatic scope (node label type own ts)) (sym (single_tree parts (node full kind spans (more_trees body no_trees)) e)) ∙ h) in
    and_left (is_scoped automatic scope body) true (and_left (is_scoped automatic scope body && true) true whole)

-- it declares nothing
expression_locals : (tree : Tree) → is_statement (label_of tree) ≡ false → locals_in tree ≡ []
expression_locals (node label kind spans parts) e = no_locals label (listed parts) (locals_in_all parts) e

pub dropped_locals : (whole body : Tree) (kind : CType) (spans : Spans) → label_of whole ≡ block → parts_of whole ≡ node full kind spans (more_trees body no_trees) ∷ [] → is_statement (label_of body) ≡ false
    → locals_in whole ≡ []
dropped_locals (node label type own parts) body kind spans b e expression =
    ap (λ l. locals_by l (listed parts) (locals_in_all parts)) b
    ∙ (ap locals_in_all (single_tree parts (node full kind spans (more_trees body no_trees)) e) ∙ ap (λ (ls : List Local). (ls ++ []) ++ []) (expression_locals body expression))
