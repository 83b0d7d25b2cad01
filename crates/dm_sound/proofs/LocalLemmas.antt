-- The initialisers of a unit's objects of static storage duration fit their declarations.
use Rattle.std.specs.Prelude.{◌≡◌, refl, ◌==◌, ℕ, Bool, true, false, IfSome, IsSome, All, List, [], ◌∷◌, ◌++◌, take, drop, Option, Some, None, is_some, if◌then◌else◌}
use Rattle.std.specs.Option.{option_map_or}
use Rattle.std.proofs.Common.{sym, subst, inl, inr}
use Rattle.std.proofs.lemmas.Bool.{false≢true}
use Rattle.std.proofs.lemmas.List.Elements.{All-head, All-tail}
use Rattle.dm_int.specs.declared.Kind.{Kind}
use Rattle.dm_type.specs.CTypes.{CType, void, function as function_type, bare}
use Rattle.dm_type.specs.Tables.{Table}
use Rattle.dm_tree.specs.Initialisers.{InitialiserFits, FitsEntry, DeclaratorFits, DeclaratorsFit}
use Rattle.dm_tree.specs.Scenes.{Scene}
use Rattle.dm_tree.specs.Trees.{declare, is_statement, Tree, Trees, node, no_trees, more_trees, listed, Declarator, Initialiser, expressions_in}
use Rattle.dm_tree.specs.Typing.{DefinitionFits, FunctionFits, FormFits, ExternalFits, IsWellTypedUnit, file_scene}
use Rattle.dm_tree.specs.Units.{Declaration, External, ExternalForm, declares, defines_function, TypedUnit}
use Rattle.dm_meaning.specs.Among.{IsAmong}
use Rattle.dm_meaning.specs.Programs.{Program, Static, declaration_of}
use Rattle.dm_meaning.specs.Statements.{Local, expressions_of, with_expressions}
use Rattle.dm_meaning.specs.Units.{locals_in, locals_in_all, locals_of, all_locals, with_initialiser, with_static, is_static, statics_from, program_of}
use Rattle.dm_meaning.proofs.GrowLemmas.{equal_of}
use Rattle.dm_sound.specs.TypedTrees.{IsProperTree, scene_in, IsTyped}
use Rattle.dm_sound.specs.TypedRuns.{IsTypedStatic, IsProperForm}
use Rattle.dm_sound.proofs.ComeLemmas.{AllTyped, typed_parts}

-- how many expressions an initialiser has
pub same_count : (o : Option Initialiser) → option_map_or expressions_in o 0 ≡ expressions_of o
same_count None = refl
same_count (Some initialiser) = refl

module _ (program : Program) where
  -- a declarator as the object that it would define
  abbrev object_of : Local → Static
  object_of local = record { declared = local.declarator.declared; initialiser = local.declarator.initialiser; expressions = local.expressions }

  abbrev AllFit : List Local → Type 0
  AllFit [] = Unit {0}
  AllFit (local ∷ locals) = IsTypedStatic program (object_of local) × AllFit locals

  joined_fit : (xs ys : List Local) → AllFit xs → AllFit ys → AllFit (xs ++ ys)
  joined_fit [] ys h k = k
  joined_fit (x ∷ xs) ys h k = (h.0, joined_fit xs ys h.1 k)

  -- ---- declarators

  defined_fits : (place : Scene) (entry : Declaration) (defines : Bool) (o : Option Initialiser) (trees : List Tree) → InitialiserFits place entry defines o trees → InitialiserFits place entry true o trees
  defined_fits place entry defines None trees h = h
  defined_fits place entry defines (Some initialiser) trees h = (refl, h.1, h.2)

  module _ (result : CType) (breaks continues : Bool) (labels : Option Kind) where
    abbrev place : Scene
    place = scene_in program result breaks continues labels

    declarator_fits : (one : Declarator) (trees : List Tree) → (o : Option Declaration) → declaration_of program one.declared ≡ o → IfSome o (FitsEntry place one trees) → IsSome o
        → IsTypedStatic program (record { declared = one.declared; initialiser = one.initialiser; expressions = trees })
    declarator_fits one trees None e f is = absurd (false≢true is)
    declarator_fits one trees (Some entry) e f is = record {
      entry = entry;
      declared = e;
      result = result;
      breaks = breaks;
      continues = continues;
      labels = labels;
      fits = defined_fits place entry one.defines one.initialiser trees f.1;
    }

    declarators_fit : (declarators : List Declarator) (trees : List Tree) → DeclaratorsFit place declarators trees → AllFit (with_expressions declarators trees)
    declarators_fit [] trees h = tt
    declarators_fit (one ∷ more) trees h =
        let count = expressions_of one.initialiser in
        let first = subst (λ n. DeclaratorFits place one (take n trees)) (same_count one.initialiser) h.0 in
        let rest = subst (λ n. DeclaratorsFit place more (drop n trees)) (same_count one.initialiser) h.1 in
        (declarator_fits one (take count trees) (declaration_of program one.declared) refl first.0 first.1, declarators_fit more (drop count trees) rest)

  -- ---- declarations in statements

  where_statement : (b : Bool) (locals : List Local) → AllFit locals → AllFit (if b then locals else [])
  where_statement true locals h = h
  where_statement false locals h = tt

  mutual
    locals_fit : (result : CType) (tree : Tree) → IsTyped program result tree → AllFit (locals_in tree)
    locals_fit result (node (declare lengths declarators) kind spans parts) t = declarators_fit result t.breaks t.continues t.labels declarators (drop lengths (listed parts)) t.typed.0.0.2
    locals_fit result (node label kind spans parts) t = where_statement (is_statement label) (locals_in_all parts) (all_fit result parts (typed_parts program result label kind spans parts t))

    all_fit : (result : CType) (trees : Trees) → AllTyped program result trees → AllFit (locals_in_all trees)
    all_fit result no_trees t = tt
    all_fit result (more_trees first rest) t = joined_fit (locals_in first) (locals_in_all rest) (locals_fit result first t.0) (all_fit result rest t.1)

  -- ---- objects

  abbrev AllStatic : List Static → Type 0
  AllStatic [] = Unit {0}
  AllStatic (static ∷ statics) = IsTypedStatic program static × AllStatic statics

  -- the later of two declarators, where that has an initialiser
  initialised_fits : (static : Static) (local : Local) → static.declared ≡ local.declarator.declared → IsTypedStatic program (object_of local) → IsTypedStatic program static → IsTypedStatic program (with_initialiser static local)
  initialised_fits static local e h k = by_initialiser (is_some local.declarator.initialiser)
    where
      by_initialiser : (b : Bool) → IsTypedStatic program (if b then record { declared = static.declared; initialiser = local.declarator.initialiser; expressions = local.expressions } else static)
      by_initialiser true = subst (λ d. IsTypedStatic program (record { declared = d; initialiser = local.declarator.initialiser; expressions = local.expressions })) (sym e) h
      by_initialiser false = k

  static_fits : (local : Local) (statics : List Static) → IsTypedStatic program (object_of local) → AllStatic statics → AllStatic (with_static local statics)
  static_fits local [] h k = (h, tt)
  static_fits local (static ∷ statics) h k = by_name (static.declared == local.declarator.declared) refl (static_fits local statics h k.1)
    where
      by_name : (b : Bool) → (static.declared == local.declarator.declared) ≡ b → AllStatic (with_static local statics) → AllStatic (if b then with_initialiser static local ∷ statics else static ∷ with_static local statics)
      by_name true e later = (initialised_fits static local (equal_of static.declared local.declarator.declared e) h k.0, k.1)
      by_name false e later = (k.0, later)

  statics_fit : (locals : List Local) (statics : List Static) → AllFit locals → AllStatic statics → AllStatic (statics_from program.declared locals statics)
  statics_fit [] statics h k = k
  statics_fit (local ∷ locals) statics h k = statics_fit locals (if is_static program.declared local then with_static local statics else statics) h.1 (by_duration (is_static program.declared local))
    where
      by_duration : (b : Bool) → AllStatic (if b then with_static local statics else statics)
      by_duration true = static_fits local statics h.0 k
      by_duration false = k

  fit_among : (statics : List Static) → AllStatic statics → (static : Static) → IsAmong static statics → IsTypedStatic program static
  fit_among [] h static a = absurd a
  fit_among (first ∷ statics) h static (inl e) = subst (IsTypedStatic program) (sym e) h.0
  fit_among (first ∷ statics) h static (inr a) = fit_among statics h.1 static a

-- ---- units

module _ (types : Table) (unit : TypedUnit) where
  abbrev of_unit : Program
  of_unit = program_of types unit

  body_fits : (parameters : List ℕ) (body : Tree) (type : CType) → DefinitionFits (file_scene types unit.declared) parameters body type → IsProperTree body → AllFit of_unit (locals_in body)
  body_fits parameters body (function_type result others) fits proper =
      locals_fit of_unit (bare result) body (record { breaks = false; continues = false; labels = None; typed = fits.2; proper = proper })
  body_fits parameters body type fits proper = absurd fits

  function_fits : (parameters : List ℕ) (body : Tree) (o : Option Declaration) → IfSome o (FunctionFits (file_scene types unit.declared) parameters body) → IsSome o → IsProperTree body → AllFit of_unit (locals_in body)
  function_fits parameters body None fits is proper = absurd (false≢true is)
  function_fits parameters body (Some entry) fits is proper = body_fits parameters body entry.kind fits.1 proper

  form_fits : (form : ExternalForm) → FormFits (file_scene types unit.declared) form → IsProperForm form → AllFit of_unit (locals_of form)
  form_fits (declares declarators trees) fits proper = declarators_fit of_unit void false false None declarators trees fits.1
  form_fits (defines_function f parameters body) fits proper = function_fits parameters body _ fits.0 fits.1 proper

  externals_fit : (externals : List External) → All (ExternalFits (file_scene types unit.declared)) externals → All (λ (external : External). IsProperForm external.form) externals → AllFit of_unit (all_locals externals)
  externals_fit [] fits proper = tt
  externals_fit (external ∷ externals) fits proper =
      joined_fit of_unit (locals_of external.form) (all_locals externals)
      (form_fits external.form (All-head (ExternalFits (file_scene types unit.declared)) external externals fits).2 (All-head (λ (one : External). IsProperForm one.form) external externals proper))
      (externals_fit externals (All-tail (ExternalFits (file_scene types unit.declared)) external externals fits) (All-tail (λ (one : External). IsProperForm one.form) external externals proper))

  pub unit_statics : IsWellTypedUnit types unit → All (λ (external : External). IsProperForm external.form) unit.externals → (static : Static) → IsAmong static of_unit.statics → IsTypedStatic of_unit static
  unit_statics typed proper static a =
      fit_among of_unit of_unit.statics (statics_fit of_unit (all_locals unit.externals) [] (externals_fit unit.externals typed.externals proper) tt) static a
