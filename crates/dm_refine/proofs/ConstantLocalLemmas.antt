-- Objects of static storage duration that functions declare, in units of which one reads an added const object.
--     locals_same      their initialisers read it nowhere, but in operands of sizeof
use Rattle.std.specs.Prelude.{◌≡◌, refl, ℕ, Bool, true, false, MatchBool, All, List, [], ◌∷◌, map, take, drop, Some, option_map, slice_get, if◌then◌else◌}
use Rattle.std.proofs.Common.{ap, sym, ◌∙◌, subst, inl, inr}
use Rattle.std.proofs.lemmas.Bool.{false≢true, true≢false}
use Rattle.std.proofs.lemmas.List.Elements.{All-head, All-tail, All-nil, All-cons, All-take, All-drop}
use Rattle.dm_type.specs.CTypes.{CType, void, integer}
use Rattle.dm_tree.specs.declared.unit.Sort.{Sort}
use Rattle.dm_tree.specs.declared.unit.Sort.TheVariants.{Object, Function, Typedef, Enumerator, Tag}
use Rattle.dm_tree.specs.Initialisers.{is_fixed, DeclaratorFits, DeclaratorsFit}
use Rattle.dm_tree.specs.Scenes.{Scene}
use Rattle.dm_tree.specs.Trees.{Label, enumerator, declare, is_statement, Declarator, Tree, Trees, node, no_trees, more_trees, listed}
use Rattle.dm_tree.specs.Typing.{Fits, FitsStatement, FitsExpression, inside, IsWellTyped, AreWellTyped}
use Rattle.dm_tree.specs.Units.{Declaration}
use Rattle.dm_meaning.specs.Programs.{declaration_of, declaration_at}
use Rattle.dm_meaning.specs.Replaced.{Zipped, relabelled, renamed_declarator, facts_of}
use Rattle.dm_meaning.specs.Statements.{Local, with_expressions, expressions_of}
use Rattle.dm_meaning.specs.Units.{is_static, is_static_declaration, is_static_sort, locals_by, locals_in, locals_in_all}
use Rattle.dm_meaning.proofs.OptionLemmas.{and_right}
use Rattle.dm_meaning.proofs.StatementLemmas.{zipped_take, zipped_drop, zipped_append}
use Rattle.dm_rewrite.specs.NamedConstants as named
use Rattle.dm_rewrite.specs.NamedConstants.{Named, new_of, IsRenamed}
use Rattle.dm_rewrite.specs.NamedUnits.{SameIfStatic}
use Rattle.dm_sound.proofs.LocalLemmas.{same_count}
use Rattle.dm_refine.proofs.ConstantTreeLemmas.{inside_declared, renamed}
use Rattle.dm_refine.proofs.InertLemmas.{IsInert}
use Rattle.dm_refine.proofs.StaticLemmas.{declarator_inert}

-- a well-typed statement's type is void
statement_void : (b : Bool) (A B C : Type 0) → (b ≡ true) → MatchBool b (A × B) C → B
statement_void true A B C e h = h.1
statement_void false A B C e h = absurd (false≢true e)

integer_void : (kind : CType) (k : _) → kind ≡ integer k → kind ≡ void → ⊥
integer_void kind k e f = absurd (cc)

-- what is no statement declares nothing
pub no_locals : (label : Label) (trees : List Tree) (below : List Local) → is_statement label ≡ false → locals_by label trees below ≡ []
no_locals (declare lengths declarators) trees below e = absurd (true≢false e)
no_locals label trees below e = ap (λ b. if b then below else []) e

fixed_sort : (sort : Sort) → is_static_sort sort ≡ true → is_fixed sort ≡ true
fixed_sort (Object true) e = refl
fixed_sort (Object false) e = absurd (false≢true e)
fixed_sort Function e = absurd (false≢true e)
fixed_sort Typedef e = absurd (false≢true e)
fixed_sort (Enumerator value) e = absurd (false≢true e)
fixed_sort Tag e = absurd (false≢true e)

-- a declarator that defines an object of static storage duration
pub static_sort_fixed : (declared : List Declaration) (scene : Scene) → scene.declared ≡ declared → (local : Local) → is_static declared local ≡ true
    → (entry : Declaration) → slice_get scene.declared local.declarator.declared ≡ Some entry → is_fixed entry.sort ≡ true
static_sort_fixed declared scene e local static entry found =
    fixed_sort entry.sort
    (sym (ap is_static_declaration (ap (λ (ds : List Declaration). slice_get ds local.declarator.declared) (sym e) ∙ found))
    ∙ and_right local.declarator.defines (is_static_declaration (declaration_at declared local.declarator.declared)) static)

-- all typed trees of a list
pub all_typed : (scene : Scene) (trees : Trees) → AreWellTyped scene trees → All (IsWellTyped scene) (listed trees)
all_typed scene no_trees h = All-nil (IsWellTyped scene)
all_typed scene (more_trees first rest) h = All-cons (IsWellTyped scene) first (listed rest) h.0 (all_typed scene rest h.1)

module _ (change : Named) (told : (d : ℕ) → option_map facts_of (declaration_of (new_of change) (change.rename d)) ≡ option_map facts_of (declaration_of change.old d)) where
  listed_agree : (trees others : Trees) → named.AllAgree change trees others → Zipped (named.Agrees change) (listed trees) (listed others)
  listed_agree no_trees no_trees h = tt
  listed_agree no_trees (more_trees other others) h = absurd h
  listed_agree (more_trees first rest) no_trees h = absurd h
  listed_agree (more_trees first rest) (more_trees other others) h = (h.0, listed_agree rest others h.1)

  pub all_inert_renamed : (trees others : List Tree) → Zipped (named.Agrees change) trees others → All IsInert trees → Zipped (IsRenamed change) trees others
  all_inert_renamed [] [] h inert = tt
  all_inert_renamed [] (other ∷ others) h inert = absurd h
  all_inert_renamed (tree ∷ trees) [] h inert = absurd h
  all_inert_renamed (tree ∷ trees) (other ∷ others) h inert =
      (renamed change told tree other h.0 (All-head IsInert tree trees inert), all_inert_renamed trees others h.1 (All-tail IsInert tree trees inert))

  local_same : (scene place_scene : Scene) → place_scene.declared ≡ change.declared → (one other : Declarator) (trees others : List Tree) → All (IsWellTyped scene) trees → DeclaratorFits place_scene one trees
      → Zipped (named.Agrees change) trees others → SameIfStatic change (record { declarator = one; expressions = trees }) (record { declarator = other; expressions = others })
  local_same scene place_scene e one other trees others t fits h static =
      all_inert_renamed trees others h
      (declarator_inert scene place_scene one (λ entry found defines object. static_sort_fixed change.declared place_scene e (record { declarator = one; expressions = trees }) static entry found) trees t fits)

  declarators_same : (scene place_scene : Scene) → place_scene.declared ≡ change.declared → (declarators : List Declarator) (trees others : List Tree) → All (IsWellTyped scene) trees
      → DeclaratorsFit place_scene (map (renamed_declarator change.rename) declarators) trees → Zipped (named.Agrees change) trees others
      → Zipped (SameIfStatic change) (with_expressions (map (renamed_declarator change.rename) declarators) trees) (with_expressions declarators others)
  declarators_same scene place_scene e [] trees others t fits h = tt
  declarators_same scene place_scene e (one ∷ more) trees others t fits h =
      let n = expressions_of one.initialiser in
      let first = subst (λ k. DeclaratorFits place_scene (renamed_declarator change.rename one) (take k trees)) (same_count one.initialiser) fits.0 in
      let rest = subst (λ k. DeclaratorsFit place_scene (map (renamed_declarator change.rename) more) (drop k trees)) (same_count one.initialiser) fits.1 in (
        local_same scene place_scene e (renamed_declarator change.rename one) one (take n trees) (take n others) (All-take (IsWellTyped scene) n trees t) first (zipped_take (named.Agrees change) n trees others h),
        declarators_same scene place_scene e more (drop n trees) (drop n others) (All-drop (IsWellTyped scene) n trees t) rest (zipped_drop (named.Agrees change) n trees others h),
      )

  if_same : (b : Bool) (locals others : List Local) → Zipped (SameIfStatic change) locals others → Zipped (SameIfStatic change) (if b then locals else []) (if b then others else [])
  if_same true locals others h = h
  if_same false locals others h = tt

  label_same : (scene : Scene) → scene.declared ≡ change.declared → (label : Label) (kind : CType) (trees others : Trees) → Fits scene (relabelled change.rename label) kind (listed trees)
      → AreWellTyped (inside scene (relabelled change.rename label) (listed trees)) trees → named.AllAgree change trees others → (below other_below : List Local) → Zipped (SameIfStatic change) below other_below
      → Zipped (SameIfStatic change) (locals_by (relabelled change.rename label) (listed trees) below) (locals_by label (listed others) other_below)
  label_same scene e (declare lengths declarators) kind trees others fits typed h below other_below k =
      let inner = inside scene (declare lengths (map (renamed_declarator change.rename) declarators)) (listed trees) in
      declarators_same inner scene e declarators (drop lengths (listed trees)) (drop lengths (listed others))
      (All-drop (IsWellTyped inner) lengths (listed trees) (all_typed inner trees typed)) fits.0.2
      (zipped_drop (named.Agrees change) lengths (listed trees) (listed others) (listed_agree trees others h))
  label_same scene e (enumerator d) kind trees others fits typed h below other_below k = tt
  label_same scene e label kind trees others fits typed h below other_below k = if_same (is_statement label) below other_below k

  mutual
    pub locals_same : (scene : Scene) → scene.declared ≡ change.declared → (tree other : Tree) → IsWellTyped scene tree → named.Agrees change tree other
        → Zipped (SameIfStatic change) (locals_in tree) (locals_in other)
    locals_same scene e (node label kind spans parts) (node other other_kind other_spans others) t (inl h) =
        subst (λ (l : Label). Zipped (SameIfStatic change) (locals_by l (listed parts) (locals_in_all parts)) (locals_by other (listed others) (locals_in_all others))) (sym h.0)
        (label_same scene e other kind parts others (subst (λ (l : Label). Fits scene l kind (listed parts)) h.0 t.0)
        (subst (λ (l : Label). AreWellTyped (inside scene l (listed parts)) parts) h.0 t.1) h.3 (locals_in_all parts) (locals_in_all others)
        (all_locals_same (inside scene label (listed parts)) (inside_declared scene label (listed parts) ∙ e) parts others t.1 h.3))
    locals_same scene e (node label kind spans parts) (node other other_kind other_spans others) t (inr h) =
        subst (λ (l : Label). Zipped (SameIfStatic change) (locals_by l (listed parts) (locals_in_all parts)) (locals_by other (listed others) (locals_in_all others))) (sym h.is)
        (subst (λ ls. Zipped (SameIfStatic change) [] ls)
        (sym (no_locals other (listed others) (locals_in_all others) (no_statement (is_statement other) refl))) tt)
      where
        no_statement : (b : Bool) → is_statement other ≡ b → is_statement other ≡ false
        no_statement false f = f
        no_statement true f = absurd (integer_void other_kind change.kind h.constant.kind
            (statement_void (is_statement other) (FitsStatement h.constant.scene other (listed others)) (other_kind ≡ void) (FitsExpression h.constant.scene other other_kind (listed others)) f h.constant.typed.0))

    all_locals_same : (scene : Scene) → scene.declared ≡ change.declared → (trees others : Trees) → AreWellTyped scene trees → named.AllAgree change trees others
        → Zipped (SameIfStatic change) (locals_in_all trees) (locals_in_all others)
    all_locals_same scene e no_trees no_trees t h = tt
    all_locals_same scene e no_trees (more_trees other others) t h = absurd h
    all_locals_same scene e (more_trees first rest) no_trees t h = absurd h
    all_locals_same scene e (more_trees first rest) (more_trees other others) t h =
        zipped_append (SameIfStatic change) (locals_in first) (locals_in other) (locals_in_all rest) (locals_in_all others) (locals_same scene e first other t.0 h.0) (all_locals_same scene e rest others t.1 h.1)
