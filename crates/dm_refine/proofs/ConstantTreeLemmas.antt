-- Trees of aligned units, where reads of the added object stand in place of runs.
--     IsAddedEntry declared d kind      the declaration of the added object
--     tree_named      trees that agree are the same but for reads of it in place of constant expressions
--     renamed      those of constants read it nowhere, but in operands of sizeof
use Rattle.std.specs.Prelude.{◌≡◌, refl, ℕ, true, ◌&&◌, IsTrue, IfSome, All, List, [], ◌∷◌, Option, Some, option_map, slice_get}
use Rattle.std.proofs.Common.{ap, sym, ◌∙◌, subst, inl, inr}
use Rattle.std.proofs.lemmas.Bool.{true≢false, false≢true}
use Rattle.std.proofs.lemmas.List.Elements.{All-head, All-tail}
use Rattle.dm_runs.specs.declared.run.Run.{Run}
use Rattle.dm_int.specs.declared.Kind.{Kind}
use Rattle.dm_type.specs.CTypes.{CType, void, integer, pointer, array, struct, function as function_type, const, bare}
use Rattle.dm_tree.specs.Composites.{covers}
use Rattle.dm_tree.specs.Constants.{constant}
use Rattle.dm_tree.specs.Initialisers.{is_object}
use Rattle.dm_tree.specs.Scenes.{Scene, Names}
use Rattle.dm_tree.specs.Trees.{Label, object, read, switch, case, default, while_loop, do_loop, for_loop, sizeof_tree, enumerator, function, declare, Spans, Tree, Trees, node, no_trees, more_trees, label_of, trees_of, listed}
use Rattle.dm_tree.specs.Typing.{Fits, FitsExpression, inside, IsWellTyped, AreWellTyped}
use Rattle.dm_tree.specs.Units.{Declaration}
use Rattle.dm_meaning.specs.Programs.{declaration_of, constant_of}
use Rattle.dm_meaning.specs.Replaced.{Zipped, relabelled, facts_of}
use Rattle.dm_meaning.proofs.OptionLemmas.{none_is_some, some_is_some, and_right}
use Rattle.dm_effect.specs.Entities.{object_first}
use Rattle.dm_rewrite.specs.NamedConstants as named
use Rattle.dm_rewrite.specs.NamedConstants.{Named, new_of, IsRead, SameCase, IfSizeof, IsRenamed, AreRenamed}
use Rattle.dm_rewrite.proofs.NamedValueLemmas.{renamed_constant}
use Rattle.dm_sound.proofs.ValueLemmas.{number_same}
use Rattle.dm_agree.specs.Standing.{runs_at, runs_below}
use Rattle.dm_agree.specs.Agreement.{Added, nothing, added_function, added_enumerator, added_constant, Rewriting, Agrees, AllAgree, AtRun, AgreesWhole}
use Rattle.dm_refine.proofs.InertLemmas.{reads_or_calls, is_operand_of_sizeof, Unless, IsInert, AreInert, constant_inert, has_form}

-- ---- the added object

pub record IsAddedEntry (declared : List Declaration) (d : ℕ) (kind : Kind) : Type 0 where
  pub entry : Declaration
  pub found : slice_get declared d ≡ Some entry
  pub typed : entry.kind ≡ const (integer kind)

-- a name of an object of such a type has it
covered : (kind : Kind) (type : CType) → covers (integer kind) type ≡ true → type ≡ integer kind
covered kind (integer other) e = ap integer (sym (number_same kind other e))
covered kind void e = absurd (false≢true e)
covered kind (pointer type) e = absurd (false≢true e)
covered kind (array type n) e = absurd (false≢true e)
covered kind (struct n) e = absurd (false≢true e)
covered kind (function_type result parameters) e = absurd (false≢true e)
covered kind (const type) e = absurd (false≢true e)

covered_const : (kind : Kind) (type : CType) → covers (const (integer kind)) type ≡ true → type ≡ const (integer kind)
covered_const kind (const type) e = ap const (covered kind type e)
covered_const kind void e = absurd (false≢true e)
covered_const kind (integer other) e = absurd (false≢true e)
covered_const kind (pointer type) e = absurd (false≢true e)
covered_const kind (array type n) e = absurd (false≢true e)
covered_const kind (struct n) e = absurd (false≢true e)
covered_const kind (function_type result parameters) e = absurd (false≢true e)

named_type : (declared : List Declaration) (d : ℕ) (kind : Kind) → IsAddedEntry declared d kind → (scene : Scene) → scene.declared ≡ declared → (type : CType)
    → Names scene d (λ entry. IsTrue (is_object entry.sort && covers entry.kind type)) → type ≡ const (integer kind)
named_type declared d kind added scene e type names =
    let here = subst (λ (found : Option Declaration). IfSome found (λ (entry : Declaration). IsTrue (is_object entry.sort && covers entry.kind type)))
    (ap (λ (ds : List Declaration). slice_get ds d) e ∙ added.found) names.0 in
    covered_const kind type
    (ap (λ k. covers k type) (sym added.typed) ∙ and_right (is_object added.entry.sort) (covers added.entry.kind type) here)

-- ---- scenes

-- what parts stand among has the same declarations
pub inside_declared : (scene : Scene) (label : Label) (parts : List Tree) → (inside scene label parts).declared ≡ scene.declared
inside_declared scene switch parts = refl
inside_declared scene case parts = refl
inside_declared scene default parts = refl
inside_declared scene while_loop parts = refl
inside_declared scene do_loop parts = refl
inside_declared scene (for_loop first second third) parts = refl
inside_declared scene label parts = refl

-- what is put in is this object
abbrev pub AddsObject : Named → Added → Type 0
AddsObject change nothing = ⊥
AddsObject change (added_function f parameters body) = ⊥
AddsObject change (added_enumerator d value) = ⊥
AddsObject change (added_constant d value) = (d ≡ change.added) × (value ≡ change.value)

module _ (change : Named) (told : (d : ℕ) → option_map facts_of (declaration_of (new_of change) (change.rename d)) ≡ option_map facts_of (declaration_of change.old d)) where
  -- ---- constants

  if_sizeof : (label : Label) (P Q R : Type 0) → P → (R → Q) → Unless (is_operand_of_sizeof (relabelled change.rename label)) R → IfSizeof label P Q
  if_sizeof sizeof_tree P Q R p f r = p
  if_sizeof (enumerator d) P Q R p f r = f r
  if_sizeof (object d) P Q R p f r = f r
  if_sizeof (function d) P Q R p f r = f r
  if_sizeof (declare lengths declarators) P Q R p f r = f r
  if_sizeof label P Q R p f r = f r

  mutual
    pub renamed : (tree other : Tree) → named.Agrees change tree other → IsInert tree → IsRenamed change tree other
    renamed (node label kind spans parts) other (inl h) inert = (
      h.0,
      h.1,
      if_sizeof (label_of other) (named.AllAgree change parts (trees_of other)) (AreRenamed change parts (trees_of other)) (AreInert parts) h.3
          (λ rest. all_renamed parts (trees_of other) h.3 rest)
          (subst (λ (l : Label). Unless (is_operand_of_sizeof l) (AreInert parts)) h.0 inert.1),
    )
    renamed (node label kind spans parts) other (inr h) inert = absurd (true≢false (ap reads_or_calls (sym h.is) ∙ inert.0))

    all_renamed : (trees others : Trees) → named.AllAgree change trees others → AreInert trees → AreRenamed change trees others
    all_renamed no_trees no_trees h inert = tt
    all_renamed no_trees (more_trees other others) h inert = absurd h
    all_renamed (more_trees first rest) no_trees h inert = absurd h
    all_renamed (more_trees first rest) (more_trees other others) h inert = (renamed first other h.0 inert.0, all_renamed rest others h.1 inert.1)

  -- the value of a label `case` stays
  case_same : (scene : Scene) (label : Label) (kind : CType) (parts others : Trees) → Fits scene (relabelled change.rename label) kind (listed parts)
      → AreWellTyped (inside scene (relabelled change.rename label) (listed parts)) parts → named.AllAgree change parts others → SameCase change label parts others
  case_same scene case kind (more_trees value (more_trees below no_trees)) (more_trees other others) fits typed h =
      renamed_constant change told value other
      (renamed value other h.0 (constant_inert (inside scene case (value ∷ below ∷ [])) value typed.0 (has_form scene value fits.0.2.1)))
  case_same scene case kind (more_trees value no_trees) others fits typed h = absurd fits.0
  case_same scene case kind (more_trees value (more_trees below (more_trees third rest))) others fits typed h = absurd fits.0
  case_same scene label kind parts others fits typed h = tt

  -- ---- what stands at a run

  module _ (entry : IsAddedEntry change.declared change.added change.kind) where
    read_parts : (scene : Scene) → scene.declared ≡ change.declared → (kind : CType) (parts : Trees) → object_first parts ≡ Some change.added → FitsExpression scene read kind (listed parts)
        → AreWellTyped (inside scene read (listed parts)) parts
        → (named_kind : CType) × (named_spans : Spans) × (parts ≡ more_trees (node (object change.added) named_kind named_spans no_trees) no_trees) × (kind ≡ integer change.kind)
    read_parts scene e kind (more_trees (node (object c) named_kind named_spans no_trees) no_trees) names fits typed =
        let same = some_is_some c change.added names in
        let below = inside scene read (node (object c) named_kind named_spans no_trees ∷ []) in
        let type = named_type change.declared change.added change.kind entry below e named_kind
        (subst (λ (n : ℕ). Names below n (λ (one : Declaration). IsTrue (is_object one.sort && covers one.kind named_kind))) same typed.0.0) in
        (named_kind, named_spans, ap (λ (n : ℕ). more_trees (node (object n) named_kind named_spans no_trees) no_trees) same, fits.2 ∙ ap bare type)
    read_parts scene e kind (more_trees (node (object c) named_kind named_spans no_trees) (more_trees second rest)) names fits typed = absurd fits
    read_parts scene e kind (more_trees (node (object c) named_kind named_spans (more_trees below others)) rest) names fits typed = absurd typed.0.0
    read_parts scene e kind (more_trees (node label named_kind named_spans below) rest) names fits typed = absurd (none_is_some change.added names)
    read_parts scene e kind no_trees names fits typed = absurd (none_is_some change.added names)

    at_named : (rewriting : Rewriting) (one : Added) → AddsObject change one → (run : Run) (inner : List Run) (label : Label) (kind : CType) (parts : Trees) (other : Tree) (Passed : Type 0)
        → rewriting.value other ≡ constant_of change.old other
        → (scene new_scene : Scene) → new_scene.declared ≡ change.declared → Fits new_scene label kind (listed parts) → AreWellTyped (inside new_scene label (listed parts)) parts
        → IsWellTyped scene other → AtRun rewriting one run inner label kind parts other Passed → IsRead change label kind parts other
    at_named rewriting nothing adds run inner label kind parts other Passed is scene new_scene e fits below typed h = absurd h
    at_named rewriting (added_function f parameters body) adds run inner label kind parts other Passed is scene new_scene e fits below typed h = absurd adds
    at_named rewriting (added_enumerator d value) adds run inner label kind parts other Passed is scene new_scene e fits below typed h = absurd adds
    at_named rewriting (added_constant d value) adds run inner label kind parts other Passed is scene new_scene e fits below typed h =
        let names = read_parts new_scene e kind parts (h.0.2 ∙ ap Some adds.0) (subst (λ (l : Label). Fits new_scene l kind (listed parts)) h.0.0 fits)
        (subst (λ (l : Label). AreWellTyped (inside new_scene l (listed parts)) parts) h.0.0 below) in
        record {
          named_kind = names.0;
          named_spans = names.1;
          is = h.0.0;
          names = names.2;
          typed = names.3;
          constant = record { kind = sym h.0.1 ∙ names.3; value = sym is ∙ h.1 ∙ ap Some adds.1; scene = scene; typed = typed };
        }

    -- ---- trees

    module _ (runs : List Run) (added : Added) (adds : AddsObject change added) where
      abbrev it : Rewriting
      it = record { runs = runs; added = added; rename = change.rename; value = constant change.old.table change.old.declared }

      mutual
        pub tree_named : (scene new_scene : Scene) → new_scene.declared ≡ change.declared → (standing : List Run) (tree other : Tree) → IsWellTyped new_scene tree → IsWellTyped scene other
            → Agrees it standing tree other → named.Agrees change tree other
        tree_named scene new_scene e [] (node label kind spans parts) (node other other_kind other_spans others) t u h =
            let below = trees_named (inside scene other (listed others)) (inside new_scene label (listed parts)) (inside_declared new_scene label (listed parts) ∙ e)
            other other_spans parts others t.1 u.1 h.1 in
            inl (
              h.0.0,
              h.0.1,
              case_same new_scene other kind parts others (subst (λ (l : Label). Fits new_scene l kind (listed parts)) h.0.0 t.0)
                  (subst (λ (l : Label). AreWellTyped (inside new_scene l (listed parts)) parts) h.0.0 t.1) below,
              below,
            )
        tree_named scene new_scene e (run ∷ inner) (node label kind spans parts) other t u h =
            inr (at_named it added adds run inner label kind parts other _ refl scene new_scene e t.0 t.1 u h)

        trees_named : (scene new_scene : Scene) → new_scene.declared ≡ change.declared → (label : Label) (spans : Spans) (trees others : Trees) → AreWellTyped new_scene trees
            → AreWellTyped scene others → AllAgree it label spans trees others → named.AllAgree change trees others
        trees_named scene new_scene e label spans no_trees no_trees t u h = tt
        trees_named scene new_scene e label spans no_trees (more_trees other others) t u h = absurd h
        trees_named scene new_scene e label spans (more_trees first rest) no_trees t u h = absurd h
        trees_named scene new_scene e label spans (more_trees first rest) (more_trees other others) t u h = (
          tree_named scene new_scene e (runs_below runs label spans other) first other t.0 u.0 h.0,
          trees_named scene new_scene e label spans rest others t.1 u.1 h.1,
        )

      -- initialisers of objects of static storage duration
      pub fixed_named : (scene new_scene : Scene) → new_scene.declared ≡ change.declared → (trees others : List Tree) → All (IsWellTyped new_scene) trees → All (IsWellTyped scene) others
          → All IsInert trees → Zipped (AgreesWhole it) trees others → Zipped (IsRenamed change) trees others
      fixed_named scene new_scene e [] [] t u inert h = tt
      fixed_named scene new_scene e [] (other ∷ others) t u inert h = absurd h
      fixed_named scene new_scene e (tree ∷ trees) [] t u inert h = absurd h
      fixed_named scene new_scene e (tree ∷ trees) (other ∷ others) t u inert h = (
        renamed tree other
            (tree_named scene new_scene e (runs_at runs other) tree other (All-head (IsWellTyped new_scene) tree trees t) (All-head (IsWellTyped scene) other others u) h.0)
            (All-head IsInert tree trees inert),
        fixed_named scene new_scene e trees others (All-tail (IsWellTyped new_scene) tree trees t) (All-tail (IsWellTyped scene) other others u) (All-tail IsInert tree trees inert) h.1,
      )
