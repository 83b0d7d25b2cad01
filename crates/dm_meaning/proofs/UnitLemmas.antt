-- Units that agree have programs that agree.
use Rattle.std.specs.Prelude.{◌≡◌, refl, ℕ, ◌==◌, Bool, true, false, ◌&&◌, List, [], ◌∷◌, ◌++◌, map, drop, Option, Some, None, option_map, is_some, if◌then◌else◌}
use Rattle.std.proofs.Common.{ap, sym, ◌∙◌, subst, inl, inr}
use Rattle.dm_type.specs.CTypes.{CType}
use Rattle.dm_type.specs.Tables.{Table}
use Rattle.dm_tree.specs.declared.unit.Sort.{Sort}
use Rattle.dm_tree.specs.Constants.{constant_forms, has_constant_form}
use Rattle.dm_tree.specs.Trees.{Label, enumerator, block, declare, full, empty, if_statement, switch, case, default, while_loop, do_loop, for_loop, break, continue, return, is_statement, Declarator, Tree, Trees, node, no_trees, more_trees, label_of, trees_of, listed}
use Rattle.dm_tree.specs.Units.{Declaration, External, ExternalForm, declares, defines_function, TypedUnit}
use Rattle.dm_meaning.specs.Refinement.{Refines}
use Rattle.dm_meaning.specs.Programs.{Static, declaration_at}
use Rattle.dm_meaning.specs.Statements.{Local, with_expressions, expressions_of}
use Rattle.dm_meaning.specs.Units.{is_static_sort, is_static_declaration, is_static, locals_by, locals_in, locals_in_all, locals_of, all_locals, with_initialiser, with_static, statics_from, definitions_by, definitions_in, program_of, machine_of}
use Rattle.dm_meaning.specs.Replaced.{Replaced, renamed_declarator, relabelled, Zipped, Agrees, AllAgree, facts_of, DefinitionAgrees, StaticAgrees}
use Rattle.dm_meaning.specs.ReplacedUnits.{change_of, FormAgrees, IsBare, ExternalsAgree, IsUnitReplacement}
use Rattle.dm_meaning.proofs.ConstantLemmas.{no_form, constant_parts}
use Rattle.dm_meaning.proofs.RunLemmas.{same_renamed}
use Rattle.dm_meaning.proofs.StatementLemmas.{zipped_append, zipped_take, zipped_drop, listed_agrees}
use Rattle.dm_meaning.proofs.StartLemmas.{enumerated_refines}

abbrev LocalAgrees : Replaced → Local → Local → Type 0
LocalAgrees change local other = (local.declarator ≡ renamed_declarator change.rename other.declarator) × Zipped (Agrees change) local.expressions other.expressions

abbrev LocalsAgree : Replaced → List Local → List Local → Type 0
LocalsAgree change locals others = Zipped (LocalAgrees change) locals others

with_agrees : (change : Replaced) (declarators : List Declarator) (trees others : List Tree) → Zipped (Agrees change) trees others
    → LocalsAgree change (with_expressions (map (renamed_declarator change.rename) declarators) trees) (with_expressions declarators others)
with_agrees change [] trees others h = tt
with_agrees change (declarator ∷ declarators) trees others h = (
  (refl, zipped_take (Agrees change) (expressions_of declarator.initialiser) trees others h),
  with_agrees change declarators (drop (expressions_of declarator.initialiser) trees) (drop (expressions_of declarator.initialiser) others)
      (zipped_drop (Agrees change) (expressions_of declarator.initialiser) trees others h),
)

if_agrees : (change : Replaced) (b : Bool) (locals others : List Local) → LocalsAgree change locals others → LocalsAgree change (if b then locals else []) (if b then others else [])
if_agrees change true locals others h = h
if_agrees change false locals others h = tt

locals_label : (change : Replaced) (label : Label) (trees others : List Tree) (below other_below : List Local) → Zipped (Agrees change) trees others → LocalsAgree change below other_below
    → LocalsAgree change (locals_by (relabelled change.rename label) trees below) (locals_by label others other_below)
locals_label change (declare lengths declarators) trees others below other_below h k =
    with_agrees change declarators (drop lengths trees) (drop lengths others) (zipped_drop (Agrees change) lengths trees others h)
locals_label change (enumerator d) trees others below other_below h k = tt
locals_label change label trees others below other_below h k = if_agrees change (is_statement label) below other_below k

constant_no_locals : (label : Label) (kind : CType) (passes : List Bool) (trees : List Tree) (below : List Local) → has_constant_form label kind passes ≡ true → locals_by label trees below ≡ []
constant_no_locals (declare lengths declarators) kind passes trees below h = absurd (no_form (declare lengths declarators) kind passes refl refl h)
constant_no_locals block kind passes trees below h = absurd (no_form block kind passes refl refl h)
constant_no_locals full kind passes trees below h = absurd (no_form full kind passes refl refl h)
constant_no_locals empty kind passes trees below h = absurd (no_form empty kind passes refl refl h)
constant_no_locals if_statement kind passes trees below h = absurd (no_form if_statement kind passes refl refl h)
constant_no_locals switch kind passes trees below h = absurd (no_form switch kind passes refl refl h)
constant_no_locals case kind passes trees below h = absurd (no_form case kind passes refl refl h)
constant_no_locals default kind passes trees below h = absurd (no_form default kind passes refl refl h)
constant_no_locals while_loop kind passes trees below h = absurd (no_form while_loop kind passes refl refl h)
constant_no_locals do_loop kind passes trees below h = absurd (no_form do_loop kind passes refl refl h)
constant_no_locals (for_loop first second third) kind passes trees below h = absurd (no_form (for_loop first second third) kind passes refl refl h)
constant_no_locals break kind passes trees below h = absurd (no_form break kind passes refl refl h)
constant_no_locals continue kind passes trees below h = absurd (no_form continue kind passes refl refl h)
constant_no_locals return kind passes trees below h = absurd (no_form return kind passes refl refl h)
constant_no_locals label kind passes trees below h = refl

mutual
  locals_agree : (change : Replaced) (tree other : Tree) → Agrees change tree other → LocalsAgree change (locals_in tree) (locals_in other)
  locals_agree change (node label kind spans parts) (node other other_kind other_spans others) (inl h) =
      subst (λ l. LocalsAgree change (locals_by l (listed parts) (locals_in_all parts)) (locals_by other (listed others) (locals_in_all others))) (sym h.0)
      (locals_label change other (listed parts) (listed others) (locals_in_all parts) (locals_in_all others) (listed_agrees change parts others h.2) (all_locals_agree change parts others h.2))
  locals_agree change (node label kind spans parts) (node other other_kind other_spans others) (inr h) =
      subst (λ l. LocalsAgree change (locals_by l (listed parts) (locals_in_all parts)) (locals_by other (listed others) (locals_in_all others))) (sym h.is)
      (subst (λ ls. LocalsAgree change [] ls)
      (sym (constant_no_locals other other_kind (constant_forms others) (listed others) (locals_in_all others) (constant_parts change.old (node other other_kind other_spans others) h.value h.constant).0)) tt)

  all_locals_agree : (change : Replaced) (trees others : Trees) → AllAgree change trees others → LocalsAgree change (locals_in_all trees) (locals_in_all others)
  all_locals_agree change no_trees no_trees h = tt
  all_locals_agree change no_trees (more_trees other others) h = absurd h
  all_locals_agree change (more_trees first rest) no_trees h = absurd h
  all_locals_agree change (more_trees first rest) (more_trees other others) h =
      zipped_append (LocalAgrees change) (locals_in first) (locals_in other) (locals_in_all rest) (locals_in_all others) (locals_agree change first other h.0) (all_locals_agree change rest others h.1)

-- the declarations in the body of a function
body_locals : (tree : Tree) → label_of tree ≡ block → locals_in tree ≡ locals_in_all (trees_of tree)
body_locals (node label kind spans parts) e = ap (λ l. locals_by l (listed parts) (locals_in_all parts)) e

form_locals : (change : Replaced) (form other : ExternalForm) → FormAgrees change form other → LocalsAgree change (locals_of form) (locals_of other)
form_locals change (declares declarators trees) (declares others other_trees) h =
    subst (λ ds. LocalsAgree change (with_expressions ds trees) (with_expressions others other_trees)) (sym h.0) (with_agrees change others trees other_trees h.1)
form_locals change (declares declarators trees) (defines_function g others body) h = absurd h
form_locals change (defines_function f parameters body) (declares others other_trees) h = absurd h
form_locals change (defines_function f parameters body) (defines_function g others other) h =
    subst (λ ls. LocalsAgree change ls (locals_in other)) (sym (body_locals body h.2))
    (subst (λ ls. LocalsAgree change (locals_in_all (trees_of body)) ls) (sym (body_locals other h.3)) (all_locals_agree change (trees_of body) (trees_of other) h.4))

form_definitions : (change : Replaced) (form other : ExternalForm) → FormAgrees change form other → Zipped (DefinitionAgrees change) (definitions_by form) (definitions_by other)
form_definitions change (declares declarators trees) (declares others other_trees) h = tt
form_definitions change (declares declarators trees) (defines_function g others body) h = absurd h
form_definitions change (defines_function f parameters body) (declares others other_trees) h = absurd h
form_definitions change (defines_function f parameters body) (defines_function g others other) h = ((h.0, h.1, h.4), tt)

-- a bare declaration adds nothing
bare_locals : (external : External) (externals : List External) → IsBare external → all_locals (external ∷ externals) ≡ all_locals externals
bare_locals external externals e = ap (λ form. locals_of form ++ all_locals externals) e

bare_definitions : (external : External) (externals : List External) → IsBare external → definitions_in (external ∷ externals) ≡ definitions_in externals
bare_definitions external externals e = ap (λ form. definitions_by form ++ definitions_in externals) e

externals_locals : (change : Replaced) (externals others : List External) → ExternalsAgree change externals others → LocalsAgree change (all_locals externals) (all_locals others)
externals_locals change [] [] h = tt
externals_locals change [] (other ∷ others) h = absurd h
externals_locals change (external ∷ externals) [] h = subst (λ ls. LocalsAgree change ls []) (sym (bare_locals external externals h.0)) (externals_locals change externals [] h.1)
externals_locals change (external ∷ externals) (other ∷ others) (inl h) =
    zipped_append (LocalAgrees change) (locals_of external.form) (locals_of other.form) (all_locals externals) (all_locals others) (form_locals change external.form other.form h.0) (externals_locals change externals others h.1)
externals_locals change (external ∷ externals) (other ∷ others) (inr h) =
    subst (λ ls. LocalsAgree change ls (all_locals (other ∷ others))) (sym (bare_locals external externals h.0)) (externals_locals change externals (other ∷ others) h.1)

externals_definitions : (change : Replaced) (externals others : List External) → ExternalsAgree change externals others → Zipped (DefinitionAgrees change) (definitions_in externals) (definitions_in others)
externals_definitions change [] [] h = tt
externals_definitions change [] (other ∷ others) h = absurd h
externals_definitions change (external ∷ externals) [] h = subst (λ ds. Zipped (DefinitionAgrees change) ds []) (sym (bare_definitions external externals h.0)) (externals_definitions change externals [] h.1)
externals_definitions change (external ∷ externals) (other ∷ others) (inl h) =
    zipped_append (DefinitionAgrees change) (definitions_by external.form) (definitions_by other.form) (definitions_in externals) (definitions_in others) (form_definitions change external.form other.form h.0) (externals_definitions change externals others h.1)
externals_definitions change (external ∷ externals) (other ∷ others) (inr h) =
    subst (λ ds. Zipped (DefinitionAgrees change) ds (definitions_in (other ∷ others))) (sym (bare_definitions external externals h.0)) (externals_definitions change externals (other ∷ others) h.1)

-- ---- objects of static storage duration

static_fact : Option (List ℕ × Sort × CType) → Bool
static_fact None = false
static_fact (Some facts) = is_static_sort facts.1

static_is : (o : Option Declaration) → is_static_declaration o ≡ static_fact (option_map facts_of o)
unfolding static_fact
static_is None = refl
static_is (Some declaration) = refl

module _ (change : Replaced) (injective : (c d : ℕ) → change.rename c ≡ change.rename d → c ≡ d)
    (told : (d : ℕ) → option_map facts_of (declaration_at change.declared (change.rename d)) ≡ option_map facts_of (declaration_at change.old.declared d)) where
  same_static : (local other : Local) → LocalAgrees change local other → is_static change.declared local ≡ is_static change.old.declared other
  same_static local other h =
      ap (λ declarator. declarator.defines && is_static_declaration (declaration_at change.declared declarator.declared)) h.0
      ∙ ap (λ b. other.declarator.defines && b)
      (static_is (declaration_at change.declared (change.rename other.declarator.declared)) ∙ ap static_fact (told other.declarator.declared) ∙ sym (static_is (declaration_at change.old.declared other.declarator.declared)))

  fresh_static : (local other : Local) → LocalAgrees change local other
      → StaticAgrees change (record { declared = local.declarator.declared; initialiser = local.declarator.initialiser; expressions = local.expressions })
      (record { declared = other.declarator.declared; initialiser = other.declarator.initialiser; expressions = other.expressions })
  fresh_static local other h = (ap (λ (declarator : Declarator). declarator.declared) h.0, ap (λ (declarator : Declarator). declarator.initialiser) h.0, h.1)

  initialised_by : (b : Bool) (static other : Static) (local other_local : Local) → StaticAgrees change static other → LocalAgrees change local other_local
      → StaticAgrees change (if b then record { declared = static.declared; initialiser = local.declarator.initialiser; expressions = local.expressions } else static)
      (if b then record { declared = other.declared; initialiser = other_local.declarator.initialiser; expressions = other_local.expressions } else other)
  initialised_by true static other local other_local h k = (h.0, ap (λ (declarator : Declarator). declarator.initialiser) k.0, k.1)
  initialised_by false static other local other_local h k = h

  with_initialiser_agrees : (static other : Static) (local other_local : Local) → StaticAgrees change static other → LocalAgrees change local other_local
      → StaticAgrees change (with_initialiser static local) (with_initialiser other other_local)
  with_initialiser_agrees static other local other_local h k =
      subst (λ b. StaticAgrees change (if b then record { declared = static.declared; initialiser = local.declarator.initialiser; expressions = local.expressions } else static) (with_initialiser other other_local))
      (sym (ap (λ (declarator : Declarator). is_some declarator.initialiser) k.0))
      (initialised_by (is_some other_local.declarator.initialiser) static other local other_local h k)

  choose_agrees : (b : Bool) (xs ys : List Static) (us vs : List Static) → Zipped (StaticAgrees change) xs us → Zipped (StaticAgrees change) ys vs → Zipped (StaticAgrees change) (if b then xs else ys) (if b then us else vs)
  choose_agrees true xs ys us vs h k = h
  choose_agrees false xs ys us vs h k = k

  with_static_agrees : (local other : Local) → LocalAgrees change local other → (statics others : List Static) → Zipped (StaticAgrees change) statics others
      → Zipped (StaticAgrees change) (with_static local statics) (with_static other others)
  with_static_agrees local other k [] [] h = (fresh_static local other k, tt)
  with_static_agrees local other k [] (t ∷ ts) h = absurd h
  with_static_agrees local other k (s ∷ ss) [] h = absurd h
  with_static_agrees local other k (s ∷ ss) (t ∷ ts) h =
      let same : (s.declared == local.declarator.declared) ≡ (t.declared == other.declarator.declared) =
      ap (λ d. d == local.declarator.declared) h.0.0
      ∙ ap (λ (declarator : Declarator). change.rename t.declared == declarator.declared) k.0
      ∙ same_renamed change.rename injective t.declared other.declarator.declared in
      subst (λ b. Zipped (StaticAgrees change) (if b then with_initialiser s local ∷ ss else s ∷ with_static local ss) (with_static other (t ∷ ts))) (sym same)
      (choose_agrees (t.declared == other.declarator.declared) (with_initialiser s local ∷ ss) (s ∷ with_static local ss) (with_initialiser t other ∷ ts) (t ∷ with_static other ts)
      (with_initialiser_agrees s t local other h.0 k, h.1) (h.0, with_static_agrees local other k ss ts h.1))

  statics_from_agree : (locals others : List Local) → LocalsAgree change locals others → (statics other_statics : List Static) → Zipped (StaticAgrees change) statics other_statics
      → Zipped (StaticAgrees change) (statics_from change.declared locals statics) (statics_from change.old.declared others other_statics)
  statics_from_agree [] [] h statics other_statics k = k
  statics_from_agree [] (other ∷ others) h statics other_statics k = absurd h
  statics_from_agree (local ∷ locals) [] h statics other_statics k = absurd h
  statics_from_agree (local ∷ locals) (other ∷ others) h statics other_statics k =
      statics_from_agree locals others h.1 _ _
      (subst (λ b. Zipped (StaticAgrees change) (if b then with_static local statics else statics) (if is_static change.old.declared other then with_static other other_statics else other_statics)) (sym (same_static local other h.0))
      (choose_agrees (is_static change.old.declared other) (with_static local statics) statics (with_static other other_statics) other_statics (with_static_agrees local other h.0 statics other_statics k) k))

-- A unit in which constant expressions have become enumerators has a program that refines that of the unit without.
pub units_refine : (table : Table) (new old : TypedUnit) (rename : ℕ → ℕ) → IsUnitReplacement table new old rename → Refines (machine_of (program_of table new)) (machine_of (program_of table old))
units_refine table new old rename h =
    let change = change_of table new old rename in
    enumerated_refines change (record {
      injective = h.injective;
      told = h.told;
      functions = externals_definitions change new.externals old.externals h.externals;
      statics = statics_from_agree change h.injective h.told (all_locals new.externals) (all_locals old.externals) (externals_locals change new.externals old.externals h.externals) [] [] tt;
    })
