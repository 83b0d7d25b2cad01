-- Units that are the same but for an added const object, and reads of it, have programs that are the same but for those.
use Rattle.std.specs.Prelude.{◌≡◌, refl, ℕ, ◌==◌, Bool, true, false, ◌&&◌, List, [], ◌∷◌, ◌++◌, map, take, drop, Option, Some, None, option_map, is_some, if◌then◌else◌, ℤ}
use Rattle.std.proofs.Common.{true≢false, ap, sym, ◌∙◌, subst, inl, inr}
use Rattle.dm_int.specs.declared.Kind.{Kind}
use Rattle.dm_type.specs.CTypes.{CType}
use Rattle.dm_type.specs.Tables.{Table}
use Rattle.dm_tree.specs.declared.unit.Sort.{Sort}
use Rattle.dm_tree.specs.Constants.{constant_forms}
use Rattle.dm_tree.specs.Trees.{Label, enumerator, block, declare, full, empty, if_statement, switch, case, default, while_loop, do_loop, for_loop, break, continue, return, is_statement, Declarator, Tree, Trees, node, no_trees, more_trees, label_of, trees_of, listed}
use Rattle.dm_tree.specs.Units.{Declaration, External, ExternalForm, declares, defines_function, TypedUnit}
use Rattle.dm_meaning.specs.Refinement.{Refines}
use Rattle.dm_meaning.specs.Programs.{Static, declaration_at}
use Rattle.dm_meaning.specs.Statements.{Local, with_expressions, expressions_of, kind_declared}
use Rattle.dm_meaning.specs.Units.{is_static_sort, is_static_declaration, is_static, locals_by, locals_in, locals_in_all, locals_of, all_locals, with_initialiser, with_static, statics_from, definitions_by, definitions_in, program_of, machine_of}
use Rattle.dm_meaning.specs.Replaced.{renamed_declarator, relabelled, Zipped, facts_of}
use Rattle.dm_meaning.proofs.ConstantLemmas.{constant_parts}
use Rattle.dm_meaning.proofs.GrowLemmas.{differ_is}
use Rattle.dm_meaning.proofs.RunLemmas.{same_renamed}
use Rattle.dm_meaning.proofs.StatementLemmas.{zipped_append, zipped_take, zipped_drop}
use Rattle.dm_meaning.proofs.YieldLemmas.{may_give}
use Rattle.dm_rewrite.specs.NamedConstants.{Named, Agrees, AllAgree, DefinitionAgrees, IsRenamed, StaticAgrees}
use Rattle.dm_rewrite.specs.NamedUnits.{change_of, SameIfStatic, FormAgrees, ExternalAgrees, IsUnitNaming}
use Rattle.dm_rewrite.proofs.NamedSizeLemmas.{constant_gives}
use Rattle.dm_rewrite.proofs.NamedStartLemmas.{named_constants_refine}

-- ---- what functions declare

abbrev SameDeclarator : Named → Local → Local → Type 0
SameDeclarator change local other = local.declarator ≡ renamed_declarator change.rename other.declarator

abbrev SameDeclarators : Named → List Local → List Local → Type 0
SameDeclarators change locals others = Zipped (SameDeclarator change) locals others

with_same : (change : Named) (declarators : List Declarator) (trees others : List Tree)
    → SameDeclarators change (with_expressions (map (renamed_declarator change.rename) declarators) trees) (with_expressions declarators others)
with_same change [] trees others = tt
with_same change (declarator ∷ declarators) trees others =
    (refl, with_same change declarators (drop (expressions_of declarator.initialiser) trees) (drop (expressions_of declarator.initialiser) others))

if_same : (change : Named) (b : Bool) (locals others : List Local) → SameDeclarators change locals others → SameDeclarators change (if b then locals else []) (if b then others else [])
if_same change true locals others h = h
if_same change false locals others h = tt

locals_label : (change : Named) (label : Label) (trees others : List Tree) (below other_below : List Local) → SameDeclarators change below other_below
    → SameDeclarators change (locals_by (relabelled change.rename label) trees below) (locals_by label others other_below)
locals_label change (declare lengths declarators) trees others below other_below k = with_same change declarators (drop lengths trees) (drop lengths others)
locals_label change (enumerator d) trees others below other_below k = tt
locals_label change label trees others below other_below k = if_same change (is_statement label) below other_below k

-- what gives a value declares nothing
no_locals : (label : Label) → may_give label ≡ true → (trees : List Tree) (below : List Local) → locals_by label trees below ≡ []
no_locals (declare lengths declarators) e trees below = absurd (true≢false (sym e))
no_locals block e trees below = absurd (true≢false (sym e))
no_locals full e trees below = absurd (true≢false (sym e))
no_locals empty e trees below = absurd (true≢false (sym e))
no_locals if_statement e trees below = absurd (true≢false (sym e))
no_locals switch e trees below = absurd (true≢false (sym e))
no_locals case e trees below = absurd (true≢false (sym e))
no_locals default e trees below = absurd (true≢false (sym e))
no_locals while_loop e trees below = absurd (true≢false (sym e))
no_locals do_loop e trees below = absurd (true≢false (sym e))
no_locals (for_loop first second third) e trees below = absurd (true≢false (sym e))
no_locals break e trees below = absurd (true≢false (sym e))
no_locals continue e trees below = absurd (true≢false (sym e))
no_locals return e trees below = absurd (true≢false (sym e))
no_locals label e trees below = refl

mutual
  locals_same : (change : Named) (tree other : Tree) → Agrees change tree other → SameDeclarators change (locals_in tree) (locals_in other)
  locals_same change (node label kind spans parts) (node other other_kind other_spans others) (inl h) =
      subst (λ l. SameDeclarators change (locals_by l (listed parts) (locals_in_all parts)) (locals_by other (listed others) (locals_in_all others))) (sym h.0)
      (locals_label change other (listed parts) (listed others) (locals_in_all parts) (locals_in_all others) (all_locals_same change parts others h.3))
  locals_same change (node label kind spans parts) (node other other_kind other_spans others) (inr h) =
      let gives = constant_gives other other_kind (constant_forms others) (constant_parts change.old (node other other_kind other_spans others) change.value h.constant.value).0 in
      subst (λ l. SameDeclarators change (locals_by l (listed parts) (locals_in_all parts)) (locals_by other (listed others) (locals_in_all others))) (sym h.is)
      (subst (λ ls. SameDeclarators change [] ls) (sym (no_locals other gives (listed others) (locals_in_all others))) tt)

  all_locals_same : (change : Named) (trees others : Trees) → AllAgree change trees others → SameDeclarators change (locals_in_all trees) (locals_in_all others)
  all_locals_same change no_trees no_trees h = tt
  all_locals_same change no_trees (more_trees other others) h = absurd h
  all_locals_same change (more_trees first rest) no_trees h = absurd h
  all_locals_same change (more_trees first rest) (more_trees other others) h =
      zipped_append (SameDeclarator change) (locals_in first) (locals_in other) (locals_in_all rest) (locals_in_all others) (locals_same change first other h.0) (all_locals_same change rest others h.1)

-- the declarations in the body of a function
body_locals : (tree : Tree) → label_of tree ≡ block → locals_in tree ≡ locals_in_all (trees_of tree)
body_locals (node label kind spans parts) e = ap (λ l. locals_by l (listed parts) (locals_in_all parts)) e

-- ---- what declarations declare

abbrev LocalAgrees : Named → Local → Local → Type 0
LocalAgrees change local other = SameDeclarator change local other × SameIfStatic change local other

abbrev LocalsAgree : Named → List Local → List Local → Type 0
LocalsAgree change locals others = Zipped (LocalAgrees change) locals others

both_zipped : {X Y : Type 0} (R S : X → Y → Type 0) (xs : List X) (ys : List Y) → Zipped R xs ys → Zipped S xs ys → Zipped (λ x y. R x y × S x y) xs ys
both_zipped R S [] [] h k = tt
both_zipped R S [] (y ∷ ys) h k = absurd h
both_zipped R S (x ∷ xs) [] h k = absurd h
both_zipped R S (x ∷ xs) (y ∷ ys) h k = ((h.0, k.0), both_zipped R S xs ys h.1 k.1)

with_agrees : (change : Named) (declarators : List Declarator) (trees others : List Tree) → Zipped (IsRenamed change) trees others
    → LocalsAgree change (with_expressions (map (renamed_declarator change.rename) declarators) trees) (with_expressions declarators others)
with_agrees change [] trees others h = tt
with_agrees change (declarator ∷ declarators) trees others h = (
  (refl, λ e. zipped_take (IsRenamed change) (expressions_of declarator.initialiser) trees others h),
  with_agrees change declarators (drop (expressions_of declarator.initialiser) trees) (drop (expressions_of declarator.initialiser) others)
      (zipped_drop (IsRenamed change) (expressions_of declarator.initialiser) trees others h),
)

form_locals : (change : Named) (form other : ExternalForm) → FormAgrees change form other → LocalsAgree change (locals_of form) (locals_of other)
form_locals change (declares declarators trees) (declares others other_trees) h =
    subst (λ ds. LocalsAgree change (with_expressions ds trees) (with_expressions others other_trees)) (sym h.0) (with_agrees change others trees other_trees h.1)
form_locals change (declares declarators trees) (defines_function g others body) h = absurd h
form_locals change (defines_function f parameters body) (declares others other_trees) h = absurd h
form_locals change (defines_function f parameters body) (defines_function g others other) h =
    let same : SameDeclarators change (locals_in body) (locals_in other) =
    subst (λ ls. SameDeclarators change ls (locals_in other)) (sym (body_locals body h.2))
    (subst (λ ls. SameDeclarators change (locals_in_all (trees_of body)) ls) (sym (body_locals other h.3)) (all_locals_same change (trees_of body) (trees_of other) h.4)) in
    both_zipped (SameDeclarator change) (SameIfStatic change) (locals_in body) (locals_in other) same h.5

form_definitions : (change : Named) (form other : ExternalForm) → FormAgrees change form other → Zipped (DefinitionAgrees change) (definitions_by form) (definitions_by other)
form_definitions change (declares declarators trees) (declares others other_trees) h = tt
form_definitions change (declares declarators trees) (defines_function g others body) h = absurd h
form_definitions change (defines_function f parameters body) (declares others other_trees) h = absurd h
form_definitions change (defines_function f parameters body) (defines_function g others other) h = ((h.0, h.1, h.4), tt)

definitions_agree : (change : Named) (before behind : List External) (external : External) (others : List External) → definitions_by external.form ≡ []
    → Zipped (ExternalAgrees change) (before ++ behind) others → Zipped (DefinitionAgrees change) (definitions_in (before ++ external ∷ behind)) (definitions_in others)
definitions_agree change [] behind external others none h = subst (λ ds. Zipped (DefinitionAgrees change) (ds ++ definitions_in behind) (definitions_in others)) (sym none) (rest_agree behind others h)
  where
    rest_agree : (externals others : List External) → Zipped (ExternalAgrees change) externals others → Zipped (DefinitionAgrees change) (definitions_in externals) (definitions_in others)
    rest_agree [] [] k = tt
    rest_agree [] (other ∷ others) k = absurd k
    rest_agree (first ∷ rest) [] k = absurd k
    rest_agree (first ∷ rest) (other ∷ others) k =
        zipped_append (DefinitionAgrees change) (definitions_by first.form) (definitions_by other.form) (definitions_in rest) (definitions_in others) (form_definitions change first.form other.form k.0) (rest_agree rest others k.1)
definitions_agree change (first ∷ before) behind external [] none h = absurd h
definitions_agree change (first ∷ before) behind external (other ∷ others) none h =
    zipped_append (DefinitionAgrees change) (definitions_by first.form) (definitions_by other.form) (definitions_in (before ++ external ∷ behind)) (definitions_in others) (form_definitions change first.form other.form h.0)
    (definitions_agree change before behind external others none h.1)

-- ---- objects of static storage duration

static_fact : Option (List ℕ × Sort × CType) → Bool
static_fact None = false
static_fact (Some facts) = is_static_sort facts.1

static_is : (o : Option Declaration) → is_static_declaration o ≡ static_fact (option_map facts_of o)
unfolding static_fact
static_is None = refl
static_is (Some declaration) = refl

abbrev static_of : Local → Static
static_of local = record { declared = local.declarator.declared; initialiser = local.declarator.initialiser; expressions = local.expressions }

statics_append : (declared : List Declaration) (locals more : List Local) (statics : List Static) → statics_from declared (locals ++ more) statics ≡ statics_from declared more (statics_from declared locals statics)
statics_append declared [] more statics = refl
statics_append declared (local ∷ locals) more statics = statics_append declared locals more (if is_static declared local then with_static local statics else statics)

append_none : {X : Type 0} (xs : List X) → xs ++ [] ≡ xs
append_none [] = refl
append_none (x ∷ xs) = ap (λ l. x ∷ l) (append_none xs)

module _ (change : Named) (injective : (c d : ℕ) → change.rename c ≡ change.rename d → c ≡ d) (apart : (d : ℕ) → change.rename d ≡ change.added → ⊥)
    (told : (d : ℕ) → option_map facts_of (declaration_at change.declared (change.rename d)) ≡ option_map facts_of (declaration_at change.old.declared d)) where
  same_static : (local other : Local) → SameDeclarator change local other → is_static change.declared local ≡ is_static change.old.declared other
  same_static local other h =
      ap (λ declarator. declarator.defines && is_static_declaration (declaration_at change.declared declarator.declared)) h
      ∙ ap (λ b. other.declarator.defines && b)
      (static_is (declaration_at change.declared (change.rename other.declarator.declared)) ∙ ap static_fact (told other.declarator.declared) ∙ sym (static_is (declaration_at change.old.declared other.declarator.declared)))

  -- a definition of an object of static storage duration
  abbrev DefinitionOf : Local → Local → Type 0
  DefinitionOf local other = SameDeclarator change local other × Zipped (IsRenamed change) local.expressions other.expressions

  static_agrees : (local other : Local) → DefinitionOf local other → StaticAgrees change (static_of local) (static_of other)
  static_agrees local other h = (ap (λ (declarator : Declarator). declarator.declared) h.0, ap (λ (declarator : Declarator). declarator.initialiser) h.0, h.1)

  initialised_by : (b : Bool) (static other : Static) (local other_local : Local) → StaticAgrees change static other → DefinitionOf local other_local
      → StaticAgrees change (if b then record { declared = static.declared; initialiser = local.declarator.initialiser; expressions = local.expressions } else static)
      (if b then record { declared = other.declared; initialiser = other_local.declarator.initialiser; expressions = other_local.expressions } else other)
  initialised_by true static other local other_local h k = (h.0, ap (λ (declarator : Declarator). declarator.initialiser) k.0, k.1)
  initialised_by false static other local other_local h k = h

  with_initialiser_agrees : (static other : Static) (local other_local : Local) → StaticAgrees change static other → DefinitionOf local other_local
      → StaticAgrees change (with_initialiser static local) (with_initialiser other other_local)
  with_initialiser_agrees static other local other_local h k =
      subst (λ b. StaticAgrees change (if b then record { declared = static.declared; initialiser = local.declarator.initialiser; expressions = local.expressions } else static) (with_initialiser other other_local))
      (sym (ap (λ (declarator : Declarator). is_some declarator.initialiser) k.0))
      (initialised_by (is_some other_local.declarator.initialiser) static other local other_local h k)

  same_number : (static other : Static) (local other_local : Local) → StaticAgrees change static other → DefinitionOf local other_local
      → (static.declared == local.declarator.declared) ≡ (other.declared == other_local.declarator.declared)
  same_number static other local other_local h k =
      ap (λ d. d == local.declarator.declared) h.0
      ∙ ap (λ (declarator : Declarator). change.rename other.declared == declarator.declared) k.0
      ∙ same_renamed change.rename injective other.declared other_local.declarator.declared

  with_static_agrees : (local other : Local) → DefinitionOf local other → (statics others : List Static) → Zipped (StaticAgrees change) statics others
      → Zipped (StaticAgrees change) (with_static local statics) (with_static other others)
  with_static_agrees local other k [] [] h = (static_agrees local other k, tt)
  with_static_agrees local other k [] (t ∷ ts) h = absurd h
  with_static_agrees local other k (s ∷ ss) [] h = absurd h
  with_static_agrees local other k (s ∷ ss) (t ∷ ts) h =
      subst (λ b. Zipped (StaticAgrees change) (if b then with_initialiser s local ∷ ss else s ∷ with_static local ss) (with_static other (t ∷ ts))) (sym (same_number s t local other h.0 k))
      (by_bool (t.declared == other.declarator.declared) (with_static_agrees local other k ss ts h.1))
    where
      by_bool : (b : Bool) → Zipped (StaticAgrees change) (with_static local ss) (with_static other ts)
          → Zipped (StaticAgrees change) (if b then with_initialiser s local ∷ ss else s ∷ with_static local ss) (if b then with_initialiser t other ∷ ts else t ∷ with_static other ts)
      by_bool true rest = (with_initialiser_agrees s t local other h.0 k, h.1)
      by_bool false rest = (h.0, rest)

  statics_agree : (locals others : List Local) → LocalsAgree change locals others → (statics other_statics : List Static) → Zipped (StaticAgrees change) statics other_statics
      → Zipped (StaticAgrees change) (statics_from change.declared locals statics) (statics_from change.old.declared others other_statics)
  statics_agree [] [] h statics other_statics k = k
  statics_agree [] (other ∷ others) h statics other_statics k = absurd h
  statics_agree (local ∷ locals) [] h statics other_statics k = absurd h
  statics_agree (local ∷ locals) (other ∷ others) h statics other_statics k =
      statics_agree locals others h.1 _ _
      (subst (λ b. Zipped (StaticAgrees change) (if is_static change.declared local then with_static local statics else statics) (if b then with_static other other_statics else other_statics)) (same_static local other h.0.0)
      (by_bool (is_static change.declared local) h.0.1))
    where
      by_bool : (b : Bool) → (b ≡ true → Zipped (IsRenamed change) local.expressions other.expressions)
          → Zipped (StaticAgrees change) (if b then with_static local statics else statics) (if b then with_static other other_statics else other_statics)
      by_bool true e = with_static_agrees local other (h.0.0, e refl) statics other_statics k
      by_bool false e = k

  -- ---- the added object among them

  record HasAdded (added : Static) (statics others : List Static) : Type 0 where
    before : List Static
    behind : List Static
    is : statics ≡ before ++ added ∷ behind
    agree : Zipped (StaticAgrees change) (before ++ behind) others

  -- a definition of another object
  with_static_beside : (local other : Local) → DefinitionOf local other → (added : Static) → added.declared ≡ change.added → (before behind others : List Static)
      → Zipped (StaticAgrees change) (before ++ behind) others → HasAdded added (with_static local (before ++ added ∷ behind)) (with_static other others)
  with_static_beside local other k added e [] behind others h = record {
    before = [];
    behind = with_static local behind;
    is = ap (λ b. if b then with_initialiser added local ∷ behind else added ∷ with_static local behind) (differ_is added.declared local.declarator.declared apart_here);
    agree = with_static_agrees local other k behind others h;
  }
    where
      apart_here : added.declared ≡ local.declarator.declared → ⊥
      apart_here f = apart other.declarator.declared (sym (ap (λ (declarator : Declarator). declarator.declared) k.0) ∙ sym f ∙ e)
  with_static_beside local other k added e (s ∷ before) behind [] h = absurd h
  with_static_beside local other k added e (s ∷ before) behind (t ∷ others) h =
      subst (λ b. HasAdded added (if b then with_initialiser s local ∷ (before ++ added ∷ behind) else s ∷ with_static local (before ++ added ∷ behind)) (with_static other (t ∷ others)))
      (sym (same_number s t local other h.0 k))
      (by_bool (t.declared == other.declarator.declared) (with_static_beside local other k added e before behind others h.1))
    where
      by_bool : (b : Bool) → HasAdded added (with_static local (before ++ added ∷ behind)) (with_static other others)
          → HasAdded added (if b then with_initialiser s local ∷ (before ++ added ∷ behind) else s ∷ with_static local (before ++ added ∷ behind)) (if b then with_initialiser t other ∷ others else t ∷ with_static other others)
      by_bool true rest = record {
        before = with_initialiser s local ∷ before;
        behind = behind;
        is = refl;
        agree = (with_initialiser_agrees s t local other h.0 k, h.1);
      }
      by_bool false rest = record {
        before = s ∷ rest.before;
        behind = rest.behind;
        is = ap (λ ss. s ∷ ss) rest.is;
        agree = (h.0, rest.agree);
      }

  one_beside : (local other : Local) → LocalAgrees change local other → (added : Static) → added.declared ≡ change.added → (statics others : List Static) → HasAdded added statics others
      → HasAdded added (if is_static change.declared local then with_static local statics else statics) (if is_static change.old.declared other then with_static other others else others)
  one_beside local other k added e statics others h =
      subst (λ b. HasAdded added (if is_static change.declared local then with_static local statics else statics) (if b then with_static other others else others)) (same_static local other k.0)
      (by_bool (is_static change.declared local) k.1)
    where
      by_bool : (b : Bool) → (b ≡ true → Zipped (IsRenamed change) local.expressions other.expressions)
          → HasAdded added (if b then with_static local statics else statics) (if b then with_static other others else others)
      by_bool true f =
          subst (λ ss. HasAdded added (with_static local ss) (with_static other others)) (sym h.is)
          (with_static_beside local other (k.0, f refl) added e h.before h.behind others h.agree)
      by_bool false f = h

  statics_beside : (locals others : List Local) → LocalsAgree change locals others → (added : Static) → added.declared ≡ change.added → (statics other_statics : List Static)
      → HasAdded added statics other_statics → HasAdded added (statics_from change.declared locals statics) (statics_from change.old.declared others other_statics)
  statics_beside [] [] h added e statics other_statics k = k
  statics_beside [] (other ∷ others) h added e statics other_statics k = absurd h
  statics_beside (local ∷ locals) [] h added e statics other_statics k = absurd h
  statics_beside (local ∷ locals) (other ∷ others) h added e statics other_statics k =
      statics_beside locals others h.1 added e _ _ (one_beside local other h.0 added e statics other_statics k)

  -- the definition of the added object
  with_added : (local : Local) → local.declarator.declared ≡ change.added → (statics others : List Static) → Zipped (StaticAgrees change) statics others
      → with_static local statics ≡ statics ++ static_of local ∷ []
  with_added local e [] others h = refl
  with_added local e (s ∷ ss) [] h = absurd h
  with_added local e (s ∷ ss) (t ∷ ts) h =
      ap (λ b. if b then with_initialiser s local ∷ ss else s ∷ with_static local ss) (differ_is s.declared local.declarator.declared (λ f. apart t.declared (sym h.0.0 ∙ f ∙ e)))
      ∙ ap (λ l. s ∷ l) (with_added local e ss ts h.1)

  added_here : (local : Local) → local.declarator.declared ≡ change.added → (statics others : List Static) → Zipped (StaticAgrees change) statics others
      → HasAdded (static_of local) (with_static local statics) others
  added_here local e statics others h = record {
    before = statics;
    behind = [];
    is = with_added local e statics others h;
    agree = subst (λ ss. Zipped (StaticAgrees change) ss others) (sym (append_none statics)) h;
  }

  all_locals_agree : (externals others : List External) → Zipped (ExternalAgrees change) externals others → LocalsAgree change (all_locals externals) (all_locals others)
  all_locals_agree [] [] h = tt
  all_locals_agree [] (other ∷ others) h = absurd h
  all_locals_agree (first ∷ rest) [] h = absurd h
  all_locals_agree (first ∷ rest) (other ∷ others) h =
      zipped_append (LocalAgrees change) (locals_of first.form) (locals_of other.form) (all_locals rest) (all_locals others) (form_locals change first.form other.form h.0) (all_locals_agree rest others h.1)

  statics_with_added : (before behind : List External) (external : External) (others : List External) (local : Local) → locals_of external.form ≡ local ∷ [] → local.declarator.declared ≡ change.added
      → is_static change.declared local ≡ true → Zipped (ExternalAgrees change) (before ++ behind) others → (statics other_statics : List Static) → Zipped (StaticAgrees change) statics other_statics
      → HasAdded (static_of local) (statics_from change.declared (all_locals (before ++ external ∷ behind)) statics) (statics_from change.old.declared (all_locals others) other_statics)
  statics_with_added [] behind external others local one e f h statics other_statics k =
      subst (λ ls. HasAdded (static_of local) (statics_from change.declared (ls ++ all_locals behind) statics) (statics_from change.old.declared (all_locals others) other_statics)) (sym one)
      (subst (λ b. HasAdded (static_of local) (statics_from change.declared (all_locals behind) (if b then with_static local statics else statics)) (statics_from change.old.declared (all_locals others) other_statics)) (sym f)
      (statics_beside (all_locals behind) (all_locals others) (all_locals_agree behind others h) (static_of local) e _ _ (added_here local e statics other_statics k)))
  statics_with_added (first ∷ before) behind external [] local one e f h statics other_statics k = absurd h
  statics_with_added (first ∷ before) behind external (other ∷ others) local one e f h statics other_statics k =
      subst (λ ss. HasAdded (static_of local) ss (statics_from change.old.declared (all_locals (other ∷ others)) other_statics))
      (sym (statics_append change.declared (locals_of first.form) (all_locals (before ++ external ∷ behind)) statics))
      (subst (λ ss. HasAdded (static_of local) (statics_from change.declared (all_locals (before ++ external ∷ behind)) (statics_from change.declared (locals_of first.form) statics)) ss)
      (sym (statics_append change.old.declared (locals_of other.form) (all_locals others) other_statics))
      (statics_with_added before behind external others local one e f h.1 _ _
      (statics_agree (locals_of first.form) (locals_of other.form) (form_locals change first.form other.form h.0) statics other_statics k)))

-- A unit that declares a const object more, and reads it in place of constant expressions of its value, has a program that refines that of the unit
-- without.
pub named_units_refine : (table : Table) (new old : TypedUnit) (rename : ℕ → ℕ) (added : ℕ) (kind : Kind) (value : ℤ) → IsUnitNaming table new old rename added kind value
    → Refines (machine_of (program_of table new)) (machine_of (program_of table old))
named_units_refine table new old rename added kind value h =
    let change = change_of table new old rename added kind value in
    let local : Local = record { declarator = h.declaration.declarator; expressions = take (expressions_of h.declaration.declarator.initialiser) (h.declaration.tree ∷ []) } in
    let is_static_here : is_static new.declared local ≡ true =
    ap (λ b. b && is_static_declaration (declaration_at new.declared h.declaration.declarator.declared)) h.declaration.defines
    ∙ ap (λ d. is_static_declaration (declaration_at new.declared d)) h.declaration.declared
    ∙ ap is_static_declaration h.declaration.entry
    ∙ ap is_static_sort h.declaration.sort in
    let statics =
    statics_with_added change h.injective h.apart h.told h.before h.behind h.adds old.externals local (ap locals_of h.declaration.form) h.declaration.declared is_static_here h.others [] [] tt in
    named_constants_refine change
    (record {
      injective = h.injective;
      apart = h.apart;
      told = h.told;
      functions = subst (λ es. Zipped (DefinitionAgrees change) (definitions_in es) (definitions_in old.externals)) (sym h.externals)
          (definitions_agree change h.before h.behind h.adds old.externals (ap definitions_by h.declaration.form) h.others);
    })
    (record {
      before = statics.before;
      added = static_of local;
      behind = statics.behind;
      statics = ap (λ es. statics_from new.declared (all_locals es) []) h.externals ∙ statics.is;
      others = statics.agree;
      object = record {
        declared = h.declaration.declared;
        kind = ap (λ o. kind_declared o) h.declaration.entry ∙ h.declaration.kind;
        initialiser = h.declaration.initialiser;
        tree = h.declaration.tree;
        expressions = ap (λ i. take (expressions_of i) (h.declaration.tree ∷ [])) h.declaration.initialiser;
        number = h.declaration.number;
        constant = h.declaration.constant;
        converted = h.declaration.converted;
      };
    })
