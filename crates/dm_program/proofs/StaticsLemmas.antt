-- The objects of static storage duration of a unit: each is defined by a declarator, whose expressions hold no statements.
use Rattle.std.proofs.Common.{◌≡◌, ℕ, zero, suc, ◌<◌, ◌==◌, Bool, true, false, if◌then◌else◌, is_some, List, [], ◌∷◌, ◌++◌, map, length, take, drop, Option, Some, None, option_map, slice_get, Bor, refl, ap, sym, subst, ◌∙◌, arith}
use Rattle.std.specs.List.{All, AllByRecursion, list_all}
use Rattle.std.specs.Option.{IfSome, IsSome}
use Rattle.std.proofs.lemmas.Bool.{and_parts, and_from}
use Rattle.std.proofs.lemmas.List.Elements.{All-head, All-tail, All-nil, All-cons}
use Rattle.std.proofs.lemmas.Option.{slice_get-map}
use Rattle.dm_type.specs.Tables.{Table}
use Rattle.dm_tree.specs.declared.tree.Core.{Core}
use Rattle.dm_tree.specs.declared.tree.Initial.{Initial}
use Rattle.dm_tree.specs.declared.tree.Local.{Local}
use Rattle.dm_tree.specs.declared.unit.CoreExternal.{CoreExternal}
use Rattle.dm_tree.specs.declared.unit.CoreExternalForm.{CoreExternalForm}
use Rattle.dm_tree.specs.declared.unit.CoreExternalForm.TheVariants as code
use Rattle.dm_tree.specs.declared.unit.CoreUnit.{CoreUnit}
use Rattle.dm_tree.specs.declared.unit.Declared.{Declared}
use Rattle.dm_tree.specs.Scenes.{Scene}
use Rattle.dm_tree.specs.Trees as label
use Rattle.dm_tree.specs.Trees.{Declarator, Initialiser, Label, Tree, Trees, node, no_trees, more_trees, listed, is_statement}
use Rattle.dm_tree.specs.TypeNumbers.{IsTypedUnit, are_known, external_has_known, form_has_known}
use Rattle.dm_tree.specs.Typing as typing
use Rattle.dm_tree.specs.Typing.{AreWellTyped, DefinitionFits, ExternalFits, FormFits, IsWellTyped, body_scene, file_scene, inside}
use Rattle.dm_type.specs.CTypes.{CType, function as function_type}
use Rattle.dm_tree.specs.Units.{Declaration, External, ExternalForm, declares, defines_function}
use Rattle.dm_tree.specs.Views.{entries_of, view_of_declared, view_of_external, view_of_form}
use Rattle.dm_meaning.specs.Programs as programs
use Rattle.dm_meaning.specs.Programs.{declaration_of}
use Rattle.dm_meaning.specs.Statements as statements
use Rattle.dm_meaning.specs.Statements.{expressions_of, with_expressions}
use Rattle.dm_meaning.specs.Units.{all_locals, is_static, locals_by, locals_in, locals_in_all, locals_of, statics_from, with_initialiser, with_static}
use Rattle.dm_meaning.specs.Wholes.{all_expressions, is_expression, IsWholeInitial}
use Rattle.dm_meaning.proofs.AnywhereLemmas.{initial-anywhere}
use Rattle.dm_meaning.proofs.WholeLemmas.{typed-declared, typed-whole}
use Rattle.dm_program.specs.declared.fixed.Static.{Static}
use Rattle.dm_program.specs.declared.gathering.Gathering.{Gathering}
use Rattle.dm_program.specs.Gathering.{seen, AreGathered, Gathers, IsStaticKnown}
use Rattle.dm_program.specs.Sources.{Source, meant}
use Rattle.dm_program.specs.Statics.{AreStatics, StaticFits, static_of, view_of_static}
use Rattle.dm_program.proofs.WalkLemmas.{KnownLocals, LocalsOfAll, KnownTree, LocalsIn, gathers-as, locals-with, statics-append}

-- ---- expressions of declarators and objects

abbrev WholeLocal : statements.Local → Type 0
WholeLocal local = all_expressions local.expressions ≡ true

abbrev WholeStatic : programs.Static → Type 0
WholeStatic static = all_expressions static.expressions ≡ true

abbrev AreWholeLocals : List statements.Local → Type 0
AreWholeLocals locals = AllByRecursion WholeLocal locals

abbrev AreWholeStatics : List programs.Static → Type 0
AreWholeStatics statics = AllByRecursion WholeStatic statics

both-append : (xs ys : List statements.Local) → AreWholeLocals xs → AreWholeLocals ys → AreWholeLocals (xs ++ ys)
both-append [] ys front behind = behind
both-append (x ∷ xs) ys front behind = (front.0, both-append xs ys front.1 behind)

take-whole : (n : ℕ) (trees : List Tree) → all_expressions trees ≡ true → all_expressions (take n trees) ≡ true
take-whole zero trees h = refl
take-whole (suc n) [] h = refl
take-whole (suc n) (tree ∷ trees) h =
    let both = and_parts (is_expression tree) (all_expressions trees) h in and_from (is_expression tree) (all_expressions (take n trees)) both.0 (take-whole n trees both.1)

drop-whole : (n : ℕ) (trees : List Tree) → all_expressions trees ≡ true → all_expressions (drop n trees) ≡ true
drop-whole zero trees h = h
drop-whole (suc n) [] h = refl
drop-whole (suc n) (tree ∷ trees) h = drop-whole n trees (and_parts (is_expression tree) (all_expressions trees) h).1

with-whole : (declarators : List Declarator) (trees : List Tree) → all_expressions trees ≡ true → AreWholeLocals (with_expressions declarators trees)
with-whole [] trees h = tt
with-whole (one ∷ more) trees h =
    (take-whole (expressions_of one.initialiser) trees h, with-whole more (drop (expressions_of one.initialiser) trees) (drop-whole (expressions_of one.initialiser) trees h))

if-whole : (test : Bool) (locals : List statements.Local) → AreWholeLocals locals → AreWholeLocals (if test then locals else [])
if-whole true locals h = h
if-whole false locals h = tt

by-whole : (scene : Scene) (form : Label) (kind : CType) (spans : label.Spans) (parts : Trees) → IsWellTyped scene (node form kind spans parts) → AreWholeLocals (locals_in_all parts)
    → AreWholeLocals (locals_by form (listed parts) (locals_in_all parts))
by-whole scene (label.declare lengths declarators) kind spans parts h below =
    with-whole declarators (drop lengths (listed parts)) (drop-whole lengths (listed parts) (typed-whole scene (node (label.declare lengths declarators) kind spans parts) h refl))
by-whole scene form kind spans parts h below = if-whole (is_statement form) (locals_in_all parts) below

mutual
  in-whole : (scene : Scene) (tree : Tree) → IsWellTyped scene tree → AreWholeLocals (locals_in tree)
  in-whole scene (node form kind spans parts) h = by-whole scene form kind spans parts h (in-all-whole (inside scene form (listed parts)) parts h.1)

  in-all-whole : (scene : Scene) (parts : Trees) → AreWellTyped scene parts → AreWholeLocals (locals_in_all parts)
  in-all-whole scene no_trees h = tt
  in-all-whole scene (more_trees first rest) h = both-append (locals_in first) (locals_in_all rest) (in-whole scene first h.0) (in-all-whole scene rest h.1)

definition-whole : (scene : Scene) (parameters : List ℕ) (body : Tree) (type : CType) → DefinitionFits scene parameters body type → AreWholeLocals (locals_in body)
definition-whole scene parameters body (function_type result types) h = in-whole (body_scene scene result) body h.2
definition-whole scene parameters body type h = absurd h

entry-whole : (scene : Scene) (parameters : List ℕ) (body : Tree) (entry : Option Declaration) → IfSome entry (typing.FunctionFits scene parameters body) → IsSome entry → AreWholeLocals (locals_in body)
entry-whole scene parameters body None h is = absurd (cc)
entry-whole scene parameters body (Some entry) h is = definition-whole scene parameters body entry.kind h.1

form-whole : (scene : Scene) (form : ExternalForm) → FormFits scene form → AreWholeLocals (locals_of form)
form-whole scene (declares declarators trees) h = with-whole declarators trees (typed-declared scene declarators trees h.0 h.1)
form-whole scene (defines_function at parameters body) h = entry-whole scene parameters body (slice_get scene.declared at) h.0 h.1

all-whole : (scene : Scene) (all : List External) → All (ExternalFits scene) all → AreWholeLocals (all_locals all)
all-whole scene [] h = tt
all-whole scene (one ∷ all) h =
    both-append (locals_of one.form) (all_locals all) (form-whole scene one.form (All-head (ExternalFits scene) one all h).2) (all-whole scene all (All-tail (ExternalFits scene) one all h))

initialised-whole : (static : programs.Static) (local : statements.Local) (test : Bool) → WholeStatic static → WholeLocal local
    → WholeStatic (if test then record { declared = static.declared; initialiser = local.declarator.initialiser; expressions = local.expressions } else static)
initialised-whole static local true s l = l
initialised-whole static local false s l = s

step-whole : (local : statements.Local) (static : programs.Static) (statics rest : List programs.Static) (test : Bool) → WholeLocal local → WholeStatic static → AreWholeStatics statics → AreWholeStatics rest
    → AreWholeStatics (if test then with_initialiser static local ∷ statics else static ∷ rest)
step-whole local static statics rest true l s before after = (initialised-whole static local (is_some local.declarator.initialiser) s l, before)
step-whole local static statics rest false l s before after = (s, after)

added-whole : (local : statements.Local) (statics : List programs.Static) → WholeLocal local → AreWholeStatics statics → AreWholeStatics (with_static local statics)
added-whole local [] l all = (l, tt)
added-whole local (static ∷ statics) l all =
    step-whole local static statics (with_static local statics) (static.declared == local.declarator.declared) l all.0 all.1 (added-whole local statics l all.1)

one-whole : (local : statements.Local) (statics : List programs.Static) (test : Bool) → WholeLocal local → AreWholeStatics statics → AreWholeStatics (if test then with_static local statics else statics)
one-whole local statics true l all = added-whole local statics l all
one-whole local statics false l all = all

statics-whole : (declared : List Declaration) (locals : List statements.Local) (statics : List programs.Static) → AreWholeLocals locals → AreWholeStatics statics → AreWholeStatics (statics_from declared locals statics)
statics-whole declared [] statics l all = all
statics-whole declared (local ∷ locals) statics l all =
    statics-whole declared locals (if is_static declared local then with_static local statics else statics) l.1 (one-whole local statics (is_static declared local) l.0 all)

-- ---- external declarations

pub declaration-gathers : (a b : Gathering) (form : CoreExternalForm) (locals : List Local) → form ≡ code.Declaration locals → Gathers a (KnownLocals locals) (LocalsOfAll locals) b
    → Gathers a (λ n. form_has_known n form) (λ table. locals_of (view_of_form table form)) b
declaration-gathers a b form locals is g =
    gathers-as a b (KnownLocals locals) (λ n. form_has_known n form) (LocalsOfAll locals) (λ table. locals_of (view_of_form table form)) (λ n h. ap (form_has_known n) (sym is) ∙ h)
    (λ table. sym (locals-with table locals) ∙ ap (λ one. locals_of (view_of_form table one)) (sym is)) g

pub function-gathers : (a b : Gathering) (form : CoreExternalForm) (number : ℕ) (parameters : List ℕ) (body : Core) → form ≡ code.Function number parameters body → Gathers a (KnownTree body) (LocalsIn body) b
    → Gathers a (λ n. form_has_known n form) (λ table. locals_of (view_of_form table form)) b
function-gathers a b form number parameters body is g =
    gathers-as a b (KnownTree body) (λ n. form_has_known n form) (LocalsIn body) (λ table. locals_of (view_of_form table form)) (λ n h. ap (form_has_known n) (sym is) ∙ h)
    (λ table. ap (λ one. locals_of (view_of_form table one)) (sym is)) g

pub gathered-more : (unit : CoreUnit) (left : List CoreExternal) (external : CoreExternal) (rest : List CoreExternal) (before after : Gathering) → left ≡ external ∷ rest
    → Gathers before (λ n. form_has_known n external.form) (λ table. locals_of (view_of_form table external.form)) after → AreGathered unit left before → AreGathered unit rest after
gathered-more unit left external rest before after is g h = record {
  declared = g.declared ∙ h.declared;
  same = λ table.
      let entries = entries_of table unit.declared in
      let first = locals_of (view_of_form table external.form) in
      let others = all_locals (map (view_of_external table) rest) in
      ap (statics_from entries others) (g.same table ∙ ap (λ declared. statics_from (entries_of table declared) first (seen table before)) h.declared)
      ∙ sym (statics-append entries first others (seen table before)) ∙ ap (λ them. statics_from entries (all_locals (map (view_of_external table) them)) (seen table before)) (sym is) ∙ h.same table;
  fit = λ n known.
      let old = h.fit n known in
      let both = and_parts (external_has_known n external) (list_all (external_has_known n) rest) (ap (list_all (external_has_known n)) (sym is) ∙ old.0) in
      let formed = (and_parts (list_all (are_known n) external.constants) (form_has_known n external.form) both.0).1 in (
        both.1,
        subst (λ k. All (IsStaticKnown n k) after.statics.items) (ap length h.declared)
            (g.fit n formed (subst (λ k. All (IsStaticKnown n k) before.statics.items) (ap length (sym h.declared)) old.1)),
      );
}

-- ---- all of them

initial-whole : (table : Table) (one : Static) → WholeStatic (view_of_static table one) → (initial : Option (Bor Initial)) → one.initial ≡ initial → IfSome initial (λ it. IsWholeInitial it.now)
initial-whole table one h None is = tt
initial-whole table one h (Some initial) is = λ types.
    initial-anywhere types table initial.now ∙ (ap (λ it. all_expressions (static_of table one.declared it).expressions) (sym is) ∙ h)

beyond : (all : List Declared) (n : ℕ) → n < length all → slice_get all n ≡ None → ⊥
beyond [] n h e = omega (arith, h)
beyond (x ∷ all) zero h e = cc
beyond (x ∷ all) (suc n) h e = beyond all n (omega (arith, h)) e

there-declared : (source : Source) (d : ℕ) → d < length source.unit.declared → IsSome (declaration_of (meant source) d)
there-declared source d inside = go (slice_get source.unit.declared d) refl
  where
    go : (found : Option Declared) → slice_get source.unit.declared d ≡ found → IsSome (declaration_of (meant source) d)
    go (Some entry) e = ap is_some (slice_get-map (view_of_declared source.table) source.unit.declared d ∙ ap (option_map (view_of_declared source.table)) e)
    go None e = absurd (beyond source.unit.declared d inside e)

each-fits : (source : Source) (statics : List Static) → All (IsStaticKnown (length source.table.shapes) (length source.unit.declared)) statics → AreWholeStatics (map (view_of_static source.table) statics)
    → All (StaticFits source) statics
each-fits source [] known whole = All-nil (StaticFits source)
each-fits source (one ∷ statics) known whole =
    let P : Static → Type 0 = IsStaticKnown (length source.table.shapes) (length source.unit.declared) in
    let first = All-head P one statics known in
    All-cons (StaticFits source) one statics
    (record { known = first.1; whole = initial-whole source.table one whole.0 one.initial refl; declared = there-declared source one.declared first.0 })
    (each-fits source statics (All-tail P one statics known) whole.1)

nothing : {A : Type 0} (xs : List A) → length xs ≡ 0 → xs ≡ []
nothing [] none = refl
nothing (x ∷ xs) none = absurd (omega (arith, none))

pub gathered-all : (source : Source) (left : List CoreExternal) (gathering : Gathering) → length left ≡ 0 → IsTypedUnit source.table source.unit → AreGathered source.unit left gathering → AreStatics source gathering.statics.items
gathered-all source left gathering none typed h =
    let table = source.table in
    let scene = file_scene table (entries_of table source.unit.declared) in
    let same : map (view_of_static table) gathering.statics.items ≡ (meant source).statics =
    ap (λ them. statics_from (entries_of table source.unit.declared) (all_locals (map (view_of_external table) them)) (seen table gathering)) (sym (nothing left none)) ∙ h.same table in
    let whole = statics-whole (entries_of table source.unit.declared) (all_locals (map (view_of_external table) source.unit.externals)) []
    (all-whole scene (map (view_of_external table) source.unit.externals) typed.typed.externals) tt in
    record {
      same = same;
      fit = each-fits source gathering.statics.items (h.fit (length table.shapes) typed.known_in_trees).1 (subst AreWholeStatics (sym same) whole);
    }
