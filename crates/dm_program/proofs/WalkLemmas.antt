-- What declarators add to the objects of static storage duration, and what trees do.
use Rattle.std.proofs.Common.{◌≡◌, ℕ, ◌<◌, Bool, true, false, ◌&&◌, IsTrue, if◌then◌else◌, is_some, List, [], ◌∷◌, ◌++◌, map, length, take, drop, Option, Some, None, option_map, slice_get, Bor, append_assoc, append-nil, refl, ap, ap₂, sym, subst, ◌∙◌, arith}
use Rattle.std.specs.List.{All, list_all}
use Rattle.std.specs.Option.{IfSome, option_copied}
use Rattle.std.specs.Prelude.{Result, Ok, Err, OnOk}
use Rattle.std.proofs.Math.Seq.{drop-append_seam, take-append_seam}
use Rattle.std.proofs.lemmas.Bool.{and_parts, and_from}
use Rattle.std.proofs.lemmas.Option.{slice_get-map, slice_get_within}
use Rattle.dm_type.specs.Tables.{Table, no_type}
use Rattle.dm_tree.proofs.ListLemmas.{listed-trees}
use Rattle.dm_tree.proofs.ViewLemmas.{view-core, known-form}
use Rattle.dm_tree.specs.declared.tree.Core.{Core, out-Core}
use Rattle.dm_tree.specs.declared.tree.Form.{Form}
use Rattle.dm_tree.specs.declared.tree.Form.TheOpen as layer
use Rattle.dm_tree.specs.declared.tree.Form.TheFolds as folds
use Rattle.dm_tree.specs.declared.tree.Form.TheVariants as form
use Rattle.dm_tree.specs.declared.tree.Initial.{Initial}
use Rattle.dm_tree.specs.declared.tree.Local.{Local, out-Local}
use Rattle.dm_tree.specs.declared.unit.Declared.{Declared}
use Rattle.dm_tree.specs.Trees as label
use Rattle.dm_tree.specs.Trees.{Tree, trees}
use Rattle.dm_tree.specs.TypeNumbers.{all_pass, are_known, are_known_in_form, are_known_in_local, form_known, initial_known, core_known, local_known, passes_if_there}
use Rattle.dm_tree.specs.Units.{Declaration}
use Rattle.dm_tree.specs.Views.{Opened, OpenedInitial, OpenedLocal, opened, opened_form, view, view_of_local, view_of_declared, entries_of, if_there, declarators_of, expressions_of_locals, form_layer, initial_layer, core_layer, local_layer, local_of}
use Rattle.dm_meaning.specs.Programs as programs
use Rattle.dm_meaning.specs.Programs.{declaration_at}
use Rattle.dm_meaning.specs.Statements as statements
use Rattle.dm_meaning.specs.Statements.{with_expressions, expressions_of}
use Rattle.dm_meaning.specs.Units.{is_static, is_static_declaration, is_static_sort, statics_from, with_static, locals_by, locals_in, locals_in_all}
use Rattle.dm_program.specs.declared.gathering.Gathering.{Gathering}
use Rattle.dm_program.specs.Gathering.{as_local, seen, IsStaticKnown, local_from, IsAdded, Gathers, form_locals, locals_in_list}
use Rattle.dm_program.specs.Initials.{view_of_initial, are_known_in_initial}
use Rattle.dm_program.specs.Statics.{static_of}
use Rattle.dm_program.proofs.FormLemmas.{opened-Block, opened-Declare, opened-Full, opened-If, opened-Switch, opened-Case, opened-Default, opened-While, opened-Do, opened-For, opened-Return, known-Block, known-Declare, known-Full, known-If, known-Switch, known-Case, known-Default, known-While, known-Do, known-For, known-Return}
use Rattle.dm_program.proofs.InitialLemmas.{local-counted}

-- ---- one after the other

pub statics-append : (declared : List Declaration) (xs ys : List statements.Local) (statics : List programs.Static) → statics_from declared (xs ++ ys) statics ≡ statics_from declared ys (statics_from declared xs statics)
statics-append declared [] ys statics = refl
statics-append declared (x ∷ xs) ys statics = statics-append declared xs ys (if is_static declared x then with_static x statics else statics)

pub gathers-none : (one : Gathering) (known : ℕ → Bool) → Gathers one known (λ table. []) one
gathers-none one known = record { declared = refl; same = λ table. refl; fit = λ n h all. all }

pub gathers-on : (a b c : Gathering) (first second : ℕ → Bool) (some more : Table → List statements.Local) → Gathers a first some b → Gathers b second more c
    → Gathers a (λ n. first n && second n) (λ table. some table ++ more table) c
gathers-on a b c first second some more f s = record {
  declared = s.declared ∙ f.declared;
  same = λ table.
      s.same table ∙ ap (λ entries. statics_from (entries_of table entries) (more table) (seen table b)) f.declared
      ∙ ap (statics_from (entries_of table a.declared.now) (more table)) (f.same table) ∙ sym (statics-append (entries_of table a.declared.now) (some table) (more table) (seen table a));
  fit = λ n h all.
      let parts = and_parts (first n) (second n) h in
      subst (λ k. All (IsStaticKnown n k) c.statics.items) (ap length f.declared)
      (s.fit n parts.1 (subst (λ k. All (IsStaticKnown n k) b.statics.items) (ap length (sym f.declared)) (f.fit n parts.0 all)));
}

pub gathers-as : (a b : Gathering) (first second : ℕ → Bool) (some more : Table → List statements.Local) → ((n : ℕ) → second n ≡ true → first n ≡ true) → ((table : Table) → some table ≡ more table)
    → Gathers a first some b → Gathers a second more b
gathers-as a b first second some more knows is g = record {
  declared = g.declared;
  same = λ table. g.same table ∙ ap (λ locals. statics_from (entries_of table a.declared.now) locals (seen table a)) (is table);
  fit = λ n h all. g.fit n (knows n h) all;
}

-- ---- a declarator

module _ (table : Table) where
  -- a declarator by its parts
  abbrev local_seen : ℕ → Bool → Option Initial → OpenedLocal
  local_seen declared defines initial = local_of declared defines (option_map (view_of_initial table) initial)

  abbrev local_layer_seen : layer.Local-F Form Initial Core Local → OpenedLocal
  local_layer_seen y = local_layer (folds.map-Local Form Initial Core Local Opened OpenedInitial Tree OpenedLocal (opened_form table) (view_of_initial table) (view table) (view_of_local table) y)

  by-initial : (declared : ℕ) (defines : Bool) (initial : Option Initial) → local_layer_seen (record { declared = declared; defines = defines; initial = initial }) ≡ local_seen declared defines initial
  by-initial declared defines None = refl
  by-initial declared defines (Some initial) = refl

  pub local-seen : (local : Local) → view_of_local table local ≡ local_seen (out-Local local).declared (out-Local local).defines (out-Local local).initial
  local-seen local =
      let here : view_of_local table local ≡ local_layer_seen (out-Local local) = folds.fold_out-Local Opened OpenedInitial Tree OpenedLocal (form_layer table) initial_layer (core_layer table) local_layer local in
      here ∙ by-initial (out-Local local).declared (out-Local local).defines (out-Local local).initial

  defined-by : (declared : ℕ) (defines : Bool) (initial : Option Initial) → (local_seen declared defines initial).declarator.defines ≡ defines
  defined-by declared defines None = refl
  defined-by declared defines (Some initial) = refl

  numbered-by : (declared : ℕ) (defines : Bool) (initial : Option Initial) → (local_seen declared defines initial).declarator.declared ≡ declared
  numbered-by declared defines None = refl
  numbered-by declared defines (Some initial) = refl

  abbrev now_of : Option (Bor Initial) → Option Initial
  now_of initial = option_map (λ (one : Bor Initial). one.now) initial

  from-static : (declared : ℕ) (initial : Option (Bor Initial)) → as_local (local_seen declared true (now_of initial)) ≡ local_from (static_of table declared initial)
  from-static declared None = refl
  from-static declared (Some initial) = refl

  -- what it defines
  pub local-defines : (local : Local) → (view_of_local table local).declarator.defines ≡ (out-Local local).defines
  local-defines local = ap (λ (one : OpenedLocal). one.declarator.defines) (local-seen local) ∙ defined-by (out-Local local).declared (out-Local local).defines (out-Local local).initial

  pub local-number : (local : Local) → (view_of_local table local).declarator.declared ≡ (out-Local local).declared
  local-number local = ap (λ (one : OpenedLocal). one.declarator.declared) (local-seen local) ∙ numbered-by (out-Local local).declared (out-Local local).defines (out-Local local).initial

  pub local-static : (local : Local) (initial : Option (Bor Initial)) → (out-Local local).defines ≡ true → now_of initial ≡ (out-Local local).initial
      → as_local (view_of_local table local) ≡ local_from (static_of table (out-Local local).declared initial)
  local-static local initial defines is =
      ap as_local (local-seen local) ∙ ap (λ b. as_local (local_seen (out-Local local).declared b (out-Local local).initial)) defines
      ∙ ap (λ i. as_local (local_seen (out-Local local).declared true i)) (sym is) ∙ from-static (out-Local local).declared initial

  -- declarators with their expressions, one after another
  pub locals-with : (locals : List Local) → with_expressions (declarators_of (map (view_of_local table) locals)) (expressions_of_locals (map (view_of_local table) locals)) ≡ map as_local (map (view_of_local table) locals)
  locals-with [] = refl
  locals-with (local ∷ locals) =
      let one = view_of_local table local in
      let others = expressions_of_locals (map (view_of_local table) locals) in
      let count = local-counted table local in
      let front : take (expressions_of one.declarator.initialiser) (one.expressions ++ others) ≡ one.expressions = ap (λ n. take n (one.expressions ++ others)) (sym count) ∙ take-append_seam one.expressions others in
      let back : drop (expressions_of one.declarator.initialiser) (one.expressions ++ others) ≡ others = ap (λ n. drop n (one.expressions ++ others)) (sym count) ∙ drop-append_seam one.expressions others in
      ap₂ (λ (expressions : List Tree) (rest : List statements.Local). record { declarator = one.declarator; expressions = expressions } ∷ rest) front
      (ap (with_expressions (declarators_of (map (view_of_local table) locals))) back ∙ locals-with locals)

abbrev known_layer : ℕ → layer.Local-F Form Initial Core Local → Bool
known_layer n y = local_known (folds.map-Local Form Initial Core Local Bool Bool Bool Bool (are_known_in_form n) (are_known_in_initial n) (are_known n) (are_known_in_local n) y)

known-initial : (n : ℕ) (declared : ℕ) (defines : Bool) (initial : Option Initial)
    → known_layer n (record { declared = declared; defines = defines; initial = initial }) ≡ passes_if_there (option_map (are_known_in_initial n) initial)
known-initial n declared defines None = refl
known-initial n declared defines (Some initial) = refl

local-known : (n : ℕ) (local : Local) → are_known_in_local n local ≡ passes_if_there (option_map (are_known_in_initial n) (out-Local local).initial)
local-known n local =
    let here : are_known_in_local n local ≡ known_layer n (out-Local local) = folds.fold_out-Local Bool Bool Bool Bool (form_known n) initial_known (core_known n) local_known local in
    here ∙ known-initial n (out-Local local).declared (out-Local local).defines (out-Local local).initial

known-there : (n : ℕ) (initial : Option (Bor Initial)) → passes_if_there (option_map (are_known_in_initial n) (option_map (λ (one : Bor Initial). one.now) initial)) ≡ true
    → IfSome initial (λ one. IsTrue (are_known_in_initial n one.now))
known-there n None h = tt
known-there n (Some initial) h = h

-- a declarator of an object of static storage duration adds it
pub local-gathers : (a b : Gathering) (local : Local) (initial : Option (Bor Initial)) → option_map (λ (one : Bor Initial). one.now) initial ≡ (out-Local local).initial → (out-Local local).defines ≡ true
    → (out-Local local).declared < length a.declared.now → ((table : Table) → is_static (entries_of table a.declared.now) (as_local (view_of_local table local)) ≡ true)
    → IsAdded a (record { declared = (out-Local local).declared; initial = initial }) b → Gathers a (λ n. are_known_in_local n local) (λ table. as_local (view_of_local table local) ∷ []) b
local-gathers a b local initial is defines inside fixed added = record {
  declared = added.declared;
  same = λ table.
      added.same table ∙ ap (λ one. with_static one (seen table a)) (sym (local-static table local initial defines is))
      ∙ ap (λ test. if test then with_static (as_local (view_of_local table local)) (seen table a) else seen table a) (sym (fixed table));
  fit = λ n h all.
      added.fit n (length a.declared.now)
      (inside, known-there n initial (ap (λ one. passes_if_there (option_map (are_known_in_initial n) one)) is ∙ sym (local-known n local) ∙ h)) all;
}

-- an object of static storage duration is defined, and declared
pub static-facts : (declared : List Declared) (local : Local) → is_static (entries_of no_type declared) (as_local (view_of_local no_type local)) ≡ true
    → ((out-Local local).defines ≡ true) × ((out-Local local).declared < length declared)
static-facts declared local h =
    let one = view_of_local no_type local in
    let both = and_parts one.declarator.defines (is_static_declaration (declaration_at (entries_of no_type declared) one.declarator.declared)) h in
    (sym (local-defines no_type local) ∙ both.0, subst (λ n. n < length declared) (local-number no_type local) (go one.declarator.declared (slice_get declared one.declarator.declared) refl both.1))
  where
    go : (d : ℕ) (found : Option Declared) → slice_get declared d ≡ found → is_static_declaration (declaration_at (entries_of no_type declared) d) ≡ true → d < length declared
    go d None e is = absurd (let f = ap is_static_declaration (slice_get-map (view_of_declared no_type) declared d ∙ ap (option_map (view_of_declared no_type)) e) in let g = sym f ∙ is in cc)
    go d (Some entry) e is = slice_get_within declared d entry e

-- whether one is, by its entry
pub static-some : (table : Table) (declared : List Declared) (local : Local) (entry : Declared) → slice_get declared (out-Local local).declared ≡ Some entry → (out-Local local).defines ≡ true
    → is_static (entries_of table declared) (as_local (view_of_local table local)) ≡ is_static_sort entry.sort
static-some table declared local entry found defines =
    ap₂ (λ b one. b && is_static_declaration one) (local-defines table local ∙ defines)
    (ap (declaration_at (entries_of table declared)) (local-number table local) ∙ slice_get-map (view_of_declared table) declared (out-Local local).declared ∙ ap (option_map (view_of_declared table)) found)

pub static-none : (table : Table) (declared : List Declared) (local : Local) → slice_get declared (out-Local local).declared ≡ None → (out-Local local).defines ≡ true
    → is_static (entries_of table declared) (as_local (view_of_local table local)) ≡ false
static-none table declared local found defines =
    ap₂ (λ b one. b && is_static_declaration one) (local-defines table local ∙ defines)
    (ap (declaration_at (entries_of table declared)) (local-number table local) ∙ slice_get-map (view_of_declared table) declared (out-Local local).declared ∙ ap (option_map (view_of_declared table)) found)

pub copied-now : (initial : Option (Bor Initial)) → option_map (λ (one : Bor Initial). one.now) initial ≡ option_copied initial
copied-now None = refl
copied-now (Some initial) = refl

nothing : {A : Type 0} (xs : List A) → length xs ≡ 0 → xs ≡ []
nothing [] none = refl
nothing (x ∷ xs) none = absurd (omega (arith, none))

-- declarators, one after another
abbrev pub KnownLocals : List Local → ℕ → Bool
KnownLocals locals n = list_all (are_known_in_local n) locals

abbrev pub LocalsOfAll : List Local → Table → List statements.Local
LocalsOfAll locals table = map as_local (map (view_of_local table) locals)

pub locals-more : (a b c : Gathering) (left : List Local) (local : Local) (rest : List Local) → left ≡ local ∷ rest
    → Gathers a (λ n. are_known_in_local n local) (λ table. as_local (view_of_local table local) ∷ []) b → Gathers b (KnownLocals rest) (LocalsOfAll rest) c → Gathers a (KnownLocals left) (LocalsOfAll left) c
locals-more a b c left local rest is first others =
    subst (λ them. Gathers a (KnownLocals them) (LocalsOfAll them) c) (sym is)
    (gathers-on a b c (λ n. are_known_in_local n local) (KnownLocals rest) (λ table. as_local (view_of_local table local) ∷ []) (LocalsOfAll rest) first others)

pub locals-none : (a : Gathering) (left : List Local) → length left ≡ 0 → Gathers a (KnownLocals left) (LocalsOfAll left) a
locals-none a left none = subst (λ them. Gathers a (KnownLocals them) (LocalsOfAll them) a) (sym (nothing left none)) (gathers-none a (KnownLocals []))

-- ---- trees

abbrev pub KnownForm : Form → ℕ → Bool
KnownForm one n = are_known_in_form n one

abbrev pub LocalsOf : Form → Table → List statements.Local
LocalsOf one table = form_locals (opened_form table one)

abbrev pub KnownTree : Core → ℕ → Bool
KnownTree core n = are_known n core

abbrev pub LocalsIn : Core → Table → List statements.Local
LocalsIn core table = locals_in (view table core)

abbrev pub KnownOption : Option Core → ℕ → Bool
KnownOption core n = passes_if_there (option_map (are_known n) core)

abbrev pub LocalsInOption : Option Core → Table → List statements.Local
LocalsInOption core table = locals_in_list (if_there (option_map (view table) core))

abbrev pub KnownTrees : List Core → ℕ → Bool
KnownTrees cores n = all_pass (map (are_known n) cores)

abbrev pub LocalsInTrees : List Core → Table → List statements.Local
LocalsInTrees cores table = locals_in_list (map (view table) cores)

in-append : (xs ys : List Tree) → locals_in_all (trees (xs ++ ys)) ≡ locals_in_all (trees xs) ++ locals_in_all (trees ys)
in-append [] ys = refl
in-append (x ∷ xs) ys = ap (λ rest. locals_in x ++ rest) (in-append xs ys) ∙ sym (append_assoc (locals_in x) (locals_in_all (trees xs)) (locals_in_all (trees ys)))

-- a tree has what its form has
pub tree-gathers : (a b : Gathering) (core : Core) → Gathers a (KnownForm (out-Core core).form) (LocalsOf (out-Core core).form) b → Gathers a (KnownTree core) (LocalsIn core) b
tree-gathers a b core g =
    gathers-as a b (KnownForm (out-Core core).form) (KnownTree core) (LocalsOf (out-Core core).form) (LocalsIn core) (λ n h. known-form n core h) (λ table. ap locals_in (sym (view-core table core))) g

-- trees, one after another
pub trees-more : (a b c : Gathering) (left : List Core) (tree : Core) (rest : List Core) → left ≡ tree ∷ rest → Gathers a (KnownTree tree) (LocalsIn tree) b → Gathers b (KnownTrees rest) (LocalsInTrees rest) c
    → Gathers a (KnownTrees left) (LocalsInTrees left) c
trees-more a b c left tree rest is first others =
    subst (λ them. Gathers a (KnownTrees them) (LocalsInTrees them) c) (sym is) (gathers-on a b c (KnownTree tree) (KnownTrees rest) (LocalsIn tree) (LocalsInTrees rest) first others)

pub trees-none : (a : Gathering) (left : List Core) → length left ≡ 0 → Gathers a (KnownTrees left) (LocalsInTrees left) a
trees-none a left none = subst (λ them. Gathers a (KnownTrees them) (LocalsInTrees them) a) (sym (nothing left none)) (gathers-none a (KnownTrees []))

-- what a form has, by what is opened
module _ (a b : Gathering) (one : Form) (known : ℕ → Bool) (locals : Table → List statements.Local) (g : Gathers a known locals b) where
  form-as : (Form_known : ℕ → Bool) (Form_opened : Table → Opened) (other : Form) → one ≡ other → ((n : ℕ) → are_known_in_form n other ≡ Form_known n) → ((table : Table) → opened_form table other ≡ Form_opened table)
      → ((n : ℕ) → Form_known n ≡ true → known n ≡ true) → ((table : Table) → locals table ≡ form_locals (Form_opened table)) → Gathers a (KnownForm one) (LocalsOf one) b
  form-as Form_known Form_opened other is knows opens from same =
      gathers-as a b known (KnownForm one) locals (LocalsOf one) (λ n h. from n (sym (knows n) ∙ ap (are_known_in_form n) (sym is) ∙ h))
      (λ table. same table ∙ ap form_locals (sym (opens table) ∙ ap (opened_form table) (sym is))) g

pub block-gathers : (a b : Gathering) (one : Form) (items : List Core) → one ≡ form.Block items → Gathers a (KnownTrees items) (LocalsInTrees items) b → Gathers a (KnownForm one) (LocalsOf one) b
block-gathers a b one items is g =
    form-as a b one (KnownTrees items) (LocalsInTrees items) g (KnownTrees items) (λ table. opened label.block (map (view table) items)) (form.Block items) is (λ n. known-Block n items) (λ table. opened-Block table items)
    (λ n h. h) (λ table. refl)

pub declare-gathers : (a b : Gathering) (one : Form) (lengths : List Core) (locals : List Local) → one ≡ form.Declare lengths locals
    → Gathers a (λ n. list_all (are_known_in_local n) locals) (λ table. map as_local (map (view_of_local table) locals)) b → Gathers a (KnownForm one) (LocalsOf one) b
declare-gathers a b one lengths locals is g =
    form-as a b one (λ n. list_all (are_known_in_local n) locals) (λ table. map as_local (map (view_of_local table) locals)) g (λ n. all_pass (map (are_known n) lengths) && all_pass (map (are_known_in_local n) locals))
    (λ table. opened (label.declare (length (map (view table) lengths)) (declarators_of (map (view_of_local table) locals))) (map (view table) lengths ++ expressions_of_locals (map (view_of_local table) locals)))
    (form.Declare lengths locals) is (λ n. known-Declare n lengths locals) (λ table. opened-Declare table lengths locals)
    (λ n h. each n locals (and_parts (all_pass (map (are_known n) lengths)) (all_pass (map (are_known_in_local n) locals)) h).1)
    (λ table.
    let before = map (view table) lengths in
    let behind = expressions_of_locals (map (view_of_local table) locals) in
    let declarators = declarators_of (map (view_of_local table) locals) in
    sym (locals-with table locals) ∙ ap (with_expressions declarators) (sym (drop-append_seam before behind))
    ∙ ap (λ all. with_expressions declarators (drop (length before) all)) (sym (listed-trees (before ++ behind))))
  where
    each : (n : ℕ) (all : List Local) → all_pass (map (are_known_in_local n) all) ≡ true → list_all (are_known_in_local n) all ≡ true
    each n [] h = refl
    each n (local ∷ all) h =
        let both = and_parts (are_known_in_local n local) (all_pass (map (are_known_in_local n) all)) h in
        and_from (are_known_in_local n local) (list_all (are_known_in_local n) all) both.0 (each n all both.1)

-- one part, and two
single-gathers : (a b : Gathering) (one other : Form) (x : Core) (form_label : label.Label) → one ≡ other → ((n : ℕ) → are_known_in_form n other ≡ are_known n x) → ((table : Table) → opened_form table other ≡ opened form_label (view table x ∷ []))
    → ((ts : List Tree) (below : List statements.Local) → locals_by form_label ts below ≡ below) → Gathers a (KnownTree x) (LocalsIn x) b → Gathers a (KnownForm one) (LocalsOf one) b
single-gathers a b one other x form_label is knows opens below g =
    form-as a b one (KnownTree x) (LocalsIn x) g (KnownTree x) (λ table. opened form_label (view table x ∷ [])) other is knows opens (λ n h. h)
    (λ table. sym (append-nil (locals_in (view table x))) ∙ sym (below (view table x ∷ []) (locals_in (view table x) ++ [])))

double-gathers : (a b c : Gathering) (one other : Form) (x y : Core) (form_label : label.Label) → one ≡ other → ((n : ℕ) → are_known_in_form n other ≡ (are_known n x && are_known n y))
    → ((table : Table) → opened_form table other ≡ opened form_label (view table x ∷ view table y ∷ [])) → ((ts : List Tree) (below : List statements.Local) → locals_by form_label ts below ≡ below)
    → Gathers a (KnownTree x) (LocalsIn x) b → Gathers b (KnownTree y) (LocalsIn y) c → Gathers a (KnownForm one) (LocalsOf one) c
double-gathers a b c one other x y form_label is knows opens below f s =
    form-as a c one (λ n. are_known n x && are_known n y) (λ table. LocalsIn x table ++ LocalsIn y table) (gathers-on a b c (KnownTree x) (KnownTree y) (LocalsIn x) (LocalsIn y) f s)
    (λ n. are_known n x && are_known n y) (λ table. opened form_label (view table x ∷ view table y ∷ [])) other is knows opens (λ n h. h)
    (λ table. ap (λ rest. locals_in (view table x) ++ rest) (sym (append-nil (locals_in (view table y)))) ∙ sym (below (view table x ∷ view table y ∷ []) (locals_in (view table x) ++ (locals_in (view table y) ++ []))))

pub full-gathers : (a b : Gathering) (one : Form) (x : Core) → one ≡ form.Full x → Gathers a (KnownTree x) (LocalsIn x) b → Gathers a (KnownForm one) (LocalsOf one) b
full-gathers a b one x is g = single-gathers a b one (form.Full x) x label.full is (λ n. known-Full n x) (λ table. opened-Full table x) (λ ts below. refl) g

pub default-gathers : (a b : Gathering) (one : Form) (x : Core) → one ≡ form.Default x → Gathers a (KnownTree x) (LocalsIn x) b → Gathers a (KnownForm one) (LocalsOf one) b
default-gathers a b one x is g = single-gathers a b one (form.Default x) x label.default is (λ n. known-Default n x) (λ table. opened-Default table x) (λ ts below. refl) g

pub case-gathers : (a b c : Gathering) (one : Form) (x y : Core) → one ≡ form.Case x y → Gathers a (KnownTree x) (LocalsIn x) b → Gathers b (KnownTree y) (LocalsIn y) c → Gathers a (KnownForm one) (LocalsOf one) c
case-gathers a b c one x y is f s = double-gathers a b c one (form.Case x y) x y label.case is (λ n. known-Case n x y) (λ table. opened-Case table x y) (λ ts below. refl) f s

pub while-gathers : (a b c : Gathering) (one : Form) (x y : Core) → one ≡ form.While x y → Gathers a (KnownTree x) (LocalsIn x) b → Gathers b (KnownTree y) (LocalsIn y) c → Gathers a (KnownForm one) (LocalsOf one) c
while-gathers a b c one x y is f s = double-gathers a b c one (form.While x y) x y label.while_loop is (λ n. known-While n x y) (λ table. opened-While table x y) (λ ts below. refl) f s

pub do-gathers : (a b c : Gathering) (one : Form) (x y : Core) → one ≡ form.Do x y → Gathers a (KnownTree x) (LocalsIn x) b → Gathers b (KnownTree y) (LocalsIn y) c → Gathers a (KnownForm one) (LocalsOf one) c
do-gathers a b c one x y is f s = double-gathers a b c one (form.Do x y) x y label.do_loop is (λ n. known-Do n x y) (λ table. opened-Do table x y) (λ ts below. refl) f s

pub switch-gathers : (a b c : Gathering) (one : Form) (x : Core) (items : List Core) → one ≡ form.Switch x items → Gathers a (KnownTree x) (LocalsIn x) b → Gathers b (KnownTrees items) (LocalsInTrees items) c
    → Gathers a (KnownForm one) (LocalsOf one) c
switch-gathers a b c one x items is f s =
    form-as a c one (λ n. are_known n x && KnownTrees items n) (λ table. LocalsIn x table ++ LocalsInTrees items table) (gathers-on a b c (KnownTree x) (KnownTrees items) (LocalsIn x) (LocalsInTrees items) f s)
    (λ n. are_known n x && KnownTrees items n) (λ table. opened label.switch (view table x ∷ map (view table) items)) (form.Switch x items) is (λ n. known-Switch n x items) (λ table. opened-Switch table x items)
    (λ n h. h) (λ table. refl)

pub if-gathers : (a b c d : Gathering) (one : Form) (x y : Core) (z : Option Core) → one ≡ form.If x y z → Gathers a (KnownTree x) (LocalsIn x) b → Gathers b (KnownTree y) (LocalsIn y) c
    → Gathers c (KnownOption z) (LocalsInOption z) d → Gathers a (KnownForm one) (LocalsOf one) d
if-gathers a b c d one x y z is f s t =
    form-as a d one (λ n. are_known n x && (are_known n y && KnownOption z n)) (λ table. LocalsIn x table ++ (LocalsIn y table ++ LocalsInOption z table))
    (gathers-on a b d (KnownTree x) (λ n. are_known n y && KnownOption z n) (LocalsIn x) (λ table. LocalsIn y table ++ LocalsInOption z table) f
    (gathers-on b c d (KnownTree y) (KnownOption z) (LocalsIn y) (LocalsInOption z) s t))
    (λ n. are_known n x && (are_known n y && KnownOption z n)) (λ table. opened label.if_statement (view table x ∷ view table y ∷ if_there (option_map (view table) z))) (form.If x y z) is (λ n. known-If n x y z)
    (λ table. opened-If table x y z) (λ n h. h) (λ table. refl)

pub for-gathers : (a b c d e : Gathering) (one : Form) (x y z : Option Core) (body : Core) → one ≡ form.For x y z body → Gathers a (KnownOption x) (LocalsInOption x) b → Gathers b (KnownOption y) (LocalsInOption y) c
    → Gathers c (KnownOption z) (LocalsInOption z) d → Gathers d (KnownTree body) (LocalsIn body) e → Gathers a (KnownForm one) (LocalsOf one) e
for-gathers a b c d e one x y z body is f s t u =
    form-as a e one (λ n. KnownOption x n && (KnownOption y n && (KnownOption z n && are_known n body))) (λ table. LocalsInOption x table ++ (LocalsInOption y table ++ (LocalsInOption z table ++ LocalsIn body table)))
    (gathers-on a b e (KnownOption x) (λ n. KnownOption y n && (KnownOption z n && are_known n body)) (LocalsInOption x) (λ table. LocalsInOption y table ++ (LocalsInOption z table ++ LocalsIn body table)) f
    (gathers-on b c e (KnownOption y) (λ n. KnownOption z n && are_known n body) (LocalsInOption y) (λ table. LocalsInOption z table ++ LocalsIn body table) s
    (gathers-on c d e (KnownOption z) (KnownTree body) (LocalsInOption z) (LocalsIn body) t u)))
    (λ n. KnownOption x n && (KnownOption y n && (KnownOption z n && are_known n body)))
    (λ table. opened (label.for_loop (is_some (option_map (view table) x)) (is_some (option_map (view table) y)) (is_some (option_map (view table) z)))
    (if_there (option_map (view table) x) ++ (if_there (option_map (view table) y) ++ (if_there (option_map (view table) z) ++ view table body ∷ []))))
    (form.For x y z body) is (λ n. known-For n x y z body) (λ table. opened-For table x y z body) (λ n h. h)
    (λ table.
    let first = if_there (option_map (view table) x) in
    let second = if_there (option_map (view table) y) in
    let third = if_there (option_map (view table) z) in
    let last = view table body ∷ [] in
    sym (in-append first (second ++ (third ++ last))
    ∙ ap (λ rest. locals_in_list first ++ rest) (in-append second (third ++ last) ∙ ap (λ rest. locals_in_list second ++ rest) (in-append third last ∙ ap (λ rest. locals_in_list third ++ rest) (append-nil (locals_in (view table body)))))))

pub return-gathers : (a b : Gathering) (one : Form) (x : Option Core) → one ≡ form.Return x → Gathers a (KnownOption x) (LocalsInOption x) b → Gathers a (KnownForm one) (LocalsOf one) b
return-gathers a b one x is g =
    form-as a b one (KnownOption x) (LocalsInOption x) g (KnownOption x) (λ table. opened label.return (if_there (option_map (view table) x))) (form.Return x) is (λ n. known-Return n x) (λ table. opened-Return table x)
    (λ n h. h) (λ table. refl)

-- a tree that may be absent
pub some-gathers : (a b : Gathering) (one : Option Core) (x : Core) → one ≡ Some x → Gathers a (KnownTree x) (LocalsIn x) b → Gathers a (KnownOption one) (LocalsInOption one) b
some-gathers a b one x is g =
    gathers-as a b (KnownTree x) (KnownOption one) (LocalsIn x) (LocalsInOption one) (λ n h. ap (λ o. KnownOption o n) (sym is) ∙ h)
    (λ table. sym (append-nil (locals_in (view table x))) ∙ ap (λ o. LocalsInOption o table) (sym is)) g

-- ---- what is so where a call succeeds

pub on-ok : {A E : Type 0} (result : Result A E) (P Q : Type 0) → (P → Q) → OnOk result P → OnOk result Q
on-ok (Ok it) P Q h p = h p
on-ok (Err fault) P Q h p = tt

pub at-tree : (a b : Gathering) (x y : Core) → y ≡ x → Gathers a (KnownTree y) (LocalsIn y) b → Gathers a (KnownTree x) (LocalsIn x) b
at-tree a b x y is g = subst (λ (core : Core). Gathers a (KnownTree core) (LocalsIn core) b) is g

pub at-trees : (a b : Gathering) (xs ys : List Core) → ys ≡ xs → Gathers a (KnownTrees ys) (LocalsInTrees ys) b → Gathers a (KnownTrees xs) (LocalsInTrees xs) b
at-trees a b xs ys is g = subst (λ (cores : List Core). Gathers a (KnownTrees cores) (LocalsInTrees cores) b) is g

pub at-locals : (a b : Gathering) (xs ys : List Local) → ys ≡ xs → Gathers a (KnownLocals ys) (LocalsOfAll ys) b → Gathers a (KnownLocals xs) (LocalsOfAll xs) b
at-locals a b xs ys is g = subst (λ (locals : List Local). Gathers a (KnownLocals locals) (LocalsOfAll locals) b) is g
