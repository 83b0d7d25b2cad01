-- What each reading of a unit, a folder or a define gives.
use Rattle.std.proofs.Common.{◌≡◌, ℕ, ◌<◌, ◌≤◌, Bool, true, false, ◌&&◌, ◌||◌, not, List, [], ◌∷◌, ◌++◌, length, Some, None, Result, Ok, Err, cond, codes, refl, sym, ap, ◌∙◌, arith, subst, bytes_eq, true≢false}
use Rattle.std.specs.Prelude.{nat_lt, if◌then◌else◌}
use Rattle.std.specs.Bool.{OnTrue}
use Rattle.std.specs.List.{list_any}
use Rattle.std.specs.Result.{IsErrAnd, IfOk, IfErr}
use Rattle.std.proofs.lemmas.Bool.{le-ltb}
use Rattle.std.proofs.lemmas.Slice.Eq.{bytes_eq-Decides}
use Rattle.serde_json.specs.Data.{Data, Items}
use Rattle.serde_json.specs.Find.{get}
use Rattle.serde_json.specs.View.{view, items_view}
use Rattle.serde_json.specs.declared.value.Value.{Value}
use Rattle.dm_token.specs.Limits.{most_units}
use Rattle.dm_token.specs.declared.unit.Unit.{Unit as Source}
use Rattle.dm_manifest.specs.declared.fault.ManifestFault.{ManifestFault}
use Rattle.dm_manifest.specs.declared.fault.ManifestFault.TheVariants.{Memory, Json, Shape, Name, Define, Twice, TooMany}
use Rattle.dm_manifest.specs.Faults.{and_then, IsMeant, Gives}
use Rattle.dm_manifest.specs.Paths.{root_path, unit_path, item_path}
use Rattle.dm_manifest.specs.Values.{object_at, array_at, text_at, name_at, each_of}
use Rattle.dm_macro.specs.Signs.{is_fixed}
use Rattle.dm_manifest.specs.Defines.{name_of, is_define}
use Rattle.dm_manifest.specs.Units.{is_folder, folder_at, is_defined, define_at, unit_at, is_same_unit, new_unit_at, units_of, manifest_of}
use Rattle.dm_manifest.specs.Answers.{IsJson, IsManifest, IsFirstFault}
use Rattle.dm_manifest.proofs.Each.{IsMeant-and_then, IsMeant-along, items_len-items_view}

-- an error that is passed on as it is
pub passed_on : {A B : Type 0} (view : A → B) (result : Result A ManifestFault) (fault : ManifestFault) (meant : Result B ManifestFault) → IsErrAnd result (λ e. e ≡ fault) → IsMeant fault meant → Gives view result meant
passed_on view (Ok x) fault meant is h = absurd is
passed_on view (Err e) fault meant is h = subst (λ (f : ManifestFault). IsMeant f meant) (sym is) h

-- what is given is given along an equation
pub Gives-along : {A B : Type 0} (view : A → B) (result : Result A ManifestFault) (meant same : Result B ManifestFault) → same ≡ meant → Gives view result meant → Gives view result same
Gives-along {A} {B} view result meant same e is = subst (λ (r : Result B ManifestFault). Gives view result r) (sym e) is

-- ---- folders

pub folder_at-name : (path : List ℕ) (before : List (List ℕ)) (value : Data) (item : ℕ) → item ≡ length before → folder_at path before value ≡ name_at is_folder (item_path path item) (Some value)
unfolding folder_at
folder_at-name path before value item e = ap (λ n. name_at is_folder (item_path path n) (Some value)) (sym e)

-- ---- defines

-- what comes of the text of a define
abbrev pub define_from : List ℕ → Bool → List ℕ → Result (List ℕ) ManifestFault
define_from path may define = if may then Ok define else Err (Define path)

-- whether it may stand behind others
abbrev pub may_be_next : List (List ℕ) → List ℕ → Bool
may_be_next before define = is_define define && not (is_fixed (name_of define)) && not (is_defined before (name_of define))

pub define_at-text : (path : List ℕ) (before : List (List ℕ)) (value : Data) (item : ℕ) → item ≡ length before →
    define_at path before value ≡ and_then (text_at (item_path path item) (Some value)) (λ define. define_from (item_path path item) (may_be_next before define) define)
unfolding define_at
define_at-text path before value item e =
    ap (λ n. and_then (text_at (item_path path n) (Some value)) (λ define. define_from (item_path path n) (may_be_next before define) define)) (sym e)

pub define_at-fault : (path : List ℕ) (before : List (List ℕ)) (value : Data) (item : ℕ) (fault : ManifestFault) → item ≡ length before → IsMeant fault (text_at (item_path path item) (Some value)) → IsMeant fault (define_at path before value)
define_at-fault path before value item fault e is =
    IsMeant-along fault _ _ (define_at-text path before value item e) (IsMeant-and_then fault (text_at (item_path path item) (Some value)) _ is)

pub define_at-some : (path : List ℕ) (before : List (List ℕ)) (value : Data) (item : ℕ) (define : List ℕ) (may : Bool) → item ≡ length before → text_at (item_path path item) (Some value) ≡ Ok define →
    may ≡ may_be_next before define → define_at path before value ≡ define_from (item_path path item) may define
define_at-some path before value item define may e is same =
    define_at-text path before value item e
    ∙ ap (λ r. and_then r (λ text. define_from (item_path path item) (may_be_next before text) text)) is
    ∙ ap (λ b. define_from (item_path path item) b define) (sym same)

or_false : (b c : Bool) → (b || (c || false)) ≡ (b || c)
or_false true c = refl
or_false false true = refl
or_false false false = refl

or_assoc : (a b c : Bool) → (a || (b || c)) ≡ ((a || b) || c)
or_assoc true b c = refl
or_assoc false b c = refl

-- the names behind one more define
pub is_defined-append : (before : List (List ℕ)) (define name : List ℕ) → is_defined (before ++ define ∷ []) name ≡ (is_defined before name || bytes_eq name (name_of define))
unfolding is_defined
is_defined-append [] define name = or_false false (bytes_eq name (name_of define))
is_defined-append (first ∷ before) define name =
    ap (λ b. bytes_eq name (name_of first) || b) (is_defined-append before define name) ∙ or_assoc (bytes_eq name (name_of first)) (is_defined before name) (bytes_eq name (name_of define))

-- ---- the name of a define

by_form : (has : Bool) (found name : List ℕ) → Some found ≡ (if has then Some name else None) → (has ≡ true) × (found ≡ name)
by_form true found name e = (refl, cc)
by_form false found name e = absurd (cc)

pub name_found : (define found : List ℕ) → Some found ≡ (if is_define define then Some (name_of define) else None) → (is_define define ≡ true) × (found ≡ name_of define)
name_found define found e = by_form (is_define define) found (name_of define) e

-- a fixed name can't be defined
pub not_fixed : (has : Bool) (fixed : List ℕ → Bool) (held : Bool) (found name : List ℕ) → has ≡ true → found ≡ name → fixed found ≡ true → false ≡ (has && not (fixed name) && not held)
not_fixed has fixed held found name is same yes_fixed =
    let e : fixed name ≡ true = sym (ap fixed same) ∙ yes_fixed in sym (ap (λ b. b && not (fixed name) && not held) is ∙ ap (λ b. not b && not held) e)

-- a name that is neither can be where it is new
pub may_define : (has : Bool) (fixed held : List ℕ → Bool) (found name : List ℕ) (added : Bool) → has ≡ true → found ≡ name → fixed found ≡ false → added ≡ not (held found) → added ≡ (has && not (fixed name) && not (held name))
may_define has fixed held found name added is same free new =
    let e : fixed name ≡ false = sym (ap fixed same) ∙ free in
    new ∙ ap (λ n. not (held n)) same ∙ sym (ap (λ b. b && not (fixed name) && not (held name)) is ∙ ap (λ b. not b && not (held name)) e)

-- bytes are equal both ways
both_equal : (xs ys : List ℕ) (a b : Bool) → bytes_eq xs ys ≡ a → bytes_eq ys xs ≡ b → a ≡ b
both_equal xs ys true true e f = refl
both_equal xs ys false false e f = refl
both_equal xs ys true false e f = absurd (true≢false (sym ((bytes_eq-Decides ys xs).1 (sym ((bytes_eq-Decides xs ys).0 e))) ∙ f))
both_equal xs ys false true e f = absurd (true≢false (sym ((bytes_eq-Decides xs ys).1 (sym ((bytes_eq-Decides ys xs).0 f))) ∙ e))

pub bytes_eq_comm : (xs ys : List ℕ) → bytes_eq xs ys ≡ bytes_eq ys xs
bytes_eq_comm xs ys = both_equal xs ys _ _ refl refl

cond_or : (b c : Bool) → cond b true c ≡ (c || b)
cond_or true true = refl
cond_or true false = refl
cond_or false true = refl
cond_or false false = refl

-- what is held once a name is added
pub held_behind : (found name q : List ℕ) (now held : Bool) → found ≡ name → now ≡ cond (bytes_eq found q) true held → now ≡ (held || bytes_eq q name)
held_behind found name q now held same e =
    e ∙ cond_or (bytes_eq found q) held ∙ ap (λ b. held || b) (bytes_eq_comm found q ∙ ap (bytes_eq q) same)

pub OnTrue-any : (b : Bool) (P : Type 0) → P → OnTrue b P
OnTrue-any true P p = p
OnTrue-any false P p = tt

pub OnTrue-gives : (b : Bool) (P : Type 0) → b ≡ true → OnTrue b P → P
OnTrue-gives true P e p = p
OnTrue-gives false P e p = absurd (true≢false (sym e))

-- ---- units

pub new_unit_at-by : (before : List Source) (value : Data) (unit : Source) (same : Bool) → unit_at (unit_path (length before)) value ≡ Ok unit → list_any (λ other. is_same_unit other unit) before ≡ same →
    new_unit_at before value ≡ (if same then Err (Twice (unit_path (length before))) else Ok unit)
unfolding new_unit_at
new_unit_at-by before value unit same e is =
    ap (λ r. and_then r (λ u. if list_any (λ other. is_same_unit other u) before then Err (Twice (unit_path (length before))) else Ok u)) e
    ∙ ap (λ b. if b then Err (Twice (unit_path (length before))) else Ok unit) is

-- ---- the whole value

lt-test : (a b : ℕ) → a < b → nat_lt a b ≡ true
lt-test a b h = grind arith

pub units_of-few : (values : List Value) → length values ≤ most_units → units_of (items_view values) ≡ each_of new_unit_at [] (items_view values)
unfolding units_of
units_of-few values few =
    ap (λ b. if b then Err TooMany else each_of new_unit_at [] (items_view values)) (ap (λ n. nat_lt most_units n) (items_len-items_view values) ∙ le-ltb most_units (length values) few)

pub units_of-many : (values : List Value) → most_units < length values → units_of (items_view values) ≡ Err TooMany
unfolding units_of
units_of-many values many =
    ap (λ b. if b then Err TooMany else each_of new_unit_at [] (items_view values)) (ap (λ n. nat_lt most_units n) (items_len-items_view values) ∙ lt-test most_units (length values) many)

pub manifest_of-units : (root : Data) (n : ℕ) (values : Items) → object_at root_path (λ key. key) (codes "units" ∷ []) root ≡ Ok n → array_at (codes "units") (get (codes "units") root) ≡ Ok values → manifest_of root ≡ units_of values
unfolding manifest_of
manifest_of-units root n values first second =
    ap (λ r. and_then r (λ _. and_then (array_at (codes "units") (get (codes "units") root)) units_of)) first ∙ ap (λ r. and_then r units_of) second

-- what comes of bytes whose value is read
pub first_fault : (bytes : List ℕ) (root : Data) (fault : ManifestFault) → IsJson bytes root → IsMeant fault (manifest_of root) → IsFirstFault bytes fault
first_fault bytes root Memory json meant = tt
first_fault bytes root Json json meant = absurd meant
first_fault bytes root (Shape path) json meant = (root, json, meant)
first_fault bytes root (Name path) json meant = (root, json, meant)
first_fault bytes root (Define path) json meant = (root, json, meant)
first_fault bytes root (Twice path) json meant = (root, json, meant)
first_fault bytes root TooMany json meant = (root, json, meant)

pub answer_units : (bytes : List ℕ) (root : Data) (answer : Result (List Source) ManifestFault) → IsJson bytes root → Gives (λ units. units) answer (manifest_of root) → IfOk answer (IsManifest bytes)
answer_units bytes root (Ok units) json gives = (root, json, gives)
answer_units bytes root (Err fault) json gives = tt

pub answer_fault : (bytes : List ℕ) (root : Data) (answer : Result (List Source) ManifestFault) → IsJson bytes root → Gives (λ units. units) answer (manifest_of root) → IfErr answer (IsFirstFault bytes)
answer_fault bytes root (Ok units) json gives = tt
answer_fault bytes root (Err fault) json gives = first_fault bytes root fault json gives
