-- What holds of the units of a manifest.
use Rattle.std.proofs.Common.{◌≡◌, ℕ, zero, suc, ◌+◌, ◌≤◌, Bool, true, false, ◌&&◌, ◌||◌, not, List, [], ◌∷◌, ◌++◌, length, Option, Some, Result, Ok, Err, codes, refl, sym, ap, ◌∙◌, arith, add-zero, length-append, subst, bytes_eq, true≢false}
use Rattle.std.specs.Prelude.{nat_lt, if◌then◌else◌, All}
use Rattle.std.specs.List.{list_any, list_all}
use Rattle.std.specs.Result.{IfOk}
use Rattle.std.proofs.lemmas.Bool.{ltb-false}
use Rattle.std.proofs.lemmas.List.Elements.{All-append}
use Rattle.serde_json.specs.Data.{Data, Items, no_items, item}
use Rattle.serde_json.specs.Find.{get}
use Rattle.serde_json.specs.Events.{items_len}
use Rattle.dm_token.specs.Limits.{most_units}
use Rattle.dm_token.specs.declared.unit.Unit.{Unit as Source}
use Rattle.dm_token.specs.Names.{is_normal_name}
use Rattle.dm_manifest.specs.declared.fault.ManifestFault.{ManifestFault}
use Rattle.dm_manifest.specs.declared.fault.ManifestFault.TheVariants.{Name, Define, Twice, TooMany}
use Rattle.dm_manifest.specs.Faults.{and_then, Gives}
use Rattle.dm_manifest.specs.Paths.{root_path, unit_path, under, item_path}
use Rattle.dm_manifest.specs.Values.{object_at, array_at, list_at, text_at, name_at, each_of}
use Rattle.dm_macro.specs.Signs.{is_fixed}
use Rattle.dm_manifest.specs.Defines.{name_of, is_define}
use Rattle.dm_manifest.specs.Units.{is_folder, folder_at, is_defined, define_at, unit_at, is_same_unit, new_unit_at, units_of, manifest_of, is_definable, are_distinct, IsLawful}
use Rattle.dm_manifest.proofs.Steps.{bytes_eq_comm, is_defined-append}

-- ---- answers without a fault

and_then-ok : {A B : Type 0} (first : Result A ManifestFault) (next : A → Result B ManifestFault) (y : B) → and_then first next ≡ Ok y → (x : A) × (first ≡ Ok x) × (next x ≡ Ok y)
and_then-ok (Ok x) next y e = (x, refl, e)
and_then-ok (Err fault) next y e = absurd (cc)

-- an answer
abbrev ok : {A : Type 0} → A → Result A ManifestFault
ok x = Ok x

same_ok : {A : Type 0} (x y : A) → ok x ≡ ok y → x ≡ y
same_ok x y e = cc

passed-ok : {A : Type 0} (passed : Bool) (x y : A) (fault : ManifestFault) → (if passed then Ok x else Err fault) ≡ Ok y → (passed ≡ true) × (x ≡ y)
passed-ok true x y fault e = (refl, same_ok x y e)
passed-ok false x y fault e = absurd (cc)

refused-ok : {A : Type 0} (refused : Bool) (x y : A) (fault : ManifestFault) → (if refused then Err fault else Ok x) ≡ Ok y → (refused ≡ false) × (x ≡ y)
refused-ok true x y fault e = absurd (cc)
refused-ok false x y fault e = (refl, same_ok x y e)

few_ok : {A : Type 0} (many : Bool) (read : Result A ManifestFault) (y : A) → (if many then Err TooMany else read) ≡ Ok y → (many ≡ false) × (read ≡ Ok y)
few_ok true read y e = absurd (cc)
few_ok false read y e = (refl, e)

-- what each reading keeps holds of all that is read
each_of-keeps : {A : Type 0} (P : List A → Type 0) (read : List A → Data → Result A ManifestFault) → ((before : List A) (value : Data) (x : A) → P before → read before value ≡ Ok x → P (before ++ x ∷ [])) →
    (before : List A) (values : Items) (all : List A) → P before → each_of read before values ≡ Ok all → P all
unfolding each_of
each_of-keeps {A} P read step before no_items all p e = subst P (same_ok before all e) p
each_of-keeps {A} P read step before (item value values) all p e =
    let first : (x : A) × (read before value ≡ Ok x) × (each_of read (before ++ x ∷ []) values ≡ Ok all) = and_then-ok (read before value) (λ x. each_of read (before ++ x ∷ []) values) all e in
    each_of-keeps P read step (before ++ first.0 ∷ []) values all (step before value first.0 p first.1) first.2

-- ---- tests

both : (a b : Bool) → (a && b) ≡ true → (a ≡ true) × (b ≡ true)
both true b e = (refl, e)
both false b e = absurd (true≢false (sym e))

neither : (a b : Bool) → (a || b) ≡ false → (a ≡ false) × (b ≡ false)
neither true b e = absurd (true≢false e)
neither false b e = (refl, e)

denied : (a : Bool) → not a ≡ true → a ≡ false
denied true e = absurd (true≢false (sym e))
denied false e = refl

all_and : (a b : Bool) → a ≡ true → b ≡ true → (a && b) ≡ true
all_and a b e f = ap (λ x. x && b) e ∙ f

list_all-one_more : (test : List ℕ → Bool) (before : List (List ℕ)) (x : List ℕ) → list_all test before ≡ true → test x ≡ true → list_all test (before ++ x ∷ []) ≡ true
list_all-one_more test [] x all is = ap (λ b. b && true) is
list_all-one_more test (y ∷ before) x all is =
    let parts : (test y ≡ true) × (list_all test before ≡ true) = both (test y) (list_all test before) all in
    all_and (test y) (list_all test (before ++ x ∷ [])) parts.0 (list_all-one_more test before x parts.1 is)

-- ---- names, folders and defines

name_at-ok : (test : List ℕ → Bool) (path : List ℕ) (value : Option Data) (name : List ℕ) → name_at test path value ≡ Ok name → test name ≡ true
name_at-ok test path value name e =
    let read : (x : List ℕ) × (text_at path value ≡ Ok x) × ((if test x then Ok x else Err (Name path)) ≡ Ok name) = and_then-ok (text_at path value) (λ x. if test x then Ok x else Err (Name path)) name e in
    let passed : (test read.0 ≡ true) × (read.0 ≡ name) = passed-ok (test read.0) read.0 name (Name path) read.2 in
    subst (λ (x : List ℕ). test x ≡ true) passed.1 passed.0

folders-ok : (path : List ℕ) (values : Items) (folders : List (List ℕ)) → each_of (folder_at path) [] values ≡ Ok folders → list_all is_folder folders ≡ true
unfolding folder_at
folders-ok path values folders e =
    each_of-keeps (λ before. list_all is_folder before ≡ true) (folder_at path)
    (λ before value x all reads. list_all-one_more is_folder before x all (name_at-ok is_folder (item_path path (length before)) (Some value) x reads)) [] values folders refl e

-- a define that is read
define_at-ok : (path : List ℕ) (before : List (List ℕ)) (value : Data) (define : List ℕ) → define_at path before value ≡ Ok define → (is_definable define ≡ true) × (is_defined before (name_of define) ≡ false)
unfolding define_at
define_at-ok path before value define e =
    let test : List ℕ → Bool = λ x. is_define x && not (is_fixed (name_of x)) && not (is_defined before (name_of x)) in
    let fault : ManifestFault = Define (item_path path (length before)) in
    let read : (x : List ℕ) × (text_at (item_path path (length before)) (Some value) ≡ Ok x) × ((if test x then Ok x else Err fault) ≡ Ok define) =
    and_then-ok (text_at (item_path path (length before)) (Some value)) (λ x. if test x then Ok x else Err fault) define e in
    let passed : (test read.0 ≡ true) × (read.0 ≡ define) = passed-ok (test read.0) read.0 define fault read.2 in
    let here : test define ≡ true = subst (λ (x : List ℕ). test x ≡ true) passed.1 passed.0 in
    let parts : (is_definable define ≡ true) × (not (is_defined before (name_of define)) ≡ true) = both (is_definable define) (not (is_defined before (name_of define))) here in
    (parts.0, denied (is_defined before (name_of define)) parts.1)

are_distinct-one_more : (before : List (List ℕ)) (define : List ℕ) → are_distinct before ≡ true → is_defined before (name_of define) ≡ false → are_distinct (before ++ define ∷ []) ≡ true
unfolding are_distinct is_defined
are_distinct-one_more [] define distinct new = refl
are_distinct-one_more (first ∷ before) define distinct new =
    let parts : (not (is_defined before (name_of first)) ≡ true) × (are_distinct before ≡ true) = both (not (is_defined before (name_of first))) (are_distinct before) distinct in
    let apart : (bytes_eq (name_of define) (name_of first) ≡ false) × (is_defined before (name_of define) ≡ false) = neither (bytes_eq (name_of define) (name_of first)) (is_defined before (name_of define)) new in
    let later : is_defined (before ++ define ∷ []) (name_of first) ≡ false =
    is_defined-append before define (name_of first) ∙ ap (λ b. b || bytes_eq (name_of first) (name_of define)) (denied (is_defined before (name_of first)) parts.0) ∙ bytes_eq_comm (name_of first) (name_of define) ∙ apart.0 in
    all_and (not (is_defined (before ++ define ∷ []) (name_of first))) (are_distinct (before ++ define ∷ [])) (ap not later) (are_distinct-one_more before define parts.1 apart.1)

-- what is kept of the defines
abbrev AreDefines : List (List ℕ) → Type 0
AreDefines defines = (list_all is_definable defines ≡ true) × (are_distinct defines ≡ true)

defines-ok : (path : List ℕ) (values : Items) (defines : List (List ℕ)) → each_of (define_at path) [] values ≡ Ok defines → AreDefines defines
unfolding are_distinct
defines-ok path values defines e =
    each_of-keeps AreDefines (define_at path)
    (λ before value x are reads.
    let is : (is_definable x ≡ true) × (is_defined before (name_of x) ≡ false) = define_at-ok path before value x reads in
    (list_all-one_more is_definable before x are.0 is.0, are_distinct-one_more before x are.1 is.1)) [] values defines (refl, refl) e

-- ---- units

lawful_at : (path : List ℕ) (file : List ℕ) (folders defines : Items) (include define : List (List ℕ)) → is_normal_name file ≡ true → each_of (folder_at (under path (codes "include"))) [] folders ≡ Ok include →
    each_of (define_at (under path (codes "define"))) [] defines ≡ Ok define → IsLawful (record { file = file; include = include; define = define })
lawful_at path file folders defines include define normal include_is define_is =
    let are : AreDefines define = defines-ok (under path (codes "define")) defines define define_is in
    record { file = normal; include = folders-ok (under path (codes "include")) folders include include_is; define = are.0; distinct = are.1 }

unit_at-ok : (path : List ℕ) (value : Data) (unit : Source) → unit_at path value ≡ Ok unit → IsLawful unit
unfolding unit_at
unit_at-ok path value unit e =
    let keys = and_then-ok (object_at path (under path) (codes "file" ∷ codes "include" ∷ codes "define" ∷ []) value) _ unit e in
    let file = and_then-ok (name_at is_normal_name (under path (codes "file")) (get (codes "file") value)) _ unit keys.2 in
    let folders = and_then-ok (list_at (under path (codes "include")) (get (codes "include") value)) _ unit file.2 in
    let include = and_then-ok (each_of (folder_at (under path (codes "include"))) [] folders.0) _ unit folders.2 in
    let defines = and_then-ok (list_at (under path (codes "define")) (get (codes "define") value)) _ unit include.2 in
    let define = and_then-ok (each_of (define_at (under path (codes "define"))) [] defines.0) _ unit defines.2 in
    subst IsLawful (same_ok _ unit define.2)
    (lawful_at path file.0 folders.0 defines.0 include.0 define.0 (name_at-ok is_normal_name (under path (codes "file")) (get (codes "file") value) file.0 file.1) include.1 define.1)

new_unit_at-ok : (before : List Source) (value : Data) (unit : Source) → new_unit_at before value ≡ Ok unit → IsLawful unit
unfolding new_unit_at
new_unit_at-ok before value unit e =
    let read : (u : Source) × (unit_at (unit_path (length before)) value ≡ Ok u) × ((if list_any (λ other. is_same_unit other u) before then Err (Twice (unit_path (length before))) else Ok u) ≡ Ok unit) =
    and_then-ok (unit_at (unit_path (length before)) value) _ unit e in
    let same : _ × (read.0 ≡ unit) = refused-ok (list_any (λ other. is_same_unit other read.0) before) read.0 unit (Twice (unit_path (length before))) read.2 in
    subst IsLawful same.1 (unit_at-ok (unit_path (length before)) value read.0 read.1)

one_unit : (unit : Source) → IsLawful unit → All IsLawful (unit ∷ [])
one_unit unit is zero d inside = is
one_unit unit is (suc k) d inside = absurd (omega arith)

no_unit : All IsLawful []
no_unit k d inside = absurd (omega arith)

-- as many are read as there are values
each_of-length : {A : Type 0} (read : List A → Data → Result A ManifestFault) (before : List A) (values : Items) (all : List A) → each_of read before values ≡ Ok all → length all ≡ length before + items_len values
unfolding each_of
each_of-length read before no_items all e = sym (ap length (same_ok before all e)) ∙ sym (add-zero (length before))
each_of-length {A} read before (item value values) all e =
    let first : (x : A) × (read before value ≡ Ok x) × (each_of read (before ++ x ∷ []) values ≡ Ok all) = and_then-ok (read before value) (λ x. each_of read (before ++ x ∷ []) values) all e in
    let later : length all ≡ length (before ++ first.0 ∷ []) + items_len values = each_of-length read (before ++ first.0 ∷ []) values all first.2 in
    omega (arith, length-append before (first.0 ∷ []))

units-ok : (values : Items) (units : List Source) → units_of values ≡ Ok units → All IsLawful units × (length units ≤ most_units)
unfolding units_of
units-ok values units e =
    let few : (nat_lt most_units (items_len values) ≡ false) × (each_of new_unit_at [] values ≡ Ok units) = few_ok (nat_lt most_units (items_len values)) (each_of new_unit_at [] values) units e in
    let below : items_len values ≤ most_units = ltb-false most_units (items_len values) few.0 in
    let long : length units ≡ 0 + items_len values = each_of-length new_unit_at [] values units few.1 in (
      each_of-keeps (All IsLawful) new_unit_at (λ before value unit are reads. All-append IsLawful before (unit ∷ []) are (one_unit unit (new_unit_at-ok before value unit reads))) [] values units no_unit few.1,
      omega arith,
    )

manifest-ok : (root : Data) (units : List Source) → manifest_of root ≡ Ok units → All IsLawful units × (length units ≤ most_units)
unfolding manifest_of
manifest-ok root units e =
    let keys = and_then-ok (object_at root_path (λ key. key) (codes "units" ∷ []) root) _ units e in
    let values = and_then-ok (array_at (codes "units") (get (codes "units") root)) units_of units keys.2 in
    units-ok values.0 units values.2

pub answer_lawful : (root : Data) (answer : Result (List Source) ManifestFault) → Gives (λ units. units) answer (manifest_of root) → IfOk answer (All IsLawful)
answer_lawful root (Ok units) gives = (manifest-ok root units gives).0
answer_lawful root (Err fault) gives = tt

pub answer_count : (root : Data) (answer : Result (List Source) ManifestFault) → Gives (λ units. units) answer (manifest_of root) → IfOk answer (λ units. length units ≤ most_units)
answer_count root (Ok units) gives = (manifest-ok root units gives).1
answer_count root (Err fault) gives = tt
