-- What a type has of a type that it covers.
use Rattle.std.specs.Prelude.{◌≡◌, ℕ, Bool, true, false, ◌||◌, not, ◌==◌, if◌then◌else◌, nat_lt, IsTrue, Option, Some, None, is_some, refl}
use Rattle.std.proofs.Common.{sym, ap, ◌∙◌, subst, ⊎_elim}
use Rattle.dm_int.specs.declared.Kind.TheVariants as k
use Rattle.dm_type.specs.declared.layout.Layout.{Layout}
use Rattle.dm_int.specs.Kinds.{number_of}
use Rattle.dm_type.specs.Alike.{are_compatible, match_as_parameters}
use Rattle.dm_type.specs.CTypes.{CType, CTypes, void, integer, pointer, array, struct, function as function_type, const, no_types, more_types, bare}
use Rattle.dm_type.specs.Layouts.{layout_of, size_of, times}
use Rattle.dm_type.specs.Tables.{Table}
use Rattle.dm_tree.specs.declared.unit.Sort.{Sort}
use Rattle.dm_tree.specs.declared.unit.Sort.TheVariants.{Object, Function, Typedef, Enumerator, Tag}
use Rattle.dm_tree.specs.Composites.{covers, covers_length, cover_parameters}
use Rattle.dm_tree.specs.Constants.{kind_if_integer, integer_kind}
use Rattle.dm_tree.specs.Scenes.{Scene, if_pointer, is_scalar, is_array, is_function, is_void, part_type, IsComplete}
use Rattle.dm_tree.specs.Typing.{FitsSort, IsTagType, is_main_type}
use Rattle.dm_typing.specs.Known.{Known}
use Rattle.dm_typing.specs.Later.{IsLater}
use Rattle.dm_typing.specs.Sound.{AreComplete}
use Rattle.dm_typing.proofs.CoverLemmas.{covers-itself}
use Rattle.dm_typing.proofs.GrowthLemmas.{Stays, some-stays, map-stays, times-stays, part-stays}
use Rattle.dm_typing.proofs.CallLemmas.{one-of}
use Rattle.dm_typing.proofs.ConversionLemmas.{or-left, or-right}
use Rattle.dm_typing.proofs.KindLemmas.{same-numbers, numbers-same, same-kinds}
use Rattle.dm_typing.proofs.TypeLemmas.{both-hold, both-true, unqualified}

-- ---- sizes

length-covered : (m n : Option ℕ) → covers_length m n ≡ true → (count : ℕ) → n ≡ Some count → m ≡ n
length-covered (Some m) (Some n) h count e = ap Some (same-numbers m n h)
length-covered None (Some n) h count e = absurd (cc)
length-covered m None h count e = absurd (cc)

array-layout : (m n : Option ℕ) (one other : Option Layout) → covers_length m n ≡ true → Stays other one → Stays (times n other) (times m one)
array-layout m None one other h stays it e = absurd (cc)
array-layout m (Some n) one other h stays it e =
    subst (λ (length : Option ℕ). times length one ≡ Some it) (sym (length-covered m (Some n) h n refl)) (times-stays (Some n) other one stays it e)

-- a complete type has the layout of each type that covers it
covers-layout : (table : Table) (a b : CType) → covers a b ≡ true → Stays (layout_of table b) (layout_of table a)
covers-layout table void void h it e = e
covers-layout table (integer kind) (integer other) h it e = subst (λ it-kind. layout_of table (integer it-kind) ≡ Some it) (sym (same-kinds kind other h)) e
covers-layout table (pointer a) (pointer b) h it e = e
covers-layout table (array a m) (array b n) h it e =
    let parts = both-hold (covers_length m n) (covers a b) h in
    array-layout m n (layout_of table a) (layout_of table b) parts.0 (covers-layout table a b parts.1) it e
covers-layout table (struct m) (struct n) h it e = subst (λ at. layout_of table (struct at) ≡ Some it) (sym (same-numbers m n h)) e
covers-layout table (function_type a types) (function_type b others) h it e = e
covers-layout table (const a) (const b) h it e = covers-layout table a b h it e
covers-layout table a b h it e = absurd (cc)

pub covers-complete : (scene : Scene) (a b : CType) → covers a b ≡ true → IsComplete scene b → IsComplete scene a
covers-complete scene a b h is =
    some-stays (size_of scene.types b) (size_of scene.types a)
    (map-stays (λ (layout : Layout). layout.size) (layout_of scene.types b) (layout_of scene.types a) (covers-layout scene.types a b h)) is

-- ---- kinds of types

pub covers-bare : (a b : CType) → covers a b ≡ true → covers (bare a) (bare b) ≡ true
covers-bare (const a) (const b) h = h
covers-bare void void h = h
covers-bare (integer kind) (integer other) h = h
covers-bare (pointer a) (pointer b) h = h
covers-bare (array a m) (array b n) h = h
covers-bare (struct m) (struct n) h = h
covers-bare (function_type a types) (function_type b others) h = h
covers-bare a b h = absurd (cc)

plain-kind : (a b : CType) → covers a b ≡ true → kind_if_integer a ≡ kind_if_integer b
plain-kind (integer kind) (integer other) h = ap Some (same-kinds kind other h)
plain-kind void void h = refl
plain-kind (pointer a) (pointer b) h = refl
plain-kind (array a m) (array b n) h = refl
plain-kind (struct m) (struct n) h = refl
plain-kind (function_type a types) (function_type b others) h = refl
plain-kind (const a) (const b) h = refl
plain-kind a b h = absurd (cc)

plain-pointer : (a b : CType) → covers a b ≡ true → is_some (if_pointer a) ≡ is_some (if_pointer b)
plain-pointer (pointer a) (pointer b) h = refl
plain-pointer void void h = refl
plain-pointer (integer kind) (integer other) h = refl
plain-pointer (array a m) (array b n) h = refl
plain-pointer (struct m) (struct n) h = refl
plain-pointer (function_type a types) (function_type b others) h = refl
plain-pointer (const a) (const b) h = refl
plain-pointer a b h = absurd (cc)

pub covers-kind : (a b : CType) → covers a b ≡ true → integer_kind a ≡ integer_kind b
covers-kind a b h = plain-kind (bare a) (bare b) (covers-bare a b h)

pub covers-scalar : (a b : CType) → covers a b ≡ true → is_scalar b ≡ true → is_scalar a ≡ true
covers-scalar a b h is =
    let kinds = covers-kind a b h in
    let pointers = plain-pointer (bare a) (bare b) (covers-bare a b h) in
    ap (λ it. is_some it || is_some (if_pointer (bare a))) kinds ∙ (ap (λ it. is_some (integer_kind b) || it) pointers ∙ is)

pub scalar-array : (a : CType) → is_scalar a ≡ true → is_array a ≡ false
scalar-array (array a n) h = absurd (cc)
scalar-array a h = refl

pub covers-function : (a b : CType) → covers a b ≡ true → is_function a ≡ is_function b
covers-function (function_type a types) (function_type b others) h = refl
covers-function void void h = refl
covers-function (integer kind) (integer other) h = refl
covers-function (pointer a) (pointer b) h = refl
covers-function (array a m) (array b n) h = refl
covers-function (struct m) (struct n) h = refl
covers-function (const a) (const b) h = refl
covers-function a b h = absurd (cc)

pub covers-void : (a b : CType) → covers a b ≡ true → is_void a ≡ is_void b
covers-void void void h = refl
covers-void (function_type a types) (function_type b others) h = refl
covers-void (integer kind) (integer other) h = refl
covers-void (pointer a) (pointer b) h = refl
covers-void (array a m) (array b n) h = refl
covers-void (struct m) (struct n) h = refl
covers-void (const a) (const b) h = refl
covers-void a b h = absurd (cc)

covers-int : (a : CType) → covers a (integer k.Int) ≡ true → a ≡ integer k.Int
covers-int (integer kind) h = ap integer (same-kinds kind k.Int h)
covers-int void h = absurd (cc)
covers-int (pointer a) h = absurd (cc)
covers-int (array a n) h = absurd (cc)
covers-int (struct n) h = absurd (cc)
covers-int (function_type a types) h = absurd (cc)
covers-int (const a) h = absurd (cc)

covers-struct : (a : CType) (n : ℕ) → covers a (struct n) ≡ true → a ≡ struct n
covers-struct (struct m) n h = ap struct (same-numbers m n h)
covers-struct a n h = absurd (cc)

covers-tag : (a b : CType) → covers a b ≡ true → IsTagType b → IsTagType a
covers-tag a (struct n) h t = subst IsTagType (sym (covers-struct a n h)) tt
covers-tag a (integer k.Int) h t = subst IsTagType (sym (covers-int a h)) tt
covers-tag a b h t = absurd t

-- an entry stays one of its sort
pub covers-sort : (sort : Sort) (a b : CType) (linked : Bool) → covers a b ≡ true → FitsSort sort b linked → FitsSort sort a linked
covers-sort (Object fixed) a b linked h fits = (ap not (covers-function a b h) ∙ fits.0, fits.1)
covers-sort Function a b linked h fits = (covers-function a b h ∙ fits.0, fits.1)
covers-sort Typedef a b linked h fits = fits
covers-sort (Enumerator value) a b linked h fits = (covers-int a (subst (λ it. covers a it ≡ true) fits.0 h), fits.1, fits.2)
covers-sort Tag a b linked h fits = (covers-tag a b h fits.0, fits.1)

-- ---- parts

covers-const-struct : (a : CType) (n : ℕ) → covers a (const (struct n)) ≡ true → a ≡ const (struct n)
covers-const-struct (const a) n h = ap const (covers-struct a n h)
covers-const-struct a n h = absurd (cc)

-- the part of a type
abbrev pub HasPart : Scene → CType → ℕ → CType → Type 0
HasPart scene whole n part = (other : CType) × (part_type scene.types whole n ≡ Some other) × IsTrue (covers other part)

in-array : (scene : Scene) (w type part : CType) (m many n : ℕ) → (m == many) ≡ true → covers w type ≡ true → (if nat_lt n many then Some type else None) ≡ Some part
    → HasPart scene (array w (Some m)) n part
in-array scene w type part m many n same c h =
    let eq : m ≡ many = same-numbers m many same in
    subst (λ it. (other : CType) × ((if nat_lt n it then Some w else None) ≡ Some other) × IsTrue (covers other part)) (sym eq) (go (nat_lt n many) h)
  where
    go : (test : Bool) → (if test then Some type else None) ≡ Some part → (other : CType) × ((if test then Some w else None) ≡ Some other) × IsTrue (covers other part)
    go true e = let same-type : type ≡ part = cc in (w, refl, subst (λ it. covers w it ≡ true) same-type c)
    go false e = absurd (cc)

pub part-covers : (known : Known) (final : Scene) → AreComplete known.types → IsLater known final → (whole type : CType) (n : ℕ) (part : CType) → covers whole type ≡ true
    → part_type known.types type n ≡ Some part → HasPart final whole n part
part-covers known final complete later (array w (Some m)) (array type (Some many)) n part h e =
    let parts = both-hold (m == many) (covers w type) h in in-array final w type part m many n parts.0 parts.1 e
part-covers known final complete later (array w None) (array type (Some many)) n part h e = absurd (cc)
part-covers known final complete later (array w m) (array type None) n part h e = absurd (cc)
part-covers known final complete later whole (struct at) n part h e =
    subst (λ it. HasPart final it n part) (sym (covers-struct whole at h)) (part, part-stays known final later complete (struct at) n part e, covers-itself part)
part-covers known final complete later whole (const (struct at)) n part h e =
    subst (λ it. HasPart final it n part) (sym (covers-const-struct whole at h)) (part, part-stays known final later complete (const (struct at)) n part e, covers-itself part)
part-covers known final complete later whole type n part h e = absurd (cc)

-- ---- types without arrays

abbrev mutual
  IsClosed : CType → Type 0
  IsClosed void = Unit {0}
  IsClosed (integer kind) = Unit {0}
  IsClosed (pointer type) = IsClosed type
  IsClosed (array type n) = ⊥
  IsClosed (struct at) = Unit {0}
  IsClosed (function_type result types) = IsClosed result × AreClosed types
  IsClosed (const type) = IsClosed type

  AreClosed : CTypes → Type 0
  AreClosed no_types = Unit {0}
  AreClosed (more_types type types) = IsClosed type × AreClosed types

closed-bare : (type : CType) → IsClosed type → IsClosed (bare type)
closed-bare (const type) h = h
closed-bare type h = h

never-match : (b : CType) (others : CTypes) → match_as_parameters (more_types b others) no_types ≡ true → ⊥
never-match (const b) others h = absurd (cc)
never-match b others h = absurd (cc)

mutual
  -- what covers a type that is compatible with one without arrays is so too
  covers-closed : (whole type other : CType) → IsClosed other → covers whole type ≡ true → are_compatible type other ≡ true → are_compatible whole other ≡ true
  covers-closed void void void c h g = refl
  covers-closed (integer k) (integer l) (integer m) c h g =
      numbers-same (number_of k) (number_of m) (same-numbers (number_of k) (number_of l) h ∙ same-numbers (number_of l) (number_of m) g)
  covers-closed (pointer a) (pointer b) (pointer d) c h g = covers-closed a b d c h g
  covers-closed (array a l) (array b m) (array d n) c h g = absurd c
  covers-closed (struct l) (struct m) (struct n) c h g = numbers-same l n (same-numbers l m h ∙ same-numbers m n g)
  covers-closed (function_type a types) (function_type b others) (function_type d more) c h g =
      let one = both-hold (covers a b) (cover_parameters types others) h in
      let two = both-hold (are_compatible b d) (match_as_parameters others more) g in
      both-true (are_compatible a d) (match_as_parameters types more) (covers-closed a b d c.0 one.0 two.0) (cover-closed types others more c.1 one.1 two.1)
  covers-closed (const a) (const b) (const d) c h g = covers-closed a b d c h g
  covers-closed a b d c h g = absurd (cc)

  cover-closed : (types others more : CTypes) → AreClosed more → cover_parameters types others ≡ true → match_as_parameters others more ≡ true → match_as_parameters types more ≡ true
  cover-closed no_types no_types no_types c h g = refl
  cover-closed (more_types (const a) types) (more_types b others) (more_types d more) c h g =
      let one = both-hold (covers a (bare b)) (cover_parameters types others) h in
      let two = both-hold (are_compatible (bare b) (bare d)) (match_as_parameters others more) (sym (unqualified b d others more) ∙ g) in
      both-true (are_compatible a (bare d)) (match_as_parameters types more) (covers-closed a (bare b) (bare d) (closed-bare d c.0) one.0 two.0) (cover-closed types others more c.1 one.1 two.1)
  cover-closed (more_types a types) (more_types b others) (more_types d more) c h g =
      let one = both-hold (covers a (bare b)) (cover_parameters types others) h in
      let two = both-hold (are_compatible (bare b) (bare d)) (match_as_parameters others more) (sym (unqualified b d others more) ∙ g) in
      both-true (are_compatible a (bare d)) (match_as_parameters types more) (covers-closed a (bare b) (bare d) (closed-bare d c.0) one.0 two.0) (cover-closed types others more c.1 one.1 two.1)
  cover-closed (more_types (const a) types) (more_types b others) no_types c h g = absurd (never-match b others g)
  cover-closed (more_types a types) (more_types b others) no_types c h g = absurd (never-match b others g)
  cover-closed types others more c h g = absurd (cc)

-- the type of `main` stays one of its types
pub covers-main : (whole type : CType) → covers whole type ≡ true → is_main_type type ≡ true → is_main_type whole ≡ true
covers-main whole type c h =
    let plain = function_type (integer k.Int) no_types in
    let words = function_type (integer k.Int) (more_types (integer k.Int) (more_types (pointer (pointer (integer k.Char))) no_types)) in
    ⊎_elim (λ one. or-left (are_compatible whole plain) (are_compatible whole words) (covers-closed whole type plain (tt, tt) c one))
    (λ two. or-right (are_compatible whole plain) (are_compatible whole words) (covers-closed whole type words (tt, (tt, (tt, tt))) c two))
    (one-of (are_compatible type plain) (are_compatible type words) h)
