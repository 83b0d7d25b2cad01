-- What the code knows while tags are declared and the members of structs are read.
use Rattle.std.specs.Prelude.{◌≡◌, ℕ, zero, suc, ◌+◌, ◌<◌, ◌==◌, Bool, true, false, ◌||◌, if◌then◌else◌, List, [], ◌∷◌, ◌++◌, length, reverse, drop, All, slice_get, slice_set, slice_index_or, Option, Some, None, is_some, option_and_then, option_map, ℤ, IfNone, IsSome, Result, Ok, Err, OnErr, refl}
use Rattle.std.proofs.Common.{sym, ap, ◌∙◌, subst, arith, cond, length-append}
use Rattle.std.specs.Cmp.Lexicographic.{slice_cmp}
use Rattle.std.specs.Ordering.{nat_cmp, eq_by_cmp}
use Rattle.std.specs.FinMap as finite
use Rattle.std.proofs.lemmas.Bool.{eqb-true, eqb-false, or_parts}
use Rattle.std.proofs.lemmas.Cmp.{nat_list_cmp_total}
use Rattle.std.proofs.lemmas.List.{reverse-append, length-set}
use Rattle.std.proofs.lemmas.List.Elements.{All-head, All-tail, All-cons, All-nil, All-weaker}
use Rattle.dm_type.specs.declared.shape.Content.{Content}
use Rattle.dm_type.specs.declared.shape.Member.{Member}
use Rattle.dm_type.specs.declared.shape.Shape.{Shape}
use Rattle.dm_type.specs.declared.shape.Struct.{Struct as StructEntry}
use Rattle.dm_type.specs.declared.layout.Layout.{Layout}
use Rattle.dm_type.specs.CTypes.{CType, void, integer, pointer, array, struct, function, const}
use Rattle.dm_type.specs.Layouts.{layout_of, size_of, times, if_fits, padded, nothing, joined, followed_by, struct_layout, contained}
use Rattle.dm_type.specs.TableLaws.{injected, length-types_of}
use Rattle.dm_type.specs.Tables.{Table, types_of, type_of, IsId, AreDistinct, members_of, tag_of, with_content}
use Rattle.dm_scope.specs.Scopes.{Scopes, number_of, declared, or_else}
use Rattle.dm_name_map.specs.Numbers.{Numbers}
use Rattle.dm_token.specs.declared.place.Place.{Place}
use Rattle.dm_token.specs.declared.place.Span.{Span}
use Rattle.dm_tree.specs.declared.unit.Declared.{Declared}
use Rattle.dm_tree.specs.declared.unit.Linkage.TheVariants.{Absent}
use Rattle.dm_tree.specs.declared.unit.Sort.TheVariants.{Enumerator as EnumeratorSort}
use Rattle.dm_tree.specs.Units.{Declaration}
use Rattle.dm_typing.specs.declared.known.Known.{Known as Held}
use Rattle.dm_typing.specs.Bounds.{IsBelow, AreBelow, IsUnset, AreOpen}
use Rattle.dm_typing.specs.Conversions.{is_same}
use Rattle.dm_typing.specs.Known.{Known, obeys, given, declaring}
use Rattle.dm_enames.specs.Tags.{ended, fields_over, IsUnopened, type_meant, struct_at}
use Rattle.dm_typing.specs.Typing.{is_among, number_among, number_of_type, fields, struct_ended, beginning, struct_begun, may_have_members, number_if_struct}
use Rattle.dm_typing.specs.Views.{Begins, type_over, table_over, known_over, seen}
use Rattle.dm_typing.proofs.BoundLemmas.{open-parts, open-with}
use Rattle.dm_typing.proofs.LaterLemmas.{begins-length, type-later}
use Rattle.dm_typing.proofs.TypeLemmas.{same-types}
use Rattle.dm_typing.proofs.ValueLemmas.{same-itself}

-- ---- the numbers in the scopes

below-insert : (count : ℕ) (scope : Numbers) (name : List ℕ) → IsBelow count scope → IsBelow (count + 1) (finite.insert scope name count)
below-insert count scope name below other number h =
    go (eq_by_cmp (slice_cmp nat_cmp) other name) (sym (finite.get-insert nat_list_cmp_total scope name count other) ∙ h)
  where
    go : (test : Bool) → cond test (Some count) (finite.get scope other) ≡ Some number → number < count + 1
    go true e = let same = injected count number e in omega (arith, same)
    go false e = let under = below other number e in omega (arith, under)

more-below : (count : ℕ) (scope : Numbers) → IsBelow count scope → IsBelow (count + 1) scope
more-below count scope below name number h = let under = below name number h in omega (arith, under)

pub all-below : (count : ℕ) (scopes : Scopes) → AreBelow count scopes → AreBelow (count + 1) scopes
all-below count scopes all = All-weaker (IsBelow count) (IsBelow (count + 1)) (more-below count) scopes all

pub declared-below : (count : ℕ) (scopes : Scopes) (name : List ℕ) → AreBelow count scopes → AreBelow (count + 1) (declared scopes name count)
declared-below count [] name all = All-nil (IsBelow (count + 1))
declared-below count (scope ∷ scopes) name all =
    All-cons (IsBelow (count + 1)) (finite.insert scope name count) scopes (below-insert count scope name (All-head (IsBelow count) scope scopes all))
    (all-below count scopes (All-tail (IsBelow count) scope scopes all))

-- a number of a name is below the count
pub number-below : (count : ℕ) (scopes : Scopes) (name : List ℕ) (number : ℕ) → AreBelow count scopes → number_of scopes name ≡ Some number → number < count
number-below count [] name number all h = absurd (cc)
number-below count (scope ∷ scopes) name number all h = go (number-below count scopes name number (All-tail (IsBelow count) scope scopes all)) (finite.get scope name) refl h
  where
    go : (number_of scopes name ≡ Some number → number < count) → (found : Option ℕ) → finite.get scope name ≡ found → or_else found (number_of scopes name) ≡ Some number
        → number < count
    go further (Some it) e h = All-head (IsBelow count) scope scopes all name number (e ∙ h)
    go further None e h = further h

-- ---- numbers among others

or-assoc : (a b c : Bool) → ((a || b) || c) ≡ (a || (b || c))
or-assoc true b c = refl
or-assoc false b c = refl

or-swap : (a b : Bool) → (a || b) ≡ (b || a)
or-swap true true = refl
or-swap true false = refl
or-swap false true = refl
or-swap false false = refl

or-none : (a : Bool) → (a || false) ≡ a
or-none true = refl
or-none false = refl

among-append : (n : ℕ) (ms ns : List ℕ) → is_among n (ms ++ ns) ≡ (is_among n ms || is_among n ns)
among-append n [] ns = refl
among-append n (m ∷ ms) ns = ap (λ b. (n == m) || b) (among-append n ms ns) ∙ sym (or-assoc (n == m) (is_among n ms) (is_among n ns))

pub among-reverse : (n : ℕ) (ms : List ℕ) → is_among n (reverse ms) ≡ is_among n ms
among-reverse n [] = refl
among-reverse n (m ∷ ms) =
    ap (is_among n) (reverse-append (m ∷ []) ms)
    ∙ among-append n (reverse ms) (m ∷ [])
    ∙ ap (λ b. b || ((n == m) || false)) (among-reverse n ms)
    ∙ ap (λ b. is_among n ms || b) (or-none (n == m))
    ∙ or-swap (is_among n ms) (n == m)

-- ---- structs whose members are being read

abbrev members_in : List StructEntry → ℕ → Option (List Member)
members_in structs number =
    option_map (λ (content : Content). content.members) (option_and_then (λ (entry : StructEntry). entry.content) (slice_get structs number))

last-empty : (structs : List StructEntry) (tag : Option (List ℕ)) → members_in (structs ++ record { tag = tag; content = None } ∷ []) (length structs) ≡ None
last-empty [] tag = refl
last-empty (entry ∷ structs) tag = last-empty structs tag

set-other : (structs : List StructEntry) (number : ℕ) (entry : StructEntry) (at : ℕ) → (at ≡ number → ⊥) → members_in (slice_set structs number entry) at ≡ members_in structs at
set-other [] number entry at apart = refl
set-other (other ∷ structs) zero entry zero apart = absurd (apart refl)
set-other (other ∷ structs) zero entry (suc at) apart = refl
set-other (other ∷ structs) (suc number) entry zero apart = refl
set-other (other ∷ structs) (suc number) entry (suc at) apart = set-other structs number entry at (λ e. apart (ap suc e))

-- the struct that is new isn't being read
pub new-apart : (types : Table) (begun : List ℕ) → AreOpen types begun → is_among (length types.structs) begun ≡ false
new-apart types [] still = refl
new-apart types (number ∷ outer) still = go (new-apart types outer (open-parts types number outer still).3) (length types.structs == number) refl
  where
    go : is_among (length types.structs) outer ≡ false → (test : Bool) → (length types.structs == number) ≡ test → (test || is_among (length types.structs) outer) ≡ false
    go further true e = let same = eqb-true (length types.structs) number e in let under = (open-parts types number outer still).0 in absurd (omega (arith, same, under))
    go further false e = further

-- a struct outside these gets its members
pub open-without : (types : Table) (number : ℕ) (content : Content) (begun : List ℕ) → is_among number begun ≡ false → AreOpen types begun → AreOpen (with_content types number content) begun
open-without types number content [] apart still = (All-nil (IsUnset (with_content types number content)), refl)
open-without types number content (at ∷ outer) apart still =
    let one = open-parts types at outer still in
    let under = one.0 in
    let same = length-set types.structs number (record { tag = tag_of types number; content = Some content }) in
    open-with (with_content types number content) at outer (omega (arith, under, same))
    (set-other types.structs number (record { tag = tag_of types number; content = Some content }) at (λ e. other e) ∙ one.1)
    one.2 (open-without types number content outer parts.1 one.3)
  where
    parts : ((number == at) ≡ false) × (is_among number outer ≡ false)
    parts = or_parts (number == at) (is_among number outer) apart

    other : at ≡ number → ⊥
    other e = eqb-false number at parts.0 (sym e)

-- ---- the members of a struct that ends

-- the number of a type is the first that is that type
number-first : (types : List CType) (n id : ℕ) (type : CType) → id < length types → slice_index_or types id void ≡ type
    → ((i : ℕ) → i < id → is_same (slice_index_or types i void) type ≡ false) → number_among type n types ≡ n + id
number-first [] n id type inside is others = absurd (omega (arith, inside))
number-first (first ∷ types) n zero type inside is others =
    ap (λ b. if b then n else number_among type (n + 1) types) (ap (λ t. is_same t type) is ∙ same-itself type) ∙ omega arith
number-first (first ∷ types) n (suc id) type inside is others =
    ap (λ b. if b then n else number_among type (n + 1) types) (others zero (omega arith))
    ∙ number-first types (n + 1) id type (omega (arith, inside)) is (λ i below. others (suc i) (omega (arith, below)))
    ∙ omega arith

module _ (table : Table) (later : List Shape) (begins : Begins table.shapes later) (distinct : AreDistinct table) where
  differ : (i id : ℕ) → i < id → IsId table id → is_same (type_over later i) (type_over later id) ≡ false
  differ i id below inside = go (is_same (type_over later i) (type_over later id)) refl
    where
      within : IsId table i
      within = omega (arith, below, inside)

      go : (test : Bool) → is_same (type_over later i) (type_over later id) ≡ test → is_same (type_over later i) (type_over later id) ≡ false
      go false e = e
      go true e =
          let same : type_of table i ≡ type_of table id =
          sym (type-later table.shapes later i begins within) ∙ (same-types (type_over later i) (type_over later id) e ∙ type-later table.shapes later id begins inside) in
          let one : i ≡ id = distinct i id within inside same in
          absurd (omega (arith, below, one))

  number-again : (id : ℕ) → IsId table id → number_of_type (table_over later table) (type_over later id) ≡ id
  number-again id inside =
      let longer = begins-length table.shapes later begins in
      let long = length-types_of later in
      number-first (types_of later) 0 id (type_over later id) (omega (arith, longer, long, inside)) refl (λ i below. differ i id below inside)
      ∙ omega arith

  -- the members with their types written out are the members themselves
  pub fields-again : (members : List Member) → All (λ (member : Member). IsId table member.kind) members → fields (table_over later table) (fields_over later members) ≡ members
  fields-again [] all = refl
  fields-again (member ∷ members) all =
      ap (λ (n : ℕ). record { name = member.name; kind = n } ∷ fields (table_over later table) (fields_over later members))
      (number-again member.kind (All-head (λ (one : Member). IsId table one.kind) member members all))
      ∙ ap (λ (ms : List Member). member ∷ ms) (fields-again members (All-tail (λ (one : Member). IsId table one.kind) member members all))

-- the structs of a table are all that a layout needs of it
module _ (table : Table) (later : List Shape) where
  layout-same : (type : CType) → layout_of (table_over later table) type ≡ layout_of table type
  layout-same void = refl
  layout-same (integer kind) = refl
  layout-same (pointer type) = refl
  layout-same (array type n) = ap (times n) (layout-same type)
  layout-same (struct number) = refl
  layout-same (function result parameters) = refl
  layout-same (const type) = layout-same type

  module _ (begins : Begins table.shapes later) where
    joined-same : (members : List Member) (before : Layout) → All (λ (member : Member). IsId table member.kind) members
        → joined (table_over later table) before members ≡ joined table before members
    joined-same [] before all = refl
    joined-same (member ∷ members) before all =
        ap (option_and_then (λ layout. joined (table_over later table) (followed_by before layout) members))
        (layout-same (type_over later member.kind)
        ∙ ap (layout_of table) (type-later table.shapes later member.kind begins (All-head (λ (one : Member). IsId table one.kind) member members all)))
        ∙ each (λ layout. joined-same members (followed_by before layout) (All-tail (λ (one : Member). IsId table one.kind) member members all))
        (layout_of table (type_of table member.kind))
      where
        each : ((layout : Layout) → joined (table_over later table) (followed_by before layout) members ≡ joined table (followed_by before layout) members) → (found : Option Layout) → option_and_then (λ layout. joined (table_over later table) (followed_by before layout) members) found
            ≡ option_and_then (λ layout. joined table (followed_by before layout) members) found
        each further None = refl
        each further (Some layout) = further layout

    pub struct-same : (members : List Member) → All (λ (member : Member). IsId table member.kind) members → struct_layout (table_over later table) members ≡ struct_layout table members
    struct-same members all = ap (option_and_then (λ layout. if_fits (padded layout))) (joined-same members nothing all)

-- the size of a struct that has its members is that of its layout
set-content : (structs : List StructEntry) (number : ℕ) (entry : StructEntry) → number < length structs
    → option_and_then (λ (one : StructEntry). one.content) (slice_get (slice_set structs number entry) number) ≡ entry.content
set-content [] number entry below = absurd (omega (arith, below))
set-content (first ∷ structs) zero entry below = refl
set-content (first ∷ structs) (suc number) entry below = set-content structs number entry (omega (arith, below))

pub sized : (types : Table) (number : ℕ) (members : List Member) → number < length types.structs
    → is_some (size_of (with_content types number (contained types members)) (struct number)) ≡ is_some (struct_layout types members)
sized types number members below =
    ap (λ (found : Option Content). is_some (option_map (λ (layout : Layout). layout.size) (option_and_then (λ (content : Content). content.layout) found)))
    (set-content types.structs number (record { tag = tag_of types number; content = Some (contained types members) }) below)
    ∙ some-size (struct_layout types members)
  where
    some-size : (found : Option Layout) → is_some (option_map (λ (layout : Layout). layout.size) found) ≡ is_some found
    some-size None = refl
    some-size (Some layout) = refl

-- ---- scopes that are entered and left

pub entered-below : (count : ℕ) (scopes : Scopes) → AreBelow count scopes → AreBelow count (finite.empty ∷ scopes)
entered-below count scopes all = All-cons (IsBelow count) finite.empty scopes (λ name number h. no-number number (sym (finite.get-empty (slice_cmp nat_cmp) name) ∙ h)) all
  where
    no-number : (number : ℕ) → ◌≡◌ {A = Option ℕ} None (Some number) → number < count
    no-number number h = absurd (cc)

pub left-below : (count : ℕ) (scopes : Scopes) → AreBelow count scopes → AreBelow count (drop 1 scopes)
left-below count [] all = all
left-below count (scope ∷ scopes) all = All-tail (IsBelow count) scope scopes all

-- ---- a struct that ends

pub struct-ends : (later : List Shape) (old : Held) (span : Span) (number : ℕ) (outer : List ℕ) (first : Member) (members : List Member) → Begins old.types.shapes later
    → AreDistinct old.types → All (λ (member : Member). IsId old.types member.kind) (first ∷ members)
    → struct_ended (known_over later old) span (Some number) outer (fields_over later (first ∷ members))
    ≡ obeys (is_some (struct_layout old.types (first ∷ members))) 5 span.first
    (given (ended (known_over later old) (table_over later (with_content old.types number (contained old.types (first ∷ members)))) outer) (struct number))
struct-ends later old span number outer first members begins distinct all =
    let types : Table = table_over later old.types in
    ap (λ (found : List Member). obeys (is_some (struct_layout types found)) 5 span.first (given (ended (known_over later old) (with_content types number (contained types found)) outer) (struct number)))
    (fields-again old.types later begins distinct (first ∷ members) all)
    ∙ ap (λ (layout : Option Layout). obeys (is_some layout) 5 span.first
    (given (ended (known_over later old) (with_content types number (record { members = first ∷ members; layout = layout })) outer) (struct number)))
    (struct-same old.types later begins (first ∷ members) all)

pub struct-ends-any : (later : List Shape) (old : Held) (span : Span) (number : ℕ) (outer : List ℕ) (members : List Member) → (members ≡ [] → ⊥) → Begins old.types.shapes later
    → AreDistinct old.types → All (λ (member : Member). IsId old.types member.kind) members
    → struct_ended (known_over later old) span (Some number) outer (fields_over later members)
    ≡ obeys (is_some (struct_layout old.types members)) 5 span.first
    (given (ended (known_over later old) (table_over later (with_content old.types number (contained old.types members))) outer) (struct number))
struct-ends-any later old span number outer [] some begins distinct all = absurd (some refl)
struct-ends-any later old span number outer (first ∷ members) some begins distinct all = struct-ends later old span number outer first members begins distinct all

same-some : (a b : ℕ) → ◌≡◌ {A = Option ℕ} (Some a) (Some b) → a ≡ b
same-some a b e = cc

pub struct-numbered : (type : CType) (number : ℕ) → Some number ≡ number_if_struct type → type ≡ struct number
struct-numbered (struct at) number is = ap struct (sym (same-some number at is))
struct-numbered type number is = absurd (cc)

-- ---- what holds behind a declaration

pub below-longer : (entries : List Declared) (entry : Declared) (scopes : Scopes) → AreBelow (length entries) scopes → AreBelow (length (entries ++ entry ∷ [])) scopes
below-longer entries entry scopes all = subst (λ count. AreBelow count scopes) (sym (length-append entries (entry ∷ []))) (all-below (length entries) scopes all)

pub below-declared : (entries : List Declared) (entry : Declared) (scopes : Scopes) (name : List ℕ) → AreBelow (length entries) scopes
    → AreBelow (length (entries ++ entry ∷ [])) (declared scopes name (length entries))
below-declared entries entry scopes name all =
    subst (λ count. AreBelow count (declared scopes name (length entries))) (sym (length-append entries (entry ∷ []))) (declared-below (length entries) scopes name all)

pub declared-anyway : {E : Type 0} (answer : Result Bool E) (entries : List Declared) (entry : Declared) (old new : Scopes) (name : List ℕ) → AreBelow (length entries) old
    → (answer ≡ Ok true → new ≡ declared old name (length entries)) → (answer ≡ Ok false → new ≡ old) → OnErr answer (new ≡ old) → AreBelow (length (entries ++ entry ∷ [])) new
declared-anyway (Ok true) entries entry old new name all once twice err = subst (AreBelow (length (entries ++ entry ∷ []))) (sym (once refl)) (below-declared entries entry old name all)
declared-anyway (Ok false) entries entry old new name all once twice err = subst (AreBelow (length (entries ++ entry ∷ []))) (sym (twice refl)) (below-longer entries entry old all)
declared-anyway (Err fault) entries entry old new name all once twice err = subst (AreBelow (length (entries ++ entry ∷ []))) (sym err) (below-longer entries entry old all)

pub some-nothing : {A : Type 0} (P : Type 0) (found : Option A) → IsSome found → IfNone found P
some-nothing P None h = absurd (cc)
some-nothing P (Some it) h = tt

-- ---- a struct that begins

pub reverse-push : (numbers : List ℕ) (number : ℕ) → reverse (numbers ++ number ∷ []) ≡ number ∷ reverse numbers
reverse-push numbers number = reverse-append numbers (number ∷ [])

pub open-begun : (types : Table) (begun : List ℕ) (number : ℕ) → number < length types.structs → members_of types number ≡ None → is_among number (reverse begun) ≡ false
    → AreOpen types (reverse begun) → AreOpen types (reverse (begun ++ number ∷ []))
open-begun types begun number below empty apart still = subst (AreOpen types) (sym (reverse-push begun number)) (open-with types number (reverse begun) below empty apart still)

pub begun-anyway : (test : Bool) (types : Table) (begun new : List ℕ) (number : ℕ) → new ≡ (if test then begun ++ number ∷ [] else begun)
    → (number < length types.structs) × (members_of types number ≡ None) × (is_among number (reverse begun) ≡ false) → AreOpen types (reverse begun) → AreOpen types (reverse new)
begun-anyway true types begun new number is one still = subst (λ numbers. AreOpen types (reverse numbers)) (sym is) (open-begun types begun number one.0 one.1 one.2 still)
begun-anyway false types begun new number is one still = subst (λ numbers. AreOpen types (reverse numbers)) (sym is) still

pub begun-known : (later : List Shape) (held : Held) (begun : List ℕ) (number : ℕ) → begun ≡ held.begun.items ++ number ∷ []
    → record (known_over later held) { begun = reverse begun } ≡ beginning (known_over later held) (Some number)
begun-known later held begun number e =
    ap (λ (numbers : List ℕ). record (known_over later held) { begun = numbers }) (ap reverse e ∙ reverse-push held.begun.items number)

pub added-unopened : (types : Table) (tag : Option (List ℕ)) (held : Held) (number : ℕ) (begun : List ℕ) → AreOpen types (reverse begun) → number ≡ length types.structs
    → held.types.structs ≡ types.structs ++ record { tag = tag; content = None } ∷ [] → held.begun.items ≡ begun → IsUnopened held number
added-unopened types tag held number begun still is structs same = (
  let longer = length-append types.structs (record { tag = tag; content = None } ∷ []) in let long = ap length structs in omega (arith, longer, long, is),
  ap (λ (entries : List StructEntry). members_in entries number) structs
      ∙ ap (members_in (types.structs ++ record { tag = tag; content = None } ∷ [])) is ∙ last-empty types.structs tag,
  ap (λ (numbers : List ℕ). is_among number (reverse numbers)) same ∙ ap (λ (n : ℕ). is_among n (reverse begun)) is ∙ new-apart types (reverse begun) still,
)

pub unopened-same : (old new : Held) (number : ℕ) → new.types ≡ old.types → new.begun.items ≡ old.begun.items → IsUnopened old number → IsUnopened new number
unopened-same old new number types begun still = (
  subst (λ (table : Table). number < length table.structs) (sym types) still.0,
  ap (λ (table : Table). members_of table number) types ∙ still.1,
  ap (λ (numbers : List ℕ). is_among number (reverse numbers)) begun ∙ still.2,
)

-- the struct of a declaration that is found
pub struct-begun-later : (held : Held) (later : List Shape) (kind : ℕ) (entry : Declaration) → Begins held.types.shapes later → IsId held.types kind → type_over later kind ≡ entry.kind
    → struct_begun (known_over later held) (Some entry) ≡ option_and_then (may_have_members (seen held)) (number_if_struct (type_of held.types kind))
struct-begun-later held later kind entry begins inside is =
    ap (λ type. option_and_then (may_have_members (seen held)) (number_if_struct type)) (sym is ∙ type-later held.types.shapes later kind begins inside)

may-have : (known : Known) (at number : ℕ) → Some number ≡ may_have_members known at → at ≡ number
may-have known at number h = go (is_some (members_of known.types at) || is_among at known.begun) h
  where
    go : (test : Bool) → Some number ≡ (if test then None else Some at) → at ≡ number
    go true e = absurd (cc)
    go false e = cc

pub struct-of : (known : Known) (type : CType) (number : ℕ) → Some number ≡ option_and_then (may_have_members known) (number_if_struct type) → type ≡ struct number
struct-of known (struct at) number h = ap struct (may-have known at number h)
struct-of known type number h = absurd (cc)

-- ---- what a tag means

-- a declaration is found where its type is
pub by-found : (P : Option Declaration → Type 0) (found : Option Declaration) (kind : CType) → Some kind ≡ type_meant found → ((entry : Declaration) → kind ≡ entry.kind → P (Some entry)) → P found
by-found P None kind e next = absurd (cc)
by-found P (Some entry) kind e next = next entry cc

pub by-nothing : (P : Option Declaration → Type 0) (found : Option Declaration) → None ≡ type_meant found → P None → P found
by-nothing P None e it = it
by-nothing P (Some entry) e it = absurd (cc)

-- the same of numbers of structs
pub by-number : (P : Option ℕ → Type 0) (at : Option ℕ) (number : ℕ) → Some (struct number) ≡ struct_at at → P (Some number) → P at
by-number P None number e it = absurd (cc)
by-number P (Some other) number e it = let same : number ≡ other = cc in subst (λ n. P (Some n)) same it

pub by-no-number : (P : Option ℕ → Type 0) (at : Option ℕ) → None ≡ struct_at at → P None → P at
by-no-number P None e it = it
by-no-number P (Some other) e it = absurd (cc)

-- ---- enumerators

abbrev enumerator : List ℕ → ℤ → CType → Place → Declaration
enumerator name value kind place = record { name = name; sort = EnumeratorSort value; kind = kind; linkage = Absent; place = place }

pub enumerates : (known behind new : Known) (key name spelled : List ℕ) (value given_value : ℤ) (kind type : CType) (place here : Place) → known ≡ behind → key ≡ spelled → name ≡ spelled
    → given_value ≡ value → kind ≡ type → place ≡ here → new ≡ declaring behind key (record { name = name; sort = EnumeratorSort given_value; kind = kind; linkage = Absent; place = place })
    → declaring known spelled (record { name = spelled; sort = EnumeratorSort value; kind = type; linkage = Absent; place = here }) ≡ new
enumerates known behind new key name spelled value given_value kind type place here k key-is name-is value-is kind-is place-is new-is =
    ap (λ x. declaring x spelled (enumerator spelled value type here)) k
    ∙ sym (ap (λ x. declaring behind x (enumerator spelled value type here)) key-is)
    ∙ sym (ap (λ x. declaring behind key (enumerator x value type here)) name-is)
    ∙ sym (ap (λ x. declaring behind key (enumerator name x type here)) value-is)
    ∙ sym (ap (λ x. declaring behind key (enumerator name given_value x here)) kind-is)
    ∙ sym (ap (λ x. declaring behind key (enumerator name given_value kind x)) place-is)
    ∙ sym new-is
