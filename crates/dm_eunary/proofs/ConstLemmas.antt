-- The search for a const part of an object, and what it finds: each struct that was seen has been looked at or is left, each that is left
-- is inside the type, no deeper than there were steps, and there are no more steps than structs.
use Rattle.std.specs.Prelude.{◌≡◌, ℕ, zero, suc, ◌+◌, ◌-◌, ◌<◌, ◌≤◌, ◌⊎◌, Bool, true, false, ◌||◌, if◌then◌else◌, List, [], ◌∷◌, ◌++◌, length, Option, Some, None, IfSome, slice_index_or, slice_set, replicate, drop, take, All, Contains, refl}
use Rattle.std.proofs.Common.{sym, ap, ◌∙◌, subst, arith, inl, inr, ⊎_elim, length-append}
use Rattle.std.proofs.lemmas.Bool.{or_left, or_right, or_from, or_parts}
use Rattle.std.proofs.lemmas.List.{get_or-set_same, length-set, length-replicate}
use Rattle.std.proofs.lemmas.List.Elements.{All-nil, All-cons, All-head, All-tail, All-push, All-pop, All-weaker, All-more, Contains-push, Contains-push_cases, Contains-append_left}
use Rattle.std.proofs.Math.Seq.{drop-cons}
use Rattle.dm_type.specs.declared.shape.Shape.{Shape}
use Rattle.dm_type.specs.declared.shape.Shape.TheVariants.{Void, Integer, Pointer, Array, Struct, Function, Const}
use Rattle.dm_type.specs.declared.shape.Member.{Member}
use Rattle.dm_type.specs.CTypes.{CType, struct, is_const}
use Rattle.dm_type.specs.TableLaws.{injected}
use Rattle.dm_type.specs.Tables.{Table, type_of, as_is, members_of, IsId}
use Rattle.dm_typing.specs.Conversions.{element, any_member, any_of, members_in, has_const_within, has_const}
use Rattle.dm_eunary.specs.Parts.{has_const_elements, struct_inside, Stage, is_seen, noted, noted_inside, first_stage, all_noted, HasKnownStruct}
use Rattle.dm_typing.specs.Typing.{number_if_struct}
use Rattle.dm_typing.specs.Views.{Begins, table_over}
use Rattle.dm_typing.proofs.CallLemmas.{one-of}
use Rattle.dm_typing.proofs.LaterLemmas.{type-later}

-- what is no Some is None
pub none-from : {A : Type 0} (found : Option A) → ((it : A) → found ≡ Some it → ⊥) → found ≡ None
none-from None never = refl
none-from (Some it) never = absurd (never it refl)

-- ---- types

-- what is no array is its own element
pub element-other : (types : List CType) (shape : Shape) → ((id : ℕ) (count : Option ℕ) → shape ≡ Array id count → ⊥) → element (as_is types shape) ≡ as_is types shape
element-other types Void never = refl
element-other types (Integer kind) never = refl
element-other types (Pointer id) never = refl
element-other types (Array id count) never = absurd (never id count refl)
element-other types (Struct number) never = refl
element-other types (Function result parameters) never = refl
element-other types (Const id) never = refl

is-struct : (type : CType) (n : ℕ) → number_if_struct type ≡ Some n → type ≡ struct n
is-struct (struct m) n h = ap struct (injected m n h)
is-struct type n h = absurd (cc)

-- ---- marks

-- how many aren't marked
abbrev pub unseen : List Bool → ℕ
unseen [] = 0
unseen (true ∷ seen) = unseen seen
unseen (false ∷ seen) = suc (unseen seen)

unseen-within : (seen : List Bool) → unseen seen ≤ length seen
unseen-within [] = omega arith
unseen-within (true ∷ seen) = let h = unseen-within seen in omega (arith, h)
unseen-within (false ∷ seen) = let h = unseen-within seen in omega (arith, h)

unseen-set : (seen : List Bool) (n : ℕ) → n < length seen → is_seen seen n ≡ false → suc (unseen (slice_set seen n true)) ≡ unseen seen
unseen-set [] n inside is = absurd (omega (arith, inside))
unseen-set (true ∷ seen) zero inside is = absurd (cc)
unseen-set (false ∷ seen) zero inside is = refl
unseen-set (true ∷ seen) (suc n) inside is = unseen-set seen n (omega (arith, inside)) is
unseen-set (false ∷ seen) (suc n) inside is = ap suc (unseen-set seen n (omega (arith, inside)) is)

set-keeps : (seen : List Bool) (n m : ℕ) → is_seen seen m ≡ true → is_seen (slice_set seen n true) m ≡ true
set-keeps [] n m h = h
set-keeps (x ∷ seen) zero zero h = refl
set-keeps (x ∷ seen) zero (suc m) h = h
set-keeps (x ∷ seen) (suc n) zero h = h
set-keeps (x ∷ seen) (suc n) (suc m) h = set-keeps seen n m h

set-back : (seen : List Bool) (n m : ℕ) → is_seen (slice_set seen n true) m ≡ true → (m ≡ n) ⊎ (is_seen seen m ≡ true)
set-back [] n m h = inr h
set-back (x ∷ seen) zero zero h = inl refl
set-back (x ∷ seen) zero (suc m) h = inr h
set-back (x ∷ seen) (suc n) zero h = inr h
set-back (x ∷ seen) (suc n) (suc m) h = ⊎_elim (λ e. inl (ap suc e)) (λ t. inr t) (set-back seen n m h)

none-seen : (n m : ℕ) → is_seen (replicate n false) m ≡ false
none-seen zero m = refl
none-seen (suc n) zero = refl
none-seen (suc n) (suc m) = none-seen n m

-- ---- members

any-more : (test other : CType → Bool) (table : Table) → ((type : CType) → test type ≡ true → other type ≡ true) → (members : List Member)
    → any_member test table members ≡ true → any_member other table members ≡ true
any-more test other table more [] h = h
any-more test other table more (member ∷ members) h =
    ⊎_elim (λ first. or_left (other (type_of table member.kind)) (any_member other table members) (more (type_of table member.kind) first))
    (λ rest. or_right (other (type_of table member.kind)) (any_member other table members) (any-more test other table more members rest))
    (one-of (test (type_of table member.kind)) (any_member test table members) h)

any-of-more : (test other : CType → Bool) (table : Table) → ((type : CType) → test type ≡ true → other type ≡ true) → (found : Option (List Member))
    → any_of test table found ≡ true → any_of other table found ≡ true
any-of-more test other table more None h = h
any-of-more test other table more (Some members) h = any-more test other table more members h

any-in : (test : CType → Bool) (table : Table) (members : List Member) (k : ℕ) (d : Member) → k < length members
    → test (type_of table (slice_index_or members k d).kind) ≡ true → any_member test table members ≡ true
any-in test table [] k d inside h = absurd (omega (arith, inside))
any-in test table (member ∷ members) zero d inside h = or_left (test (type_of table member.kind)) (any_member test table members) h
any-in test table (member ∷ members) (suc k) d inside h =
    or_right (test (type_of table member.kind)) (any_member test table members) (any-in test table members k d (omega (arith, inside)) h)

any-none : (test : CType → Bool) (table : Table) (members : List Member) → any_member test table members ≡ false
    → All (λ (member : Member). test (type_of table member.kind) ≡ false) members
any-none test table [] h = All-nil (λ (member : Member). test (type_of table member.kind) ≡ false)
any-none test table (member ∷ members) h =
    let parts = or_parts (test (type_of table member.kind)) (any_member test table members) h in
    All-cons (λ (one : Member). test (type_of table one.kind) ≡ false) member members parts.0 (any-none test table members parts.1)

-- the types of members, whatever numbers come
any-later : (test : CType → Bool) (table : Table) (later : List Shape) → Begins table.shapes later → (members : List Member) → All (λ (member : Member). IsId table member.kind) members
    → any_member test (table_over later table) members ≡ any_member test table members
any-later test table later begins [] ids = refl
any-later test table later begins (member ∷ members) ids =
    ap (λ t. test t || any_member test (table_over later table) members)
    (type-later table.shapes later member.kind begins (All-head (λ (one : Member). IsId table one.kind) member members ids))
    ∙ ap (λ b. test (type_of table member.kind) || b) (any-later test table later begins members (All-tail (λ (one : Member). IsId table one.kind) member members ids))

-- ---- const parts

or-more : (a b c : Bool) → (b ≡ true → c ≡ true) → (a || b) ≡ true → (a || c) ≡ true
or-more true b c more h = refl
or-more false b c more h = more h

within-same : (depth : ℕ) (table : Table) (one other : CType) → element one ≡ element other → has_const_within depth table one ≡ has_const_within depth table other
unfolding has_const_within
within-same zero table one other e = ap is_const e
within-same (suc depth) table one other e = ap (λ t. is_const t || any_of (has_const_within depth table) table (members_in table t)) e

within-more : (depth : ℕ) (table : Table) (type : CType) → has_const_within depth table type ≡ true → has_const_within (suc depth) table type ≡ true
unfolding has_const_within
within-more zero table type h = or_left (is_const (element type)) (any_of (has_const_within zero table) table (members_in table (element type))) h
within-more (suc depth) table type h =
    or-more (is_const (element type)) (any_of (has_const_within depth table) table (members_in table (element type)))
    (any_of (has_const_within (suc depth) table) table (members_in table (element type)))
    (any-of-more (has_const_within depth table) (has_const_within (suc depth) table) table (λ t. within-more depth table t) (members_in table (element type))) h

within-up : (more depth k : ℕ) (table : Table) (type : CType) → k ≡ more + depth → has_const_within depth table type ≡ true → has_const_within k table type ≡ true
within-up zero depth k table type e h = let same : depth ≡ k = omega (arith, e) in subst (λ j. has_const_within j table type ≡ true) same h
within-up (suc more) depth k table type e h =
    let same : suc (more + depth) ≡ k = omega (arith, e) in
    subst (λ j. has_const_within j table type ≡ true) same (within-more (more + depth) table type (within-up more depth (more + depth) table type refl h))

-- of a struct, a member
within-struct : (depth : ℕ) (table : Table) (n : ℕ) → any_of (has_const_within depth table) table (members_of table n) ≡ true → has_const_within (suc depth) table (struct n) ≡ true
unfolding has_const_within
within-struct depth table n h = h

within-members : (table : Table) (found : Option (List Member)) → any_of has_const_elements table found ≡ true → any_of (has_const_within zero table) table found ≡ true
unfolding has_const_within
within-members table found h = any-of-more has_const_elements (has_const_within zero table) table (λ type t. t) found h

-- ---- how deep a struct is

-- if the struct has a const part, the type from which the search starts has one, so many steps deeper
abbrev pub Reach : Table → CType → ℕ → ℕ → Type 0
Reach table start steps n = (later : List Shape) → Begins table.shapes later → (depth k : ℕ) → k ≡ steps + depth
    → has_const_within depth (table_over later table) (struct n) ≡ true → has_const_within k (table_over later table) start ≡ true

reach-first : (table : Table) (start : CType) (n : ℕ) → struct_inside start ≡ Some n → Reach table start 0 n
reach-first table start n is = λ later begins depth k e h.
    let same : depth ≡ k = omega (arith, e) in
    subst (λ j. has_const_within j (table_over later table) start ≡ true) same
    (within-same depth (table_over later table) start (struct n) (is-struct (element start) n is) ∙ h)

reach-more : (table : Table) (start : CType) (steps n : ℕ) → Reach table start steps n → Reach table start (suc steps) n
reach-more table start steps n reach = λ later begins depth k e h. reach later begins (suc depth) k (omega (arith, e)) (within-more depth (table_over later table) (struct n) h)

-- a member of such a struct leads one step deeper
abbrev Leads : Table → CType → ℕ → Member → Type 0
Leads table start steps member = (inner : ℕ) → struct_inside (type_of table member.kind) ≡ Some inner → Reach table start steps inner

leads : (table : Table) (start : CType) (steps number : ℕ) (members : List Member) → members_of table number ≡ Some members → All (λ (member : Member). IsId table member.kind) members
    → Reach table start steps number → All (Leads table start (suc steps)) members
leads table start steps number members is ids reach = λ n d inside inner struct_is later begins depth k e h.
    let member : Member = slice_index_or members n d in
    let over : Table = table_over later table in
    let type : type_of over member.kind ≡ type_of table member.kind = type-later table.shapes later member.kind begins (ids n d inside) in
    let has : has_const_within depth over (type_of over member.kind) ≡ true =
    ap (has_const_within depth over) type ∙ (within-same depth over (type_of table member.kind) (struct inner) (is-struct (element (type_of table member.kind)) inner struct_is) ∙ h) in
    reach later begins (suc depth) k (omega (arith, e))
    (within-struct depth over number (ap (any_of (has_const_within depth over) over) is ∙ any-in (has_const_within depth over) over members n d inside has))

-- a const member of such a struct is a const part
pub const-found : (table : Table) (start : CType) (steps number : ℕ) (members : List Member) → members_of table number ≡ Some members → All (λ (member : Member). IsId table member.kind) members
    → Reach table start steps number → steps < length table.structs → any_member has_const_elements table members ≡ true
    → (later : List Shape) → Begins table.shapes later → has_const (table_over later table) start ≡ true
const-found table start steps number members is ids reach bound has = λ later begins.
    let over : Table = table_over later table in
    let inside : any_of has_const_elements over (members_of over number) ≡ true = ap (any_of has_const_elements over) is ∙ (any-later has_const_elements table later begins members ids ∙ has) in
    within-up (length table.structs - suc steps) (suc steps) (length table.structs) over start (omega (arith, bound))
    (reach later begins 1 (suc steps) (omega arith) (within-struct zero over number (within-members over (members_of over number) inside)))

-- a type that is const is one
within-itself : (table : Table) (type : CType) → has_const_elements type ≡ true → has_const_within zero table type ≡ true
unfolding has_const_within
within-itself table type h = h

pub const-itself : (table : Table) (start : CType) → has_const_elements start ≡ true → has_const table start ≡ true
const-itself table start is = within-up (length table.structs) zero (length table.structs) table start (omega arith) (within-itself table start is)

-- ---- what was seen

-- the struct inside a type, if there is one, is marked
abbrev pub InsideSeen : List Bool → Option ℕ → Type 0
InsideSeen seen None = Unit {0}
InsideSeen seen (Some n) = is_seen seen n ≡ true

-- a member isn't const, and the struct inside it is marked
abbrev Harmless : Table → List Bool → Member → Type 0
Harmless table seen member =
    IsId table member.kind × (has_const_elements (type_of table member.kind) ≡ false) × InsideSeen seen (struct_inside (type_of table member.kind))

abbrev LookedAt : Table → List Bool → Option (List Member) → Type 0
LookedAt table seen None = Unit {0}
LookedAt table seen (Some members) = All (Harmless table seen) members

abbrev Looked : Table → List Bool → ℕ → Type 0
Looked table seen n = LookedAt table seen (members_of table n)

abbrev Keeps : List Bool → List Bool → Type 0
Keeps seen more = (n : ℕ) → is_seen seen n ≡ true → is_seen more n ≡ true

inside-keeps : (seen more : List Bool) → Keeps seen more → (found : Option ℕ) → InsideSeen seen found → InsideSeen more found
inside-keeps seen more keeps None h = tt
inside-keeps seen more keeps (Some n) h = keeps n h

looked-keeps : (table : Table) (seen more : List Bool) → Keeps seen more → (found : Option (List Member)) → LookedAt table seen found → LookedAt table more found
looked-keeps table seen more keeps None h = tt
looked-keeps table seen more keeps (Some members) h =
    λ k d inside. let one = h k d inside in (one.0, one.1, inside-keeps seen more keeps (struct_inside (type_of table (slice_index_or members k d).kind)) one.2)

-- where all that is marked has been looked at, no type is const inside
module _ (table : Table) (later : List Shape) (begins : Begins table.shapes later) (seen : List Bool) (all : (n : ℕ) → is_seen seen n ≡ true → Looked table seen n) where
  abbrev over : Table
  over = table_over later table

  none-of : (test : CType → Bool) → ((type : CType) → has_const_elements type ≡ false → InsideSeen seen (struct_inside type) → test type ≡ false)
      → (members : List Member) → All (Harmless table seen) members → any_member test over members ≡ false
  none-of test ih [] h = refl
  none-of test ih (member ∷ members) h =
      let one = All-head (Harmless table seen) member members h in
      or_from (test (type_of over member.kind)) (any_member test over members)
      (ap test (type-later table.shapes later member.kind begins one.0) ∙ ih (type_of table member.kind) one.1 one.2)
      (none-of test ih members (All-tail (Harmless table seen) member members h))

  none-in : (test : CType → Bool) → ((type : CType) → has_const_elements type ≡ false → InsideSeen seen (struct_inside type) → test type ≡ false)
      → (found : Option (List Member)) → LookedAt table seen found → any_of test over found ≡ false
  none-in test ih None h = refl
  none-in test ih (Some members) h = none-of test ih members h

  none-inside : (test : CType → Bool) → ((type : CType) → has_const_elements type ≡ false → InsideSeen seen (struct_inside type) → test type ≡ false)
      → (type : CType) → InsideSeen seen (number_if_struct type) → any_of test over (members_in over type) ≡ false
  none-inside test ih (struct n) h = none-in test ih (members_of table n) (all n h)
  none-inside test ih type h = refl

  none-within : (depth : ℕ) (type : CType) → has_const_elements type ≡ false → InsideSeen seen (struct_inside type) → has_const_within depth over type ≡ false
  unfolding has_const_within
  none-within zero type plain inside = plain
  none-within (suc depth) type plain inside =
      or_from (is_const (element type)) (any_of (has_const_within depth over) over (members_in over (element type))) plain
      (none-inside (has_const_within depth over) (none-within depth) (element type) inside)

-- ---- the search

-- what holds while structs are noted: `Other` is looked at meanwhile
pub record Open (table : Table) (start : CType) (Other : ℕ → Type 0) (steps : ℕ) (stage : Stage) : Type 0 where
  pub size : length stage.seen ≡ length table.structs
  pub looked : (n : ℕ) → is_seen stage.seen n ≡ true → Contains stage.left n ⊎ (Looked table stage.seen n ⊎ Other n)
  pub reached : All (Reach table start steps) stage.left
  pub inside : All (λ n. n < length table.structs) stage.left

-- what noting does
abbrev Noting : Table → CType → (ℕ → Type 0) → ℕ → Stage → Stage → Type 0
Noting table start Other steps before after =
    Open table start Other steps after
    × (length after.left + unseen after.seen ≡ length before.left + unseen before.seen)
    × Keeps before.seen after.seen

-- whether a struct that is noted was seen before
abbrev noted_if : Stage → ℕ → Bool → Stage
noted_if stage n b = if b then stage else record { seen = slice_set stage.seen n true; left = stage.left ++ n ∷ [] }

module _ (table : Table) (start : CType) (Other : ℕ → Type 0) (steps : ℕ) where
  note-open : (stage : Stage) (n : ℕ) → n < length table.structs → Reach table start steps n → Open table start Other steps stage
      → Noting table start Other steps stage (noted stage n) × (is_seen (noted stage n).seen n ≡ true)
  note-open stage n inside reach state = go (is_seen stage.seen n) refl
    where
      within : n < length stage.seen
      within = let size = state.size in omega (arith, size, inside)

      go : (b : Bool) → is_seen stage.seen n ≡ b → Noting table start Other steps stage (noted_if stage n b) × (is_seen (noted_if stage n b).seen n ≡ true)
      go true h = ((state, refl, λ m t. t), h)
      go false h = (
        (
          record {
            size = length-set stage.seen n true ∙ state.size;
            looked = λ m t.
                ⊎_elim (λ same. inl (subst (Contains (stage.left ++ n ∷ [])) (sym same) (Contains-push stage.left n)))
                (λ old. ⊎_elim (λ left. inl (Contains-append_left stage.left (n ∷ []) m left))
                (λ rest. ⊎_elim (λ done. inr (inl (looked-keeps table stage.seen (slice_set stage.seen n true) (set-keeps stage.seen n) (members_of table m) done))) (λ other. inr (inr other)) rest)
                (state.looked m old))
                (set-back stage.seen n m t);
            reached = All-push (Reach table start steps) stage.left n state.reached reach;
            inside = All-push (λ m. m < length table.structs) stage.left n state.inside inside;
          },
          (let l = length-append stage.left (n ∷ []) in let u = unseen-set stage.seen n within h in omega (arith, l, u)),
          set-keeps stage.seen n,
        ),
        get_or-set_same stage.seen n true false within,
      )

  inside-open : (stage : Stage) (found : Option ℕ) → IfSome found (λ n. n < length table.structs) → ((n : ℕ) → found ≡ Some n → Reach table start steps n) → Open table start Other steps stage
      → Noting table start Other steps stage (noted_inside stage found) × InsideSeen (noted_inside stage found).seen found
  inside-open stage None inside reach state = ((state, refl, λ m t. t), tt)
  inside-open stage (Some n) inside reach state = note-open stage n inside (reach n refl) state

  all-open : (stage : Stage) (members : List Member) → All (λ (member : Member). HasKnownStruct table member.kind) members → All (Leads table start steps) members → Open table start Other steps stage
      → Noting table start Other steps stage (all_noted table stage members)
      × All (λ (member : Member). InsideSeen (all_noted table stage members).seen (struct_inside (type_of table member.kind))) members
  all-open stage [] known leading state = ((state, refl, λ m t. t), All-nil (λ (member : Member). InsideSeen stage.seen (struct_inside (type_of table member.kind))))
  all-open stage (member ∷ members) known leading state =
      let found : Option ℕ = struct_inside (type_of table member.kind) in
      let next : Stage = noted_inside stage found in
      let one = inside-open stage found (All-head (λ (m : Member). HasKnownStruct table m.kind) member members known) (All-head (Leads table start steps) member members leading) state in
      let rest = all-open next members (All-tail (λ (m : Member). HasKnownStruct table m.kind) member members known) (All-tail (Leads table start steps) member members leading) one.0.0 in
      let last : List Bool = (all_noted table next members).seen in (
        (rest.0.0, rest.0.1 ∙ one.0.1, λ m t. rest.0.2 m (one.0.2 m t)),
        All-cons (λ (m : Member). InsideSeen last (struct_inside (type_of table m.kind))) member members (inside-keeps next.seen last rest.0.2 found one.1) rest.1,
      )

-- between two structs
abbrev pub Searching : Table → CType → Stage → Type 0
Searching table start stage =
    (steps : ℕ) × Open table start (λ n. ⊥) steps stage × InsideSeen stage.seen (struct_inside start)
    × (steps + (length stage.left + unseen stage.seen) ≤ length table.structs)

-- the search begins
pub begun : (table : Table) (start : CType) → IfSome (struct_inside start) (λ n. n < length table.structs)
    → Searching table start (first_stage table start)
begun table start inside =
    let marks : List Bool = replicate (length table.structs) false in
    let stage : Stage = record { seen = marks; left = [] } in
    let size : length marks ≡ length table.structs = length-replicate (length table.structs) false in
    let state : Open table start (λ n. ⊥) 0 stage = record {
      size = size;
      looked = λ n t. let none : is_seen marks n ≡ false = none-seen (length table.structs) n in absurd (cc);
      reached = All-nil (Reach table start 0);
      inside = All-nil (λ n. n < length table.structs);
    } in
    let one = inside-open table start (λ n. ⊥) 0 stage (struct_inside start) inside (λ n is. reach-first table start n is) state in
    let count = one.0.1 in
    let least = unseen-within marks in
    (0, one.0.0, one.1, omega (arith, count, least, size))

-- a struct is taken
pub taken : (table : Table) (start : CType) (seen : List Bool) (left all : List ℕ) (number : ℕ) → all ≡ left ++ number ∷ []
    → (searching : Searching table start (record { seen = seen; left = all }))
    → Open table start (λ n. n ≡ number) (suc searching.0) (record { seen = seen; left = left })
    × Reach table start searching.0 number × (number < length table.structs)
    × (suc searching.0 + (length left + unseen seen) ≤ length table.structs)
taken table start seen left all number is searching =
    let state = searching.1 in
    let steps : ℕ = searching.0 in
    let reached = All-pop (Reach table start steps) all left (Some number) is state.reached in
    let inside = All-pop (λ n. n < length table.structs) all left (Some number) is state.inside in
    let l : length all ≡ length (left ++ number ∷ []) = ap length is in
    let m = length-append left (number ∷ []) in
    let bound = searching.3 in (
      record {
        size = state.size;
        looked = λ n t. ⊎_elim (λ in_all. ⊎_elim (λ in_left. inl in_left) (λ same. inr (inr (sym same))) (Contains-push_cases left number n (subst (λ ns. Contains ns n) is in_all)))
            (λ rest. ⊎_elim (λ done. inr (inl done)) (λ never. absurd never) rest) (state.looked n t);
        reached = All-weaker (Reach table start steps) (Reach table start (suc steps)) (λ n. reach-more table start steps n) left reached.0;
        inside = inside.0;
      },
      reached.1,
      inside.1,
      omega (arith, l, m, bound),
    )

-- and has been looked at
pub looked-on : (table : Table) (start : CType) (steps number : ℕ) (stage : Stage) → Open table start (λ n. n ≡ number) steps stage → Looked table stage.seen number
    → Open table start (λ n. ⊥) steps stage
looked-on table start steps number stage state done = record {
  size = state.size;
  looked = λ n t. ⊎_elim (λ left. inl left) (λ rest. inr (inl (⊎_elim (λ old. old) (λ same. subst (Looked table stage.seen) (sym same) done) rest))) (state.looked n t);
  reached = state.reached;
  inside = state.inside;
}

-- a struct whose members aren't known
pub unknown-on : (table : Table) (start : CType) (seen : List Bool) (left all : List ℕ) (number : ℕ) → all ≡ left ++ number ∷ [] → members_of table number ≡ None
    → Searching table start (record { seen = seen; left = all }) → Searching table start (record { seen = seen; left = left })
unknown-on table start seen left all number is none searching =
    let now = taken table start seen left all number is searching in
    let done : Looked table seen number = subst (LookedAt table seen) (sym none) tt in
    (suc searching.0, looked-on table start (suc searching.0) number (record { seen = seen; left = left }) now.0 done, searching.2, now.3)

-- a struct whose members aren't const
pub members-on : (table : Table) (start : CType) (seen : List Bool) (left all : List ℕ) (number : ℕ) (members : List Member) → all ≡ left ++ number ∷ [] → members_of table number ≡ Some members
    → All (λ (member : Member). IsId table member.kind) members → All (λ (member : Member). HasKnownStruct table member.kind) members → any_member has_const_elements table members ≡ false
    → Searching table start (record { seen = seen; left = all }) → Searching table start (all_noted table (record { seen = seen; left = left }) members)
members-on table start seen left all number members is some ids known none searching =
    let steps : ℕ = suc searching.0 in
    let stage : Stage = record { seen = seen; left = left } in
    let now = taken table start seen left all number is searching in
    let next = all-open table start (λ n. n ≡ number) steps stage members known (leads table start searching.0 number members some ids now.1) now.0 in
    let last : Stage = all_noted table stage members in
    let plain = any-none has_const_elements table members none in
    let done : Looked table last.seen number = subst (LookedAt table last.seen) (sym some) (λ k d inside. (ids k d inside, plain k d inside, next.1 k d inside)) in
    let bound = now.3 in
    let count = next.0.1 in
    (steps, looked-on table start steps number last next.0.0 done, inside-keeps seen last.seen next.0.2 (struct_inside start) searching.2, omega (arith, bound, count))

-- and there is one struct less to be looked at or seen
pub fewer-on : (table : Table) (start : CType) (seen : List Bool) (left all : List ℕ) (number : ℕ) (members : List Member) → all ≡ left ++ number ∷ [] → members_of table number ≡ Some members
    → All (λ (member : Member). IsId table member.kind) members → All (λ (member : Member). HasKnownStruct table member.kind) members
    → Searching table start (record { seen = seen; left = all }) → (next : Stage) → next ≡ all_noted table (record { seen = seen; left = left }) members
    → length next.left + unseen next.seen < length all + unseen seen
fewer-on table start seen left all number members is some ids known searching next same =
    let stage : Stage = record { seen = seen; left = left } in
    let now = taken table start seen left all number is searching in
    let count = (all-open table start (λ n. n ≡ number) (suc searching.0) stage members known (leads table start searching.0 number members some ids now.1) now.0).0.1 in
    let l : length all ≡ length (left ++ number ∷ []) = ap length is in
    let m = length-append left (number ∷ []) in
    subst (λ (s : Stage). length s.left + unseen s.seen < length all + unseen seen) (sym same) (omega (arith, count, l, m))

-- a const member is found
pub found-on : (table : Table) (start : CType) (seen : List Bool) (left all : List ℕ) (number : ℕ) (members : List Member) → all ≡ left ++ number ∷ [] → members_of table number ≡ Some members
    → All (λ (member : Member). IsId table member.kind) members → any_member has_const_elements table members ≡ true
    → Searching table start (record { seen = seen; left = all })
    → (later : List Shape) → Begins table.shapes later → has_const (table_over later table) start ≡ true
found-on table start seen left all number members is some ids has searching =
    let now = taken table start seen left all number is searching in
    let bound = now.3 in
    const-found table start searching.0 number members some ids now.1 (omega (arith, bound)) has

-- none is left
pub none-left : (table : Table) (start : CType) (seen : List Bool) → has_const_elements start ≡ false → Searching table start (record { seen = seen; left = [] })
    → (later : List Shape) → Begins table.shapes later → has_const (table_over later table) start ≡ false
none-left table start seen plain searching = λ later begins.
    none-within table later begins seen
    (λ n t. ⊎_elim (λ left. let inside = left.1 in absurd (omega (arith, inside))) (λ rest. ⊎_elim (λ done. done) (λ never. absurd never) rest) (searching.1.looked n t))
    (length table.structs) start plain searching.2

-- ---- one member after another

one-more : (i : ℕ) → suc i ≡ i + 1
one-more i = omega arith

pub any-next : (test : CType → Bool) (table : Table) (members : List Member) (i : ℕ) (member : Member) → i < length members → member ≡ slice_index_or members i member
    → any_member test table (drop i members) ≡ (test (type_of table member.kind) || any_member test table (drop (i + 1) members))
any-next test table members i member inside is =
    ap (any_member test table) (drop-cons members i member inside)
    ∙ ap (λ (one : Member). test (type_of table one.kind) || any_member test table (drop (suc i) members)) (sym is)
    ∙ ap (λ n. test (type_of table member.kind) || any_member test table (drop n members)) (one-more i)

pub noted-next : (table : Table) (stage next : Stage) (members : List Member) (i : ℕ) (member : Member) → i < length members → member ≡ slice_index_or members i member
    → next ≡ noted_inside stage (struct_inside (type_of table member.kind)) → all_noted table next (drop (i + 1) members) ≡ all_noted table stage (drop i members)
noted-next table stage next members i member inside is noting =
    ap (λ n. all_noted table next (drop n members)) (sym (one-more i))
    ∙ ap (λ s. all_noted table s (drop (suc i) members)) noting
    ∙ ap (λ (one : Member). all_noted table (noted_inside stage (struct_inside (type_of table one.kind))) (drop (suc i) members)) is
    ∙ sym (ap (all_noted table stage) (drop-cons members i member inside))

pub known-next : (table : Table) (members : List Member) (i : ℕ) (member : Member) → i < length members → member ≡ slice_index_or members i member → HasKnownStruct table member.kind
    → All (λ (one : Member). HasKnownStruct table one.kind) (take i members) → All (λ (one : Member). HasKnownStruct table one.kind) (take (i + 1) members)
known-next table members i member inside is known all =
    let P : Member → Type 0 = λ one. HasKnownStruct table one.kind in
    All-more P members i member inside all (subst P is known)
