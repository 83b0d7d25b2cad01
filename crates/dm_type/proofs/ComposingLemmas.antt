-- Composite types step by step.
use Rattle.std.proofs.Common.{◌≡◌, ℕ, suc, ◌+◌, ◌<◌, ◌≤◌, List, [], ◌∷◌, ◌++◌, length, map, reverse, take, drop, get_or, drop-cons, Option, Some, None, if◌then◌else◌, refl, sym, ap, ◌∙◌, subst, arith, min, ◌⊎◌, inl, inr}
use Rattle.std.specs.Prelude.{All, IsSome}
use Rattle.std.specs.Option.{option_and_then}
use Rattle.std.proofs.lemmas.Bool.{le-leb}
use Rattle.std.proofs.lemmas.List.{map-append, reverse-append, length-append, length-map, length-reverse}
use Rattle.std.proofs.lemmas.List.Elements.{All-head, All-tail, All-push}
use Rattle.std.proofs.lemmas.List.Sums.{sum_by-append}
use Rattle.std.proofs.lemmas.Option.{none-some}
use Rattle.std.proofs.Math.ListN.{drop_of_length-le}
use Rattle.std.proofs.Math.Nat.{zero-min, min-zero, suc-min-suc}
use Rattle.std.proofs.Math.Seq.{take-append_seam, drop-append_seam}
use Rattle.dm_type.specs.declared.compose.Step.{Step}
use Rattle.dm_type.specs.declared.compose.Step.TheVariants.{Is, Pointer, Array, Const, Function}
use Rattle.dm_type.specs.CTypes.{CType, CTypes, void, integer, pointer, array, struct, function, const, all_of, more_types, bare, with_const}
use Rattle.dm_type.specs.Tables.{Table, type_of, IsId, Has, Extends}
use Rattle.dm_type.specs.TableLaws.{type_of-kept, id-kept}
use Rattle.dm_type.specs.Alike.{composite, composite_parameters}
use Rattle.dm_type.specs.Writing.{work}
use Rattle.dm_type.specs.Composing.{composed, composites, stacked, grouped, applied, carried_out, IsOver, work_of}

-- a list turned, with one more
pub turned-push : {A B : Type 0} (f : A → B) (xs : List A) (x : A) → reverse (map f (xs ++ x ∷ [])) ≡ f x ∷ reverse (map f xs)
turned-push f xs x = ap reverse (map-append f xs (x ∷ [])) ∙ reverse-append (map f xs) (f x ∷ [])

-- a step that is carried out first
pub carried-push : (table : Table) (steps : List Step) (step : Step) (made more : List CType) → applied table step made ≡ Some more
    → carried_out table (steps ++ step ∷ []) made ≡ carried_out table steps more
carried-push table [] step made more e = e
carried-push table (first ∷ steps) step made more e = ap (option_and_then (applied table first)) (carried-push table steps step made more e)

carried-stuck : (table : Table) (steps : List Step) (step : Step) (made : List CType) → applied table step made ≡ None
    → carried_out table (steps ++ step ∷ []) made ≡ None
carried-stuck table [] step made e = e
carried-stuck table (first ∷ steps) step made e = ap (option_and_then (applied table first)) (carried-stuck table steps step made e)

-- steps that make something have enough to begin with
pub carried-needs : (table : Table) (steps : List Step) (step : Step) (made more : List CType) → carried_out table (steps ++ step ∷ []) made ≡ Some more
    → IsSome (applied table step made)
carried-needs table steps step made more e = go (applied table step made) refl
  where
    go : (o : Option (List CType)) → applied table step made ≡ o → IsSome o
    go None is = absurd (none-some more (sym (carried-stuck table steps step made is) ∙ e))
    go (Some x) is = refl

-- a function type of the types in front
pub grouped-front : (result : CType) (front back : List CType) (count : ℕ) → length front ≡ count
    → grouped result count (front ++ back) ≡ Some (function result (all_of front) ∷ back)
grouped-front result front back count e =
    subst (λ n. grouped result n (front ++ back) ≡ Some (function result (all_of front) ∷ back)) e
    (ap (λ b. if b then Some (function result (all_of (take (length front) (front ++ back))) ∷ drop (length front) (front ++ back)) else None)
    (le-leb (length front) (length (front ++ back)) (let l = length-append front back in omega (arith, l)))
    ∙ ap (λ xs. Some (function result (all_of xs) ∷ drop (length front) (front ++ back))) (take-append_seam front back)
    ∙ ap (λ xs. Some (function result (all_of front) ∷ xs)) (drop-append_seam front back))

-- a larger table keeps the types made
map-kept : (old new : Table) (ids : List ℕ) → Extends old new → All (IsId old) ids → map (type_of new) ids ≡ map (type_of old) ids
map-kept old new [] kept all = refl
map-kept old new (id ∷ ids) kept all =
    ap (λ t. t ∷ map (type_of new) ids) (type_of-kept old new id kept (All-head (IsId old) id ids all))
    ∙ ap (λ ts. type_of old id ∷ ts) (map-kept old new ids kept (All-tail (IsId old) id ids all))

pub all-kept : (old new : Table) (ids : List ℕ) → Extends old new → All (IsId old) ids → All (IsId new) ids
all-kept old new ids kept all = λ k d lt. id-kept old new (get_or ids k d) kept (all k d lt)

-- a type more on top of those that are left
pub stacked-new : (old new : Table) (ids : List ℕ) (id : ℕ) (type : CType) → Extends old new → All (IsId old) ids → Has new id type
    → type ∷ stacked old ids ≡ stacked new (ids ++ id ∷ [])
stacked-new old new ids id type kept all has =
    ap (λ t. t ∷ stacked old ids) (sym has.1)
    ∙ ap (λ ts. type_of new id ∷ reverse ts) (sym (map-kept old new ids kept all))
    ∙ sym (turned-push (type_of new) ids id)

pub all-new : (old new : Table) (ids : List ℕ) (id : ℕ) (type : CType) → Extends old new → All (IsId old) ids → Has new id type
    → All (IsId new) (ids ++ id ∷ [])
all-new old new ids id type kept all has = All-push (IsId new) ids id (all-kept old new ids kept all) has.0

-- a step means the same in a larger table
pub applied-kept : (old new : Table) (step : Step) (made : List CType) → Extends old new → IsOver old step → applied new step made ≡ applied old step made
applied-kept old new (Is id) made kept over = ap (λ t. Some (t ∷ made)) (type_of-kept old new id kept over)
applied-kept old new Pointer [] kept over = refl
applied-kept old new Pointer (type ∷ made) kept over = refl
applied-kept old new (Array length) [] kept over = refl
applied-kept old new (Array length) (type ∷ made) kept over = refl
applied-kept old new Const [] kept over = refl
applied-kept old new Const (type ∷ made) kept over = refl
applied-kept old new (Function count) [] kept over = refl
applied-kept old new (Function count) (type ∷ made) kept over = refl

pub over-kept : (old new : Table) (step : Step) → Extends old new → IsOver old step → IsOver new step
over-kept old new (Is id) kept over = id-kept old new id kept over
over-kept old new Pointer kept over = over
over-kept old new (Array length) kept over = over
over-kept old new Const kept over = over
over-kept old new (Function count) kept over = over

-- ---- what is composed

composite-more : (type other : CType) (types others : CTypes)
    → composite_parameters (more_types type types) (more_types other others) ≡ more_types (composite (bare type) (bare other)) (composite_parameters types others)
composite-more void other types others = refl
composite-more (integer kind) other types others = refl
composite-more (pointer type) other types others = refl
composite-more (array type count) other types others = refl
composite-more (struct number) other types others = refl
composite-more (function result parameters) other types others = refl
composite-more (const type) other types others = refl

pub composite-all : (types others : List CType) → composite_parameters (all_of types) (all_of others) ≡ all_of (composites types others)
composite-all [] [] = refl
composite-all [] (other ∷ others) = refl
composite-all (void ∷ types) [] = refl
composite-all (type ∷ types) [] = refl
composite-all (type ∷ types) (other ∷ others) =
    composite-more type other (all_of types) (all_of others) ∙ ap (λ ts. more_types (composite (bare type) (bare other)) ts) (composite-all types others)

-- the next of both
pub composites-next : {A : Type 0} (f : A → CType) (these those : List A) (k : ℕ) (a b : A) → k < length these → k < length those → a ≡ get_or these k a → b ≡ get_or those k b
    → composites (map f (drop k these)) (map f (drop k those)) ≡ composite (bare (f a)) (bare (f b)) ∷ composites (map f (drop (suc k) these)) (map f (drop (suc k) those))
composites-next f these those k a b first second is_a is_b =
    let cut_a = drop-cons these k a first ∙ ap (λ x. x ∷ drop (suc k) these) (sym is_a) in
    let cut_b = drop-cons those k b second ∙ ap (λ x. x ∷ drop (suc k) those) (sym is_b) in
    ap (λ xs. composites (map f xs) (map f (drop k those))) cut_a ∙ ap (λ xs. composites (map f (a ∷ drop (suc k) these)) (map f xs)) cut_b

composites-nil : (types : List CType) → composites types [] ≡ []
composites-nil [] = refl
composites-nil (type ∷ types) = refl

-- the shorter of the two is at its end
pub composites-end : {A : Type 0} (f : A → CType) (these those : List A) (k : ℕ) → (length these ≤ k) ⊎ (length those ≤ k)
    → composites (map f (drop k these)) (map f (drop k those)) ≡ []
composites-end f these those k (inl le) = ap (λ xs. composites (map f xs) (map f (drop k those))) (drop_of_length-le these le)
composites-end f these those k (inr le) =
    ap (λ xs. composites (map f (drop k these)) (map f xs)) (drop_of_length-le those le) ∙ composites-nil (map f (drop k these))

pub at-end : (m n k : ℕ) → k ≡ min m n → (m ≤ k) ⊎ (n ≤ k)
at-end m n k e = grind (arith, e)

pub both-under : (m n k at : ℕ) → suc k ≡ at → at ≤ min m n → (k < m) × (k < n)
both-under m n k at e le = (grind (arith, e, le), grind (arith, e, le))

pub length-composites : (these those : List CType) → length (composites these those) ≡ min (length these) (length those)
length-composites [] those = sym (zero-min (length those))
length-composites (a ∷ these) [] = sym (min-zero (length (a ∷ these)))
length-composites (a ∷ these) (b ∷ those) = ap suc (length-composites these those) ∙ sym (suc-min-suc (length these) (length those))

-- the const of a type is a part too
pub work-bare : (type : CType) → work (bare type) ≤ work type
work-bare void = omega arith
work-bare (integer kind) = omega arith
work-bare (pointer type) = omega arith
work-bare (array type count) = omega arith
work-bare (struct number) = omega arith
work-bare (function result parameters) = omega arith
work-bare (const type) = omega arith

pub work-push : (table : Table) (pairs : List (ℕ × ℕ)) (pair : ℕ × ℕ) → work_of table (pairs ++ pair ∷ []) ≡ work_of table pairs + work (type_of table pair.0)
work-push table pairs pair = let all = sum_by-append (λ (p : ℕ × ℕ). work (type_of table p.0)) pairs (pair ∷ []) in omega (arith, all)

-- what makes one type is one
pub single-made : (table : Table) (ids : List ℕ) (type : CType) (d : ℕ) → stacked table ids ≡ type ∷ []
    → (0 < length ids) × (stacked table ids ≡ type_of table (get_or ids 0 d) ∷ [])
single-made table [] type d e = absurd (let n : ◌≡◌ {A = ℕ} 0 1 = ap length e in omega (arith, n))
single-made table (id ∷ []) type d e = (omega arith, refl)
single-made table (id ∷ other ∷ ids) type d e =
    absurd (let n : length (stacked table (id ∷ other ∷ ids)) ≡ 1 = ap length e in
    let turned = length-reverse (map (type_of table) (id ∷ other ∷ ids)) in
    let same = length-map ids (type_of table) in omega (arith, n, turned, same))

-- ---- the last step to a composite type

pub composite-of : (one other these those : CType) → one ≡ these → other ≡ those → composite one other ≡ composite these those
composite-of one other these those first second = ap (λ t. composite t other) first ∙ ap (composite these) second

module _ (table : Table) (a b : ℕ) (made rest : List CType) where
  pub last-function : (one other : ℕ) (these those : List ℕ) (count : ℕ)
      → type_of table a ≡ function (type_of table one) (all_of (map (type_of table) these)) → type_of table b ≡ function (type_of table other) (all_of (map (type_of table) those))
      → length (composites (map (type_of table) these) (map (type_of table) those)) ≡ count
      → made ≡ composed table (one, other) ∷ (composites (map (type_of table) these) (map (type_of table) those) ++ rest)
      → applied table (Function count) made ≡ Some (composed table (a, b) ∷ rest)
  last-function one other these those count first second counted is =
      let types : List CType = map (type_of table) these in
      let others : List CType = map (type_of table) those in
      ap (applied table (Function count)) is
      ∙ grouped-front (composed table (one, other)) (composites types others) rest count counted
      ∙ ap (λ ts. Some (function (composed table (one, other)) ts ∷ rest)) (sym (composite-all types others))
      ∙ ap (λ t. Some (t ∷ rest)) (sym (composite-of (type_of table a) (type_of table b) (function (type_of table one) (all_of types)) (function (type_of table other) (all_of others)) first second))

-- ---- the type that a step makes

module _ (old new : Table) (before after : List ℕ) (one id : ℕ) where
  pub makes-pointer : before ≡ after ++ one ∷ [] → Extends old new → All (IsId old) after → Has new id (pointer (type_of old one))
      → applied old Pointer (stacked old before) ≡ Some (stacked new (after ++ id ∷ []))
  makes-pointer is kept all has =
      ap (λ ids. applied old Pointer (stacked old ids)) is
      ∙ ap (applied old Pointer) (turned-push (type_of old) after one)
      ∙ ap Some (stacked-new old new after id (pointer (type_of old one)) kept all has)

  pub makes-array : (length : Option ℕ) → before ≡ after ++ one ∷ [] → Extends old new → All (IsId old) after → Has new id (array (type_of old one) length)
      → applied old (Array length) (stacked old before) ≡ Some (stacked new (after ++ id ∷ []))
  makes-array length is kept all has =
      ap (λ ids. applied old (Array length) (stacked old ids)) is
      ∙ ap (applied old (Array length)) (turned-push (type_of old) after one)
      ∙ ap Some (stacked-new old new after id (array (type_of old one) length) kept all has)

  pub makes-const : before ≡ after ++ one ∷ [] → Extends old new → All (IsId old) after → Has new id (with_const (type_of old one))
      → applied old Const (stacked old before) ≡ Some (stacked new (after ++ id ∷ []))
  makes-const is kept all has =
      ap (λ ids. applied old Const (stacked old ids)) is
      ∙ ap (applied old Const) (turned-push (type_of old) after one)
      ∙ ap Some (stacked-new old new after id (with_const (type_of old one)) kept all has)

  pub makes-function : (middle taken : List ℕ) (count : ℕ) → before ≡ middle ++ one ∷ [] → stacked old middle ≡ map (type_of old) taken ++ stacked old after → length taken ≡ count
      → Extends old new → All (IsId old) after → Has new id (function (type_of old one) (all_of (map (type_of old) taken)))
      → applied old (Function count) (stacked old before) ≡ Some (stacked new (after ++ id ∷ []))
  makes-function middle taken count is split counted kept all has =
      ap (λ ids. applied old (Function count) (stacked old ids)) is
      ∙ ap (applied old (Function count)) (turned-push (type_of old) middle one ∙ ap (λ ts. type_of old one ∷ ts) split)
      ∙ grouped-front (type_of old one) (map (type_of old) taken) (stacked old after) count (length-map taken (type_of old) ∙ counted)
      ∙ ap Some (stacked-new old new after id (function (type_of old one) (all_of (map (type_of old) taken))) kept all has)
