-- A table stays sound as it grows.
use Rattle.std.proofs.Common.{◌≡◌, ℕ, zero, suc, ◌<◌, ◌≤◌, ◌⊎◌, inl, inr, Bool, true, false, List, [], ◌∷◌, ◌++◌, length, Option, Some, None, slice_get, slice_set, get_or, ◌||◌, Bor, cond, if◌then◌else◌, nat_lt, refl, sym, ap, ◌∙◌, subst, arith, length-append}
use Rattle.std.specs.Prelude.{All, IfSome}
use Rattle.std.specs.List.{list_any, position, position_or_len}
use Rattle.std.specs.Option.{option_and_then, option_copied}
use Rattle.std.proofs.Math.Seq.{get_or-append_seam}
use Rattle.dm_type.specs.CTypes.{CType, void, integer, pointer, array, struct, function, const, with_const}
use Rattle.dm_type.specs.Wraps.{arrayed, IsOwn, IsNoArray}
use Rattle.std.proofs.lemmas.Option.{none-some, slice_get_within, slice_get-get_or}
use Rattle.std.proofs.lemmas.List.Sums.{passes_at_first}
use Rattle.std.proofs.lemmas.List.{get_or_append_left, length-set}
use Rattle.std.proofs.lemmas.Bool.{false≢true, ltb-true}
use Rattle.dm_type.specs.declared.shape.Shape.{Shape}
use Rattle.dm_type.specs.declared.shape.Shape.TheVariants.{Void, Integer, Pointer, Array, Struct, Function, Const}
use Rattle.dm_type.specs.declared.shape.Struct.{Struct as StructEntry}
use Rattle.dm_type.specs.declared.shape.Content.{Content}
use Rattle.dm_type.specs.Tables.{Table, at, types_of, shaped, Has, IsShape, Extends, content_of}
use Rattle.dm_type.specs.Sound.{IsBelow, IsPlain, CanBeConst, IsSound, IsContent}
use Rattle.dm_type.specs.TableLaws.{at-types_of, written_out-same, at-types_of-append, below-more, injected}
use Rattle.dm_type.specs.EqualLaws.{equal, same, itself}

-- what is found in a list with one item more
pub found-push : {A : Type 0} (xs : List A) (x y : A) (k : ℕ) → slice_get (xs ++ x ∷ []) k ≡ Some y → (slice_get xs k ≡ Some y) ⊎ ((k ≡ length xs) × (y ≡ x))
found-push [] x y zero e = inr (refl, sym (injected x y e))
found-push [] x y (suc k) e = absurd (none-some y e)
found-push (z ∷ xs) x y zero e = inl e
found-push (z ∷ xs) x y (suc k) e = elim (found-push xs x y k e) [ inl found ↦ inl found | inr last ↦ inr (ap suc last.0, last.1) ]

-- a shape over a table is made of its numbers
pub is-below : (table : Table) (shape : Shape) → IsShape table shape → IsBelow (length table.shapes) (length table.structs) shape
is-below table Void is = is
is-below table (Integer kind) is = is
is-below table (Pointer id) is = is
is-below table (Array id length) is = is
is-below table (Struct number) is = is
is-below table (Function result parameters) is = is
is-below table (Const id) is = is

pub is-shape : (table : Table) (shape : Shape) → IsBelow (length table.shapes) (length table.structs) shape → IsShape table shape
is-shape table Void is = is
is-shape table (Integer kind) is = is
is-shape table (Pointer id) is = is
is-shape table (Array id length) is = is
is-shape table (Struct number) is = is
is-shape table (Function result parameters) is = is
is-shape table (Const id) is = is

-- with more structs
below-structs : (types less more : ℕ) (shape : Shape) → less ≤ more → IsBelow types less shape → IsBelow types more shape
below-structs types less more Void le below = below
below-structs types less more (Integer kind) le below = below
below-structs types less more (Pointer id) le below = below
below-structs types less more (Array id length) le below = below
below-structs types less more (Struct number) le below = omega (arith, le, below)
below-structs types less more (Function result parameters) le below = below
below-structs types less more (Const id) le below = below

-- with more shapes
plain-more : (shapes more : List Shape) (limit structs : ℕ) (shape : Shape) → limit ≤ length shapes → IsBelow limit structs shape → IsPlain shapes shape → IsPlain (shapes ++ more) shape
plain-more shapes more limit structs Void le below plain = plain
plain-more shapes more limit structs (Integer kind) le below plain = plain
plain-more shapes more limit structs (Pointer id) le below plain = plain
plain-more shapes more limit structs (Array id length) le below plain = plain
plain-more shapes more limit structs (Struct number) le below plain = plain
plain-more shapes more limit structs (Function result parameters) le below plain = plain
plain-more shapes more limit structs (Const id) le below plain =
    subst CanBeConst (sym (get_or_append_left shapes more Void id (omega (arith, le, below)))) plain

-- one more shape, which isn't there yet
pub sound-push : (table : Table) (shape : Shape) → IsSound table → IsShape table shape → IsPlain table.shapes shape
    → ((k : ℕ) → slice_get table.shapes k ≡ Some shape → ⊥) → IsSound (record table { shapes = table.shapes ++ shape ∷ [] })
sound-push table shape sound is plain absent = record {
  below = λ k other found. elim (found-push table.shapes shape other k found) [
    | inl old ↦ sound.below k other old
    | inr last ↦ subst (λ s. IsBelow k (length table.structs) s) (sym last.1) (subst (λ n. IsBelow n (length table.structs) shape) (sym last.0) (is-below table shape is))
  ];
  plain = λ k other found. elim (found-push table.shapes shape other k found) [
    | inl old ↦ plain-more table.shapes (shape ∷ []) k (length table.structs) other (let within = slice_get_within table.shapes k other old in omega (arith, within)) (sound.below k other old) (sound.plain k other old)
    | inr last ↦ subst (λ s. IsPlain (table.shapes ++ shape ∷ []) s) (sym last.1) (plain-more table.shapes (shape ∷ []) (length table.shapes) (length table.structs) shape (omega arith) (is-below table shape is) plain)
  ];
  single = λ j k other first second. elim (found-push table.shapes shape other j first) [
    | inl old ↦ elim (found-push table.shapes shape other k second) [
      | inl too ↦ sound.single j k other old too
      | inr last ↦ absurd (absent j (old ∙ ap Some last.1))
    ]
    | inr one ↦ elim (found-push table.shapes shape other k second) [
      | inl old ↦ absurd (absent k (old ∙ ap Some one.1))
      | inr last ↦ one.0 ∙ sym last.0
    ]
  ];
  contents = λ number content found. let old = sound.contents number content found in
      (λ k d inside. let one = old.0 k d inside in let l = length-append table.shapes (shape ∷ []) in omega (arith, one, l), old.1);
}

-- the type of a shape that has a number
pub has-shape : (old new : Table) (shape : Shape) (id : ℕ) → IsSound new → Extends old new → IsShape old shape → slice_get new.shapes id ≡ Some shape → Has new id (shaped old shape)
has-shape old new shape id sound kept is found = (
  slice_get_within new.shapes id shape found,
  at-types_of new.shapes (length new.structs) id shape found (sound.below id shape found)
      ∙ written_out-same (types_of new.shapes) (types_of old.shapes) (length old.shapes) (length old.structs)
      (λ k lt. ap (λ ss. at (types_of ss) k) kept.0.1 ∙ at-types_of-append old.shapes kept.0.0 k lt) shape (is-below old shape is),
)

or-right : (a b : Bool) → (a || b) ≡ false → b ≡ false
or-right true b e = absurd (false≢true (sym e))
or-right false b e = e

-- a shape that no other equals isn't there
pub absent-shape : (shapes : List Shape) (shape : Shape) → list_any (equal shape) shapes ≡ false → (k : ℕ) → slice_get shapes k ≡ Some shape → ⊥
absent-shape [] shape none k found = none-some shape found
absent-shape (other ∷ shapes) shape none zero found =
    let here : equal shape other ≡ true = ap (equal shape) (injected other shape found) ∙ itself shape in
    false≢true (sym none ∙ ap (λ b. b || list_any (equal shape) shapes) here)
absent-shape (other ∷ shapes) shape none (suc k) found = absent-shape shapes shape (or-right (equal shape other) (list_any (equal shape) shapes) none) k found

pushed-content : (structs : List StructEntry) (tag : Option (List ℕ)) (number : ℕ) (content : Content)
    → option_and_then (λ entry. entry.content) (slice_get (structs ++ record { tag = tag; content = None } ∷ []) number) ≡ Some content
    → option_and_then (λ entry. entry.content) (slice_get structs number) ≡ Some content
pushed-content [] tag zero content found = absurd (none-some content found)
pushed-content [] tag (suc number) content found = absurd (none-some content found)
pushed-content (entry ∷ structs) tag zero content found = found
pushed-content (entry ∷ structs) tag (suc number) content found = pushed-content structs tag number content found

-- one more struct, of which nothing is known
pub sound-struct : (table : Table) (tag : Option (List ℕ)) → IsSound table → IsSound (record table { structs = table.structs ++ record { tag = tag; content = None } ∷ [] })
sound-struct table tag sound = record {
  below = λ k other found. below-structs k (length table.structs) _ other (let l = length-append table.structs (record { tag = tag; content = None } ∷ []) in omega (arith, l)) (sound.below k other found);
  plain = sound.plain;
  single = sound.single;
  contents = λ number content found. sound.contents number content (pushed-content table.structs tag number content found);
}

set-content : (structs : List StructEntry) (number : ℕ) (entry : StructEntry) (k : ℕ) (content : Content)
    → option_and_then (λ one. one.content) (slice_get (slice_set structs number entry) k) ≡ Some content
    → (option_and_then (λ one. one.content) (slice_get structs k) ≡ Some content) ⊎ (entry.content ≡ Some content)
set-content [] number entry k content found = absurd (none-some content found)
set-content (other ∷ structs) zero entry zero content found = inr found
set-content (other ∷ structs) zero entry (suc k) content found = inl found
set-content (other ∷ structs) (suc number) entry zero content found = inl found
set-content (other ∷ structs) (suc number) entry (suc k) content found = set-content structs number entry k content found

-- a struct gets its content
pub sound-content : (table : Table) (number : ℕ) (entry : StructEntry) (content : Content) → IsSound table → entry.content ≡ Some content → IsContent table content
    → IsSound (record table { structs = slice_set table.structs number entry })
sound-content table number entry content sound is fits = record {
  below = λ k other found. subst (λ n. IsBelow k n other) (sym (length-set table.structs number entry)) (sound.below k other found);
  plain = sound.plain;
  single = sound.single;
  contents = λ k other found. elim (set-content table.structs number entry k other found) [
    | inl old ↦ sound.contents k other old
    | inr new ↦ subst (IsContent table) (injected content other (sym is ∙ new)) fits
  ];
}

-- what is known of the shape of a number
pub shape-facts : (table : Table) (id : ℕ) (shape : Shape) → IsSound table → slice_get table.shapes id ≡ Some shape
    → Has table id (shaped table shape) × IsShape table shape × IsBelow id (length table.structs) shape × IsPlain table.shapes shape
shape-facts table id shape sound found =
    let within = slice_get_within table.shapes id shape found in
    let below = sound.below id shape found in (
      (within, at-types_of table.shapes (length table.structs) id shape found below),
      is-shape table shape (below-more id (length table.shapes) (length table.structs) shape (omega (arith, within)) below),
      below,
      sound.plain id shape found,
    )

-- what is known of the content of a struct
pub content-facts : (table : Table) (number : ℕ) (found : Option (Bor Content)) → IsSound table → option_copied found ≡ content_of table number → IfSome found (λ content. IsContent table content.now)
content-facts table number None sound is = tt
content-facts table number (Some content) sound is = sound.contents number content.now (sym is)

-- more lengths
pub arrayed-push : (lengths : List (Option ℕ)) (length : Option ℕ) (type : CType) → arrayed (lengths ++ length ∷ []) type ≡ arrayed lengths (array type length)
arrayed-push [] length type = refl
arrayed-push (other ∷ lengths) length type = ap (λ t. array t other) (arrayed-push lengths length type)

-- the const of an array goes inside
pub arrayed-const : (lengths : List (Option ℕ)) (type : CType) → with_const (arrayed lengths type) ≡ arrayed lengths (with_const type)
arrayed-const [] type = refl
arrayed-const (length ∷ lengths) type = ap (λ t. array t length) (arrayed-const lengths type)

-- a shape that is found by `==` is there
pub found-shape : (shapes : List Shape) (shape : Shape) (k : ℕ) → position (equal shape) shapes ≡ Some k → slice_get shapes k ≡ Some shape
found-shape shapes shape k e = go (nat_lt place (length shapes)) refl e
  where
    place : ℕ
    place = position_or_len (equal shape) shapes

    go : (b : Bool) → nat_lt place (length shapes) ≡ b → cond b (Some place) None ≡ Some k → slice_get shapes k ≡ Some shape
    go true lt is =
        let inside : place < length shapes = ltb-true place (length shapes) lt in
        let found : shape ≡ get_or shapes place Void = same shape (get_or shapes place Void) (passes_at_first (equal shape) shapes Void inside) in
        subst (λ n. slice_get shapes n ≡ Some shape) (injected place k is) (slice_get-get_or shapes place Void inside ∙ ap Some (sym found))
    go false lt is = absurd (none-some k is)

-- a new shape goes last
pub keys-new : (shapes more : List Shape) (shape : Shape) → list_any (equal shape) shapes ≡ false
    → more ≡ (if list_any (equal shape) shapes then shapes else shapes ++ shape ∷ []) → more ≡ shapes ++ shape ∷ []
keys-new shapes more shape new e = e ∙ ap (λ b. cond b shapes (shapes ++ shape ∷ [])) new

-- what is neither an array nor const
pub own-shape : (shape : Shape) → ((id : ℕ) (count : Option ℕ) → shape ≡ Array id count → ⊥) → ((id : ℕ) → shape ≡ Const id → ⊥) → IsOwn shape
own-shape Void no_array no_const = tt
own-shape (Integer kind) no_array no_const = tt
own-shape (Pointer id) no_array no_const = tt
own-shape (Array id count) no_array no_const = absurd (no_array id count refl)
own-shape (Struct number) no_array no_const = tt
own-shape (Function result parameters) no_array no_const = tt
own-shape (Const id) no_array no_const = absurd (no_const id refl)

pub no-array : (shape : Shape) → ((id : ℕ) (count : Option ℕ) → shape ≡ Array id count → ⊥) → IsNoArray shape
no-array Void never = tt
no-array (Integer kind) never = tt
no-array (Pointer id) never = tt
no-array (Array id count) never = absurd (never id count refl)
no-array (Struct number) never = tt
no-array (Function result parameters) never = tt
no-array (Const id) never = tt

pub can-be : (shape : Shape) → IsNoArray shape → ((id : ℕ) → shape ≡ Const id → ⊥) → CanBeConst shape
can-be Void is never = tt
can-be (Integer kind) is never = tt
can-be (Pointer id) is never = tt
can-be (Array id count) is never = is
can-be (Struct number) is never = tt
can-be (Function result parameters) is never = tt
can-be (Const id) is never = never id refl

pub const-twice : (type : CType) → with_const (with_const type) ≡ with_const type
const-twice void = refl
const-twice (integer kind) = refl
const-twice (pointer type) = refl
const-twice (array type count) = ap (λ t. array t count) (const-twice type)
const-twice (struct number) = refl
const-twice (function result parameters) = refl
const-twice (const type) = refl

-- what holds of a list with one item more
pub all-parts : {A : Type 0} (P : A → Type 0) (xs : List A) (x : A) → All P (xs ++ x ∷ []) → All P xs × P x
all-parts P xs x all = (
  λ k d lt. subst P (get_or_append_left xs (x ∷ []) d k lt) (all k d (let l = length-append xs (x ∷ []) in omega (arith, l, lt))),
  subst P (get_or-append_seam xs x [] x) (all (length xs) x (let l = length-append xs (x ∷ []) in omega (arith, l))),
)
