-- What is known behind a scope.
use Rattle.std.specs.Prelude.{◌≡◌, ℕ, zero, suc, Bool, false, if◌then◌else◌, List, [], ◌∷◌, ◌++◌, length, map, take, drop, reverse, All, Option, Some, None, option_map, slice_get, bytes_eq, refl}
use Rattle.std.proofs.Common.{sym, ap, ap₂, ◌∙◌, subst, append-nil}
use Rattle.std.proofs.lemmas.List.{map-append, length-map, take-map}
use Rattle.std.proofs.lemmas.List.Elements.{All-head, All-tail, All-cons, All-nil}
use Rattle.std.proofs.lemmas.Option.{slice_get-map}
use Rattle.dm_type.specs.declared.shape.Shape.{Shape}
use Rattle.dm_type.specs.declared.shape.Struct.{Struct as StructEntry}
use Rattle.dm_type.specs.Tables.{Table, IsId}
use Rattle.dm_scope.specs.Scopes.{Scopes}
use Rattle.dm_tree.specs.declared.tree.Core.{Core}
use Rattle.dm_tree.specs.declared.unit.Declared.{Declared}
use Rattle.dm_tree.specs.Units.{Declaration}
use Rattle.dm_typing.specs.declared.known.Known.{Known as Held}
use Rattle.dm_typing.specs.Fitting.{HaveTypes}
use Rattle.dm_typing.specs.Known.{Known}
use Rattle.dm_typing.specs.Views.{Begins, view_over, known_over}
use Rattle.dm_edecl.specs.Standing.{Linked, Standing, known_behind}
use Rattle.dm_edecl.specs.Linkages.{is_called, number_linked}
use Rattle.dm_estanding.specs.declared.links.Links.{Links}
use Rattle.dm_estanding.specs.declared.standing.Retyped.{Retyped}
use Rattle.dm_estanding.specs.declared.standing.Standing.{Standing as HeldStanding}
use Rattle.dm_estanding.specs.Kinds.{WereTypes}
use Rattle.dm_estanding.specs.Summaries.{entry_over, Summarises, StandsFor}
use Rattle.dm_estanding.specs.Undoing.{set_kind, undone, IsWithin, Opens}
use Rattle.dm_estanding.proofs.UndoLemmas.{both-parts}

-- ---- lists

map-drop : {A B : Type 0} (f : A → B) (n : ℕ) (xs : List A) → map f (drop n xs) ≡ drop n (map f xs)
map-drop f zero xs = refl
map-drop f (suc n) [] = refl
map-drop f (suc n) (x ∷ xs) = map-drop f n xs

drop-appended : {A : Type 0} (xs ys : List A) → drop (length xs) (xs ++ ys) ≡ ys
drop-appended [] ys = refl
drop-appended (x ∷ xs) ys = drop-appended xs ys

-- ---- names

pub names-set : (number kind : ℕ) (entries : List Declared) → map (λ (entry : Declared). entry.name) (set_kind number kind entries) ≡ map (λ (entry : Declared). entry.name) entries
names-set number kind [] = refl
names-set zero kind (first ∷ entries) = refl
names-set (suc number) kind (first ∷ entries) = ap (λ names. first.name ∷ names) (names-set number kind entries)

names-undone : (changes : List Retyped) (entries : List Declared) → map (λ (entry : Declared). entry.name) (undone changes entries) ≡ map (λ (entry : Declared). entry.name) entries
names-undone [] entries = refl
names-undone (change ∷ changes) entries = names-set change.number change.kind (undone changes entries) ∙ names-undone changes entries

names-behind : (count : ℕ) (changes : List Retyped) (entries : List Declared)
    → map (λ (entry : Declared). entry.name) (take count (undone changes entries) ++ drop count entries) ≡ map (λ (entry : Declared). entry.name) entries
names-behind count changes entries =
    let f : Declared → List ℕ = λ entry. entry.name in
    map-append f (take count (undone changes entries)) (drop count entries)
    ∙ ap₂ (λ a b. a ++ b) (sym (take-map f count (undone changes entries)) ∙ ap (take count) (names-undone changes entries)) (map-drop f count entries)
    ∙ both-parts count (map f entries)

abbrev called_in : List ℕ → Option (List ℕ) → Bool
called_in name None = false
called_in name (Some other) = bytes_eq other name

called-by : (later : List Shape) (name : List ℕ) (found : Option Declared) → is_called name (option_map (entry_over later) found) ≡ called_in name (option_map (λ (entry : Declared). entry.name) found)
called-by later name None = refl
called-by later name (Some entry) = refl

called-at : (later : List Shape) (name : List ℕ) (entries : List Declared) (n : ℕ)
    → is_called name (slice_get (map (entry_over later) entries) n) ≡ called_in name (slice_get (map (λ (entry : Declared). entry.name) entries) n)
called-at later name entries n =
    ap (is_called name) (slice_get-map (entry_over later) entries n) ∙ called-by later name (slice_get entries n)
    ∙ sym (ap (called_in name) (slice_get-map (λ (entry : Declared). entry.name) entries n))

linked-same : (name : List ℕ) (one other : List Declaration) (linked : List Linked) → ((n : ℕ) → is_called name (slice_get one n) ≡ is_called name (slice_get other n))
    → number_linked name one linked ≡ number_linked name other linked
linked-same name one other [] same = refl
linked-same name one other (first ∷ linked) same =
    ap₂ (λ (test : Bool) (rest : Option ℕ). if test then Some first.number else rest) (same first.number) (linked-same name one other linked same)

-- entries with the same names have the same numbers
pub numbers-same-names : (later : List Shape) (name : List ℕ) (one other : List Declared) (linked : List Linked)
    → map (λ (entry : Declared). entry.name) one ≡ map (λ (entry : Declared). entry.name) other
    → number_linked name (map (entry_over later) one) linked ≡ number_linked name (map (entry_over later) other) linked
numbers-same-names later name one other linked same =
    linked-same name (map (entry_over later) one) (map (entry_over later) other) linked
    (λ n. called-at later name one n ∙ ap (λ names. called_in name (slice_get names n)) same ∙ sym (called-at later name other n))

-- ---- types

pub types-set : (types : Table) (number kind : ℕ) (entries : List Declared) → IsId types kind → HaveTypes types entries → HaveTypes types (set_kind number kind entries)
types-set types number kind [] is all = all
types-set types zero kind (first ∷ entries) is all =
    All-cons (λ (entry : Declared). IsId types entry.kind) (record first { kind = kind }) entries is (All-tail (λ (entry : Declared). IsId types entry.kind) first entries all)
types-set types (suc number) kind (first ∷ entries) is all =
    All-cons (λ (entry : Declared). IsId types entry.kind) first (set_kind number kind entries) (All-head (λ (entry : Declared). IsId types entry.kind) first entries all)
    (types-set types number kind entries is (All-tail (λ (entry : Declared). IsId types entry.kind) first entries all))

types-undone : (types : Table) (changes : List Retyped) (entries : List Declared) → WereTypes types changes → HaveTypes types entries → HaveTypes types (undone changes entries)
types-undone types [] entries were all = all
types-undone types (change ∷ changes) entries were all =
    types-set types change.number change.kind (undone changes entries) (All-head (λ (one : Retyped). IsId types one.kind) change changes were)
    (types-undone types changes entries (All-tail (λ (one : Retyped). IsId types one.kind) change changes were) all)

module _ {A : Type 0} (P : A → Type 0) where
  pub all-drop : (n : ℕ) (xs : List A) → All P xs → All P (drop n xs)
  all-drop zero xs all = all
  all-drop (suc n) [] all = all
  all-drop (suc n) (x ∷ xs) all = all-drop n xs (All-tail P x xs all)

  pub all-take : (n : ℕ) (xs : List A) → All P xs → All P (take n xs)
  all-take zero xs all = All-nil P
  all-take (suc n) [] all = all
  all-take (suc n) (x ∷ xs) all = All-cons P x (take n xs) (All-head P x xs all) (all-take n xs (All-tail P x xs all))

  all-both : (xs ys : List A) → All P xs → All P ys → All P (xs ++ ys)
  all-both [] ys one other = other
  all-both (x ∷ xs) ys one other = All-cons P x (xs ++ ys) (All-head P x xs one) (all-both xs ys (All-tail P x xs one) other)

pub types-behind : (types : Table) (count : ℕ) (changes : List Retyped) (entries : List Declared) → WereTypes types changes → HaveTypes types entries
    → HaveTypes types (take count (undone changes entries) ++ drop count entries)
types-behind types count changes entries were all =
    all-both (λ (entry : Declared). IsId types entry.kind) (take count (undone changes entries)) (drop count entries)
    (all-take (λ (entry : Declared). IsId types entry.kind) count (undone changes entries) (types-undone types changes entries were all))
    (all-drop (λ (entry : Declared). IsId types entry.kind) count entries all)

length-names : (one other : List Declared) → map (λ (entry : Declared). entry.name) one ≡ map (λ (entry : Declared). entry.name) other → length one ≡ length other
length-names one other same =
    sym (length-map one (λ (entry : Declared). entry.name)) ∙ ap length same ∙ length-map other (λ (entry : Declared). entry.name)

pub length-behind : (count : ℕ) (changes : List Retyped) (entries : List Declared) → length (take count (undone changes entries) ++ drop count entries) ≡ length entries
length-behind count changes entries = length-names (take count (undone changes entries) ++ drop count entries) entries (names-behind count changes entries)

-- ---- a scope that opens

-- ---- a scope that closes

abbrev put : List Shape → List StructEntry → Scopes → List Declaration → List ℕ → List Core → Known
put later structs scopes declared begun constants = record {
  types = record { shapes = later; structs = structs };
  scopes = scopes;
  declared = declared;
  begun = reverse begun;
  constants = map (view_over later) constants;
}

module _ (later : List Shape) (opened old : HeldStanding) (count mark : ℕ) (within : IsWithin opened old)
    (counted : count ≡ length opened.known.declared) (marked : mark ≡ length opened.retyped.items) (outside inside : Standing)
    (scopes : outside.known.scopes ≡ drop 1 opened.known.scopes)
    (entries : outside.known.declared ≡ map (entry_over later) opened.known.declared)
    (on : Begins old.known.types.shapes later) (stands : StandsFor later old.known old.links inside) where
  changes-are : drop mark old.retyped.items ≡ within.changes
  changes-are = ap (λ n. drop n old.retyped.items) marked ∙ ap (drop (length opened.retyped.items)) within.retyped ∙ drop-appended opened.retyped.items within.changes

  first-are : map (entry_over later) (take count (undone (drop mark old.retyped.items) old.known.declared)) ≡ map (entry_over later) opened.known.declared
  first-are =
      ap (λ changes. map (entry_over later) (take count (undone changes old.known.declared))) changes-are
      ∙ ap (λ n. map (entry_over later) (take n (undone within.changes old.known.declared))) counted ∙ within.entries later on

  abbrev left : List Declared
  left = take count (undone (drop mark old.retyped.items) old.known.declared) ++ drop count old.known.declared

  behind : outside.known.declared ++ drop (length outside.known.declared) (map (entry_over later) old.known.declared) ≡ map (entry_over later) left
  behind =
      let n : length outside.known.declared ≡ count = ap length entries ∙ length-map opened.known.declared (entry_over later) ∙ sym counted in
      ap₂ (λ a b. a ++ b) (entries ∙ sym first-are)
      (ap (λ k. drop k (map (entry_over later) old.known.declared)) n ∙ sym (map-drop (entry_over later) count old.known.declared))
      ∙ sym (map-append (entry_over later) (take count (undone (drop mark old.retyped.items) old.known.declared)) (drop count old.known.declared))

  pub closes : (new : Held) (links : Links) → new.types ≡ old.known.types → new.scopes ≡ drop 1 old.known.scopes → new.declared ≡ left → new.begun.items ≡ old.known.begun.items
      → new.constants ≡ old.known.constants → links ≡ old.links
      → StandsFor later new links (record inside { known = known_behind outside.known inside.known })
  closes new links t s d b k l =
      let known : known_behind outside.known inside.known ≡ known_over later new =
      ap (known_behind outside.known) stands.known
      ∙ ap (λ it. put later old.known.types.structs it (outside.known.declared ++ drop (length outside.known.declared) (map (entry_over later) old.known.declared)) old.known.begun.items old.known.constants)
      (scopes ∙ sym within.scopes ∙ sym s)
      ∙ ap (λ it. put later old.known.types.structs new.scopes it old.known.begun.items old.known.constants) (behind ∙ ap (map (entry_over later)) (sym d))
      ∙ ap (λ (it : Table). put later it.structs new.scopes (map (entry_over later) new.declared) old.known.begun.items old.known.constants) (sym t)
      ∙ ap (λ it. put later new.types.structs new.scopes (map (entry_over later) new.declared) it old.known.constants) (sym b)
      ∙ ap (λ it. put later new.types.structs new.scopes (map (entry_over later) new.declared) new.begun.items it) (sym k) in record {
        known = known;
        links = subst (λ it. Summarises later it (known_behind outside.known inside.known).declared inside.linked) (sym l) (record {
          single = stands.links.single;
          names = λ name.
              ap (λ (it : Known). number_linked name it.declared inside.linked) known
              ∙ ap (λ it. number_linked name (map (entry_over later) it) inside.linked) d
              ∙ numbers-same-names later name left old.known.declared inside.linked (names-behind count (drop mark old.retyped.items) old.known.declared)
              ∙ sym (ap (λ (it : Known). number_linked name it.declared inside.linked) stands.known)
              ∙ stands.links.names name;
          wholes = stands.links.wholes;
        });
      }

pub take-appended : {A : Type 0} (xs ys : List A) → take (length xs) (xs ++ ys) ≡ xs
take-appended [] ys = refl
take-appended (x ∷ xs) ys = ap (λ zs. x ∷ zs) (take-appended xs ys)

-- around the scope all is as before
pub within-closed : (outside opened old new : HeldStanding) (count mark : ℕ) → Opens outside opened → IsWithin opened old → count ≡ length opened.known.declared
    → mark ≡ length opened.retyped.items → new.known.types ≡ old.known.types → new.retyped.items ≡ take mark old.retyped.items → new.known.scopes ≡ drop 1 old.known.scopes
    → new.known.declared ≡ take count (undone (drop mark old.retyped.items) old.known.declared) ++ drop count old.known.declared → IsWithin outside new
within-closed outside opened old new count mark opens within counted marked t r s d =
    let whole = s ∙ within.scopes ∙ sym opens.scopes in record {
      shapes = shapes;
      changes = [];
      retyped =
          r ∙ ap (λ n. take n old.retyped.items) marked ∙ ap (take (length opened.retyped.items)) within.retyped
          ∙ take-appended opened.retyped.items within.changes ∙ opens.retyped ∙ sym (append-nil outside.retyped.items);
      entries = λ later on.
          ap (λ list. map (entry_over later) (take (length outside.known.declared) list)) d
          ∙ ap (λ n. map (entry_over later) (take n (first ++ drop count old.known.declared))) (sym (many later on))
          ∙ ap (map (entry_over later)) (take-appended first (drop count old.known.declared))
          ∙ first-are later on;
      scopes = ap (drop 1) whole;
      depth = ap length whole;
    }
  where
    first : List Declared
    first = take count (undone (drop mark old.retyped.items) old.known.declared)

    shapes : Begins outside.known.types.shapes new.known.types.shapes
    shapes =
        subst (λ (it : Table). Begins it.shapes new.known.types.shapes) opens.types
        (subst (λ (it : Table). Begins opened.known.types.shapes it.shapes) (sym t) within.shapes)

    first-are : (later : List Shape) → Begins new.known.types.shapes later → map (entry_over later) first ≡ map (entry_over later) outside.known.declared
    first-are later on =
        ap (λ changes. map (entry_over later) (take count (undone changes old.known.declared)))
        (ap (λ n. drop n old.retyped.items) marked ∙ ap (drop (length opened.retyped.items)) within.retyped ∙ drop-appended opened.retyped.items within.changes)
        ∙ ap (λ n. map (entry_over later) (take n (undone within.changes old.known.declared))) counted
        ∙ within.entries later (subst (λ (it : Table). Begins it.shapes later) t on)
        ∙ ap (map (entry_over later)) opens.declared

    many : (later : List Shape) → Begins new.known.types.shapes later → length first ≡ length outside.known.declared
    many later on = sym (length-map first (entry_over later)) ∙ ap length (first-are later on) ∙ length-map outside.known.declared (entry_over later)

-- what was known outside is what is known around the scope
pub closes-around : (later : List Shape) (outside opened old : HeldStanding) (new : Held) (links : Links) (count mark : ℕ) → Opens outside opened → IsWithin opened old → count ≡ length opened.known.declared
    → mark ≡ length opened.retyped.items → Begins old.known.types.shapes later → (before inside : Standing) → StandsFor later outside.known outside.links before
    → StandsFor later old.known old.links inside → new.types ≡ old.known.types → new.scopes ≡ drop 1 old.known.scopes
    → new.declared ≡ take count (undone (drop mark old.retyped.items) old.known.declared) ++ drop count old.known.declared → new.begun.items ≡ old.known.begun.items
    → new.constants ≡ old.known.constants → links ≡ old.links
    → StandsFor later new links (record inside { known = known_behind before.known inside.known })
closes-around later outside opened old new links count mark opens within counted marked on before inside stands stands-inside t s d b k l =
    closes later opened old count mark within counted marked before inside
    (ap (λ (it : Known). it.scopes) stands.known ∙ opens.scopes)
    (ap (λ (it : Known). it.declared) stands.known ∙ ap (map (entry_over later)) (sym opens.declared))
    on stands-inside new links t s d b k l
