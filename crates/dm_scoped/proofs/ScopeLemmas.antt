-- What the scopes at a place of a unit name: entries that are there, of which the automatic ones pass a test.
use Rattle.std.specs.Prelude.{◌≡◌, ℕ, zero, suc, Bool, true, false, cond, List, [], ◌∷◌, ◌++◌, length, Option, Some, None, slice_get, refl}
use Rattle.std.proofs.Common.{sym, ap, ◌∙◌, subst}
use Rattle.std.proofs.lemmas.Cmp.{nat_list_cmp_total}
use Rattle.std.specs.Cmp.Lexicographic.{slice_cmp}
use Rattle.std.specs.Ordering.{nat_cmp, eq_by_cmp}
use Rattle.std.specs.FinMap as map
use Rattle.dm_type.specs.TableLaws.{injected}
use Rattle.dm_name_map.specs.Numbers.{Numbers}
use Rattle.dm_scope.specs.Scopes.{Scopes, or_else, number_of, declared as declared_in}
use Rattle.dm_meaning.specs.Statements.{is_automatic_sort}
use Rattle.dm_tree.specs.Units.{Declaration}

-- ---- entries

-- all entries are there later, and are what they were, their types apart
unfoldable pub Grown : List Declaration → List Declaration → Type 0
Grown old new = (d : ℕ) (entry : Declaration) → slice_get old d ≡ Some entry → (later : Declaration) × (slice_get new d ≡ Some later) × (later.sort ≡ entry.sort)

pub grown-itself : (declared : List Declaration) → Grown declared declared
unfolding Grown
grown-itself declared d entry e = (entry, e, refl)

pub grown-through : (a b c : List Declaration) → Grown a b → Grown b c → Grown a c
unfolding Grown
grown-through a b c f g d entry e = let one = f d entry e in let two = g d one.0 one.1 in (two.0, two.1, two.2 ∙ one.2)

pub get-front : {A : Type 0} (xs ys : List A) (at : ℕ) (x : A) → slice_get xs at ≡ Some x → slice_get (xs ++ ys) at ≡ Some x
get-front [] ys at x h = absurd (cc)
get-front (first ∷ xs) ys zero x h = h
get-front (first ∷ xs) ys (suc at) x h = get-front xs ys at x h

pub get-last : {A : Type 0} (xs : List A) (x : A) → slice_get (xs ++ x ∷ []) (length xs) ≡ Some x
get-last [] x = refl
get-last (first ∷ xs) x = get-last xs x

pub grown-more : (declared more : List Declaration) → Grown declared (declared ++ more)
unfolding Grown
grown-more declared more d entry e = (entry, get-front declared more d entry e, refl)

-- ---- names

-- an entry is there, and if it is an automatic object, its number passes
pub record Has (declared : List Declaration) (seen : ℕ → Bool) (d : ℕ) : Type 0 where
  pub entry : Declaration
  pub at : slice_get declared d ≡ Some entry
  pub is_seen : is_automatic_sort entry.sort ≡ true → seen d ≡ true

abbrev pub IsWider : (ℕ → Bool) → (ℕ → Bool) → Type 0
IsWider seen more = (d : ℕ) → seen d ≡ true → more d ≡ true

pub has-later : (old new : List Declaration) (seen : ℕ → Bool) (d : ℕ) → Grown old new → Has old seen d → Has new seen d
unfolding Grown
has-later old new seen d grown has =
    let later = grown d has.entry has.at in record {
      entry = later.0;
      at = later.1;
      is_seen = λ is. has.is_seen (ap is_automatic_sort (sym later.2) ∙ is);
    }

pub has-wider : (declared : List Declaration) (seen more : ℕ → Bool) (d : ℕ) → IsWider seen more → Has declared seen d → Has declared more d
has-wider declared seen more d wider has = record { entry = has.entry; at = has.at; is_seen = λ is. wider d (has.is_seen is) }

-- ---- scopes

unfoldable pub SeesIn : List Declaration → (ℕ → Bool) → Numbers → Type 0
SeesIn declared seen scope = (name : List ℕ) (d : ℕ) → map.get scope name ≡ Some d → Has declared seen d

unfoldable pub Sees : List Declaration → (ℕ → Bool) → Scopes → Type 0
Sees declared seen [] = Unit {0}
Sees declared seen (scope ∷ scopes) = SeesIn declared seen scope × Sees declared seen scopes

pub sees-in : (declared : List Declaration) (seen : ℕ → Bool) (scope : Numbers) (scopes : Scopes) → SeesIn declared seen scope → Sees declared seen scopes
    → Sees declared seen (scope ∷ scopes)
unfolding Sees
sees-in declared seen scope scopes h g = (h, g)

pub sees-first : (declared : List Declaration) (seen : ℕ → Bool) (scope : Numbers) (scopes : Scopes) → Sees declared seen (scope ∷ scopes) → SeesIn declared seen scope
unfolding Sees
sees-first declared seen scope scopes h = h.0

abbrev nothing : Numbers
nothing = map.empty

pub empty-sees : (declared : List Declaration) (seen : ℕ → Bool) → SeesIn declared seen map.empty
unfolding SeesIn
empty-sees declared seen name d e = let none : map.get nothing name ≡ None = map.get-empty (slice_cmp nat_cmp) name in absurd (cc)

pub in-changes : (old new : List Declaration) (seen more : ℕ → Bool) (scope : Numbers) → Grown old new → IsWider seen more → SeesIn old seen scope → SeesIn new more scope
unfolding SeesIn
in-changes old new seen more scope grown wider h name d e = has-wider new seen more d wider (has-later old new seen d grown (h name d e))

pub sees-changes : (old new : List Declaration) (seen more : ℕ → Bool) (scopes : Scopes) → Grown old new → IsWider seen more → Sees old seen scopes → Sees new more scopes
unfolding Sees
sees-changes old new seen more [] grown wider h = tt
sees-changes old new seen more (scope ∷ scopes) grown wider h = (in-changes old new seen more scope grown wider h.0, sees-changes old new seen more scopes grown wider h.1)

pub sees-later : (old new : List Declaration) (seen : ℕ → Bool) (scopes : Scopes) → Grown old new → Sees old seen scopes → Sees new seen scopes
sees-later old new seen scopes grown h = sees-changes old new seen seen scopes grown (λ d is. is) h

-- a name means an entry of the scopes
pub found-has : (declared : List Declaration) (seen : ℕ → Bool) (scopes : Scopes) (name : List ℕ) (d : ℕ) → Sees declared seen scopes → number_of scopes name ≡ Some d
    → Has declared seen d
unfolding Sees SeesIn
found-has declared seen [] name d h e = absurd (cc)
found-has declared seen (scope ∷ scopes) name d h e = by-found (λ outside. found-has declared seen scopes name d h.1 outside) (map.get scope name) refl e
  where
    by-found : (number_of scopes name ≡ Some d → Has declared seen d) → (found : Option ℕ) → map.get scope name ≡ found → or_else found (number_of scopes name) ≡ Some d
        → Has declared seen d
    by-found outside None is e = outside e
    by-found outside (Some n) is e = h.0 name d (is ∙ e)

-- one name more
pub in-with : (declared : List Declaration) (seen : ℕ → Bool) (scope : Numbers) (name : List ℕ) (d : ℕ) → SeesIn declared seen scope → Has declared seen d
    → SeesIn declared seen (map.insert scope name d)
unfolding SeesIn
in-with declared seen scope name d h has q n e =
    by-test (eq_by_cmp (slice_cmp nat_cmp) q name) (sym (map.get-insert nat_list_cmp_total scope name d q) ∙ e)
  where
    by-test : (test : Bool) → cond test (Some d) (map.get scope q) ≡ Some n → Has declared seen n
    by-test true e = subst (Has declared seen) (injected d n e) has
    by-test false e = h q n e

pub sees-with : (declared : List Declaration) (seen : ℕ → Bool) (scopes : Scopes) (name : List ℕ) (d : ℕ) → Sees declared seen scopes → Has declared seen d
    → Sees declared seen (declared_in scopes name d)
unfolding Sees
sees-with declared seen [] name d h has = tt
sees-with declared seen (scope ∷ scopes) name d h has = (in-with declared seen scope name d h.0 has, h.1)

pub depth-with : (scopes : Scopes) (name : List ℕ) (d : ℕ) → length (declared_in scopes name d) ≡ length scopes
depth-with [] name d = refl
depth-with (scope ∷ scopes) name d = refl
