-- The scopes of the typing, in which a tag stands with `#` before it, and those of the names, which have two name spaces.
use Rattle.std.specs.Prelude.{◌≡◌, ℕ, ◌<◌, ◌≤◌, Bool, true, false, cond, List, [], ◌∷◌, Option, Some, None, is_some, refl}
use Rattle.std.specs.Cmp.Lexicographic.{slice_cmp, texts_ties}
use Rattle.std.specs.Ordering.{nat_cmp, eq_by_cmp}
use Rattle.std.specs.FinMap as map
use Rattle.std.proofs.Common.{sym, ap, ◌∙◌, subst, arith}
use Rattle.std.proofs.lemmas.Cmp.{nat_list_cmp_total}
use Rattle.std.proofs.lemmas.Slice.Eq.{bytes_eq-Decides}
use Rattle.dm_type.specs.TableLaws.{injected}
use Rattle.dm_name_map.specs.Numbers.{Numbers}
use Rattle.dm_scope.specs.Scopes as typed
use Rattle.dm_typing.specs.Known.{tag_key}
use Rattle.dm_names.specs.declared.nest.Scope.{Scope}
use Rattle.dm_names.specs.Scopes.{Scopes, nothing_declared, get, meaning_of, is_declared_here, with_name, declared_in, first_of}
use Rattle.dm_names.specs.Seen.{own_scope}
use Rattle.dm_numbered.specs.Numbered.{is_hash}

-- ---- names

-- no name of the tag of another one
abbrev pub IsPlain : List ℕ → Type 0
IsPlain name = is_hash name ≡ false

abbrev tied : List ℕ → List ℕ → Bool
tied one other = eq_by_cmp (slice_cmp nat_cmp) one other

tied-same : (one other : List ℕ) → tied one other ≡ true → one ≡ other
tied-same one other e = (bytes_eq-Decides one other).0 (texts_ties one other ∙ e)

apart : (one other : List ℕ) → (one ≡ other → ⊥) → tied one other ≡ false
apart one other differ = by (tied one other) refl
  where
    by : (test : Bool) → tied one other ≡ test → test ≡ false
    by true e = absurd (differ (tied-same one other e))
    by false e = refl

key-apart : (tag name : List ℕ) → IsPlain name → (tag_key tag ≡ name → ⊥) × (name ≡ tag_key tag → ⊥)
key-apart tag name plain = (λ e. let no = ap is_hash e ∙ plain in absurd (cc), λ e. let no = sym (ap is_hash e) ∙ plain in absurd (cc))

tied-keys : (one other : List ℕ) → tied (tag_key one) (tag_key other) ≡ tied one other
tied-keys one other = sym (texts_ties (tag_key one) (tag_key other)) ∙ texts_ties one other

-- ---- scopes

-- the same names and tags have the same numbers
pub record IsAlike (here : Numbers) (scope : Scope) : Type 0 where
  pub names : (name : List ℕ) → IsPlain name → map.get here name ≡ map.get scope.names name
  pub tags : (name : List ℕ) → map.get here (tag_key name) ≡ map.get scope.tags name

abbrev pub AreAlike : typed.Scopes → Scopes → Type 0
AreAlike [] [] = Unit {0}
AreAlike (here ∷ outer) (scope ∷ others) = IsAlike here scope × AreAlike outer others
AreAlike outer others = ⊥

abbrev nothing : Numbers
nothing = map.empty

pub empty-alike : IsAlike map.empty nothing_declared
empty-alike = record { names = λ name plain. refl; tags = λ name. map.get-empty (slice_cmp nat_cmp) (tag_key name) ∙ sym (map.get-empty (slice_cmp nat_cmp) name) }

pub name-means : (outer : typed.Scopes) (scopes : Scopes) (name : List ℕ) → AreAlike outer scopes → IsPlain name → typed.number_of outer name ≡ meaning_of false name scopes
name-means [] [] name h plain = refl
name-means [] (scope ∷ scopes) name h plain = absurd h
name-means (here ∷ outer) [] name h plain = absurd h
name-means (here ∷ outer) (scope ∷ scopes) name h plain =
    ap (λ found. typed.or_else found (typed.number_of outer name)) (h.0.names name plain) ∙ ap (typed.or_else (map.get scope.names name)) (name-means outer scopes name h.1 plain)

pub tag-means : (outer : typed.Scopes) (scopes : Scopes) (name : List ℕ) → AreAlike outer scopes → typed.number_of outer (tag_key name) ≡ meaning_of true name scopes
tag-means [] [] name h = refl
tag-means [] (scope ∷ scopes) name h = absurd h
tag-means (here ∷ outer) [] name h = absurd h
tag-means (here ∷ outer) (scope ∷ scopes) name h =
    ap (λ found. typed.or_else found (typed.number_of outer (tag_key name))) (h.0.tags name) ∙ ap (typed.or_else (map.get scope.tags name)) (tag-means outer scopes name h.1)

pub tag-here : (outer : typed.Scopes) (scopes : Scopes) (name : List ℕ) → AreAlike outer scopes → typed.is_declared outer (tag_key name) ≡ is_declared_here true name scopes
tag-here [] [] name h = refl
tag-here [] (scope ∷ scopes) name h = absurd h
tag-here (here ∷ outer) [] name h = absurd h
tag-here (here ∷ outer) (scope ∷ scopes) name h = ap is_some (h.0.tags name)

-- a name more, and a tag more
pub declares-name : (outer : typed.Scopes) (scopes : Scopes) (name : List ℕ) (n m : ℕ) → AreAlike outer scopes → IsPlain name → n ≡ m
    → AreAlike (typed.declared outer name n) (declared_in false name m scopes)
declares-name [] [] name n m h plain e = tt
declares-name [] (scope ∷ scopes) name n m h plain e = absurd h
declares-name (here ∷ outer) [] name n m h plain e = absurd h
declares-name (here ∷ outer) (scope ∷ scopes) name n m h plain e = (
  record {
    names = λ other fit.
        map.get-insert nat_list_cmp_total here name n other
        ∙ ap (λ k. cond (tied other name) (Some k) (map.get here other)) e
        ∙ ap (cond (tied other name) (Some m)) (h.0.names other fit)
        ∙ sym (map.get-insert nat_list_cmp_total scope.names name m other);
    tags = λ other.
        map.get-insert nat_list_cmp_total here name n (tag_key other)
        ∙ ap (λ test. cond test (Some n) (map.get here (tag_key other))) (apart (tag_key other) name (key-apart other name plain).0)
        ∙ h.0.tags other;
  },
  h.1,
)

pub declares-tag : (outer : typed.Scopes) (scopes : Scopes) (name : List ℕ) (n m : ℕ) → AreAlike outer scopes → n ≡ m
    → AreAlike (typed.declared outer (tag_key name) n) (declared_in true name m scopes)
declares-tag [] [] name n m h e = tt
declares-tag [] (scope ∷ scopes) name n m h e = absurd h
declares-tag (here ∷ outer) [] name n m h e = absurd h
declares-tag (here ∷ outer) (scope ∷ scopes) name n m h e = (
  record {
    names = λ other fit.
        map.get-insert nat_list_cmp_total here (tag_key name) n other
        ∙ ap (λ test. cond test (Some n) (map.get here other)) (apart other (tag_key name) (key-apart name other fit).1)
        ∙ h.0.names other fit;
    tags = λ other.
        map.get-insert nat_list_cmp_total here (tag_key name) n (tag_key other)
        ∙ ap (λ k. cond (tied (tag_key other) (tag_key name)) (Some k) (map.get here (tag_key other))) e
        ∙ ap (λ test. cond test (Some m) (map.get here (tag_key other))) (tied-keys other name)
        ∙ ap (cond (tied other name) (Some m)) (h.0.tags other)
        ∙ sym (map.get-insert nat_list_cmp_total scope.tags name m other);
  },
  h.1,
)

-- ---- numbers

-- each number is less than this
abbrev pub IsUnder : ℕ → Scope → Type 0
IsUnder n scope = (tag : Bool) (name : List ℕ) (number : ℕ) → get tag name scope ≡ Some number → number < n

abbrev pub AreUnder : ℕ → Scopes → Type 0
AreUnder n [] = Unit {0}
AreUnder n (scope ∷ scopes) = IsUnder n scope × AreUnder n scopes

pub empty-under : (n : ℕ) → IsUnder n nothing_declared
empty-under n true name number e = let none : map.get nothing name ≡ None = map.get-empty (slice_cmp nat_cmp) name in absurd (cc)
empty-under n false name number e = let none : map.get nothing name ≡ None = map.get-empty (slice_cmp nat_cmp) name in absurd (cc)

pub under-wider : (n m : ℕ) (scopes : Scopes) → n ≤ m → AreUnder n scopes → AreUnder m scopes
under-wider n m [] l h = tt
under-wider n m (scope ∷ scopes) l h = (λ tag name number e. let one = h.0 tag name number e in omega (arith, l, one), under-wider n m scopes l h.1)

put-under : (n number : ℕ) (numbers : Numbers) (name other : List ℕ) (found : ℕ) → number < n → (map.get numbers other ≡ Some found → found < n) → map.get (map.insert numbers name number) other ≡ Some found → found < n
put-under n number numbers name other found l h e = by (tied other name) (sym (map.get-insert nat_list_cmp_total numbers name number other) ∙ e)
  where
    by : (test : Bool) → cond test (Some number) (map.get numbers other) ≡ Some found → found < n
    by true e = subst (λ k. k < n) (injected number found e) l
    by false e = h e

name-under : (n : ℕ) (tag : Bool) (name : List ℕ) (number : ℕ) (scope : Scope) → number < n → IsUnder n scope → IsUnder n (with_name tag name number scope)
name-under n true name number scope l h true other found e = put-under n number scope.tags name other found l (h true other found) e
name-under n true name number scope l h false other found e = h false other found e
name-under n false name number scope l h true other found e = h true other found e
name-under n false name number scope l h false other found e = put-under n number scope.names name other found l (h false other found) e

pub under-declared : (n : ℕ) (tag : Bool) (name : List ℕ) (number : ℕ) (scopes : Scopes) → number < n → AreUnder n scopes → AreUnder n (declared_in tag name number scopes)
under-declared n tag name number [] l h = tt
under-declared n tag name number (scope ∷ scopes) l h = (name-under n tag name number scope l h.0, h.1)

pub under-means : (n : ℕ) (tag : Bool) (name : List ℕ) (number : ℕ) (scopes : Scopes) → AreUnder n scopes → meaning_of tag name scopes ≡ Some number → number < n
under-means n tag name number [] h e = absurd (cc)
under-means n tag name number (scope ∷ scopes) h e = by (λ outside. under-means n tag name number scopes h.1 outside) (get tag name scope) refl e
  where
    by : (meaning_of tag name scopes ≡ Some number → number < n) → (found : Option ℕ) → get tag name scope ≡ found → typed.or_else found (meaning_of tag name scopes) ≡ Some number → number < n
    by outside None is e = outside e
    by outside (Some k) is e = h.0 tag name number (is ∙ e)

-- ---- the innermost scope

abbrev pub innermost : typed.Scopes → Numbers
innermost [] = map.empty
innermost (here ∷ outer) = here

pub first-alike : (outer : typed.Scopes) (scopes : Scopes) → AreAlike outer scopes → IsAlike (innermost outer) (own_scope (first_of scopes))
first-alike [] [] h = empty-alike
first-alike [] (scope ∷ scopes) h = absurd h
first-alike (here ∷ outer) [] h = absurd h
first-alike (here ∷ outer) (scope ∷ scopes) h = h.0

pub first-under : (n : ℕ) (scopes : Scopes) → AreUnder n scopes → IsUnder n (own_scope (first_of scopes))
first-under n [] h = empty-under n
first-under n (scope ∷ scopes) h = h.0
