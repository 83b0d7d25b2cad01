-- Names that are kept in one scope, and those that stand in the tokens.
use Rattle.std.specs.Prelude.{◌≡◌, ℕ, zero, suc, ◌+◌, ◌<◌, ◌≤◌, Bool, true, false, ◌||◌, ◌&&◌, not, List, [], ◌∷◌, length, drop, Option, Some, None, is_some, Result, Ok, slice_get, bytes_eq, refl}
use Rattle.std.specs.Cmp.Lexicographic.{slice_cmp, texts_ties}
use Rattle.std.specs.FinMap as finite
use Rattle.std.specs.Ordering.{nat_cmp}
use Rattle.std.proofs.Common.{sym, ap, ap₂, ◌∙◌, subst, cond, drop-cons, drop_of_length-le, add-one, get_or}
use Rattle.std.proofs.lemmas.Cmp.{nat_list_cmp_total}
use Rattle.std.proofs.lemmas.Slice.Eq.{bytes_eq-Decides}
use Rattle.dm_token.specs.declared.token.CToken.{CToken}
use Rattle.dm_scope.specs.Scopes.{Scopes, or_else, number_of, is_declared, declared}
use Rattle.dm_name_map.specs.Numbers.{Numbers}
use Rattle.dm_syn.specs.Sources.{Source, spelling_of_token, spelling_at}
use Rattle.dm_eunit.specs.Lacking.{IsSet, has, is_spelled}

-- ---- one name more

turned : (a b : List ℕ) → bytes_eq a b ≡ bytes_eq b a
turned a b = go (bytes_eq a b) (bytes_eq b a) refl refl
  where
    itself : (c : List ℕ) → bytes_eq c c ≡ true
    itself c = (bytes_eq-Decides c c).1 refl

    go : (x y : Bool) → bytes_eq a b ≡ x → bytes_eq b a ≡ y → x ≡ y
    go true true e f = refl
    go false false e f = refl
    go true false e f = sym (itself b) ∙ ap (bytes_eq b) (sym ((bytes_eq-Decides a b).0 e)) ∙ f
    go false true e f = sym (sym (itself a) ∙ ap (bytes_eq a) (sym ((bytes_eq-Decides b a).0 f)) ∙ e)

has-put : (scope : Numbers) (name other : List ℕ) (number : ℕ) → has (finite.insert scope name number ∷ []) other ≡ (has (scope ∷ []) other || bytes_eq name other)
has-put scope name other number =
    ap (λ found. is_some (or_else found None)) (finite.get-insert nat_list_cmp_total scope name number other)
    ∙ ap (λ test. is_some (or_else (cond test (Some number) (finite.get scope other)) None)) (sym (texts_ties other name) ∙ turned other name)
    ∙ go (bytes_eq name other) (finite.get scope other)
  where
    go : (test : Bool) (found : Option ℕ) → is_some (or_else (cond test (Some number) found) None) ≡ (is_some (or_else found None) || test)
    go true (Some n) = refl
    go true None = refl
    go false (Some n) = refl
    go false None = refl

-- a name that was there
has-already : (names : Scopes) (name other : List ℕ) → is_declared names name ≡ true → has names other ≡ (has names other || bytes_eq name other)
has-already [] name other h = absurd (cc)
has-already (scope ∷ scopes) name other h = go (bytes_eq name other) refl
  where
    there : (found : Option ℕ) → is_some found ≡ true → is_some (or_else found (number_of scopes name)) ≡ true
    there (Some n) e = refl
    there None e = absurd (cc)

    or-false : (x : Bool) → x ≡ (x || false)
    or-false true = refl
    or-false false = refl

    or-true : (x : Bool) → x ≡ true → x ≡ (x || true)
    or-true true e = refl
    or-true false e = e

    go : (test : Bool) → bytes_eq name other ≡ test → has (scope ∷ scopes) other ≡ (has (scope ∷ scopes) other || test)
    go false e = or-false (has (scope ∷ scopes) other)
    go true e = or-true (has (scope ∷ scopes) other) (ap (has (scope ∷ scopes)) (sym ((bytes_eq-Decides name other).0 e)) ∙ there (finite.get scope name) h)

-- what a declaration adds
pub record Adds (old new : Scopes) (name : List ℕ) : Type 0 where
  pub set : IsSet new
  pub has_too : (other : List ℕ) → has new other ≡ (has old other || bytes_eq name other)

pub adds : {E : Type 0} (is : Bool) (old new : Scopes) (name : List ℕ) (number : ℕ) → IsSet old → is ≡ not (is_declared old name)
    → (◌≡◌ {A = Result Bool E} (Ok is) (Ok true) → new ≡ declared old name number)
    → (◌≡◌ {A = Result Bool E} (Ok is) (Ok false) → new ≡ old) → Adds old new name
adds true old new name number set is once twice = record {
  set = (finite.insert set.0 name number, once refl ∙ ap (λ scopes. declared scopes name number) set.1);
  has_too = λ other.
      ap (λ scopes. has scopes other) (once refl ∙ ap (λ scopes. declared scopes name number) set.1) ∙ has-put set.0 name other number
      ∙ ap (λ scopes. has scopes other || bytes_eq name other) (sym set.1);
}
adds false old new name number set is once twice = record {
  set = subst IsSet (sym (twice refl)) set;
  has_too = λ other. ap (λ scopes. has scopes other) (twice refl) ∙ has-already old name other (turned-not (is_declared old name) is);
}
  where
    turned-not : (x : Bool) → false ≡ not x → x ≡ true
    turned-not true e = refl
    turned-not false e = absurd (cc)

-- a name that isn't among others is among these once it is added
pub known-now : (old new others : Scopes) (name : List ℕ) → ((other : List ℕ) → has new other ≡ (has old other || (bytes_eq name other && not (has others other)))) → (has new name || has others name) ≡ true
known-now old new others name added =
    ap (λ test. test || has others name) (added name)
    ∙ ap (λ test. (has old name || (test && not (has others name))) || has others name) ((bytes_eq-Decides name name).1 refl)
    ∙ go (has old name) (has others name)
  where
    go : (x z : Bool) → ((x || not z) || z) ≡ true
    go true z = refl
    go false true = refl
    go false false = refl

-- ---- all names in the tokens

first-name : (e s n : Bool) → ((false || (e && n)) || (s && n)) ≡ ((e || s) && n)
first-name true true true = refl
first-name true true false = refl
first-name true false true = refl
first-name true false false = refl
first-name false s n = refl

next-name : (h x r n : Bool) → ((h || (x && n)) || (r && n)) ≡ (h || ((x || r) && n))
next-name true x r n = refl
next-name false true true true = refl
next-name false true true false = refl
next-name false true false true = refl
next-name false true false false = refl
next-name false false r n = refl

or-nothing : (h : Bool) → (h || false) ≡ h
or-nothing true = refl
or-nothing false = refl

module _ (defined : Scopes) (tokens : List CToken) where
  -- the empty name first
  pub begun : (old new : Scopes) → old ≡ finite.empty ∷ [] → ((other : List ℕ) → has new other ≡ (has old other || (bytes_eq [] other && not (has defined other)))) → (other : List ℕ)
      → (has new other || (is_spelled tokens other && not (has defined other))) ≡ ((bytes_eq [] other || is_spelled tokens other) && not (has defined other))
  begun old new e added other =
      ap (λ h. h || (is_spelled tokens other && not (has defined other)))
      (added other ∙ ap (λ h. h || (bytes_eq [] other && not (has defined other))) (ap (λ scopes. has scopes other) e ∙ ap (λ found. is_some (or_else found None)) (finite.get-empty (slice_cmp nat_cmp) other)))
      ∙ first-name (bytes_eq [] other) (is_spelled tokens other) (not (has defined other))

  -- a token more
  pub gone-on : (n : ℕ) (token : CToken) → n < length tokens → token ≡ get_or tokens n token → (old new : Scopes)
      → ((other : List ℕ) → has new other ≡ (has old other || (bytes_eq token.spelling other && not (has defined other)))) → (other : List ℕ)
      → (has new other || (is_spelled (drop (n + 1) tokens) other && not (has defined other))) ≡ (has old other || (is_spelled (drop n tokens) other && not (has defined other)))
  gone-on n token inside is old new added other =
      ap (λ h. h || (is_spelled (drop (n + 1) tokens) other && not (has defined other))) (added other)
      ∙ next-name (has old other) (bytes_eq token.spelling other) (is_spelled (drop (n + 1) tokens) other) (not (has defined other))
      ∙ ap (λ rest. has old other || (is_spelled rest other && not (has defined other)))
      (sym (drop-cons tokens n token inside ∙ ap₂ (λ (it : CToken) (rest : List CToken). it ∷ rest) (sym is) (ap (λ m. drop m tokens) (sym (add-one n)))))

  -- all of them
  spelled : (source : Source) (at : ℕ) → source.tokens ≡ tokens → (bytes_eq [] (spelling_at source at) || is_spelled tokens (spelling_at source at)) ≡ true
  unfolding spelling_at
  spelled source at same =
      ap (λ (all : List CToken). bytes_eq [] (spelling_of_token (slice_get source.tokens at)) || is_spelled all (spelling_of_token (slice_get source.tokens at))) (sym same)
      ∙ in-list source.tokens at
    where
      or-right : (x y : Bool) → y ≡ true → (x || y) ≡ true
      or-right true y e = refl
      or-right false y e = e

      among : (all : List CToken) (n : ℕ) (token : CToken) → slice_get all n ≡ Some token → is_spelled all token.spelling ≡ true
      among [] n token e = absurd (cc)
      among (first ∷ others) zero token e =
          ap (λ (found : Option CToken). bytes_eq first.spelling (spelling_of_token found) || is_spelled others (spelling_of_token found)) (sym e)
          ∙ ap (λ test. test || is_spelled others first.spelling) ((bytes_eq-Decides first.spelling first.spelling).1 refl)
      among (first ∷ others) (suc n) token e = or-right (bytes_eq first.spelling token.spelling) (is_spelled others token.spelling) (among others n token e)

      go : (all : List CToken) (n : ℕ) (found : Option CToken) → slice_get all n ≡ found → (bytes_eq [] (spelling_of_token found) || is_spelled all (spelling_of_token found)) ≡ true
      go all n (Some token) e = or-right (bytes_eq [] token.spelling) (is_spelled all token.spelling) (among all n token e)
      go all n None e = refl

      in-list : (all : List CToken) (n : ℕ) → (bytes_eq [] (spelling_of_token (slice_get all n)) || is_spelled all (spelling_of_token (slice_get all n))) ≡ true
      in-list all n = go all n (slice_get all n) refl

  pub all-done : (n : ℕ) → length tokens ≤ n → (names : Scopes) (source : Source) → source.tokens ≡ tokens
      → ((other : List ℕ) → (has names other || (is_spelled (drop n tokens) other && not (has defined other))) ≡ ((bytes_eq [] other || is_spelled tokens other) && not (has defined other)))
      → (at : ℕ) → has names (spelling_at source at) ≡ not (has defined (spelling_at source at))
  all-done n past names source same known at =
      sym (or-nothing (has names (spelling_at source at)))
      ∙ ap (λ rest. has names (spelling_at source at) || (is_spelled rest (spelling_at source at) && not (has defined (spelling_at source at)))) (sym (drop_of_length-le tokens past))
      ∙ known (spelling_at source at)
      ∙ ap (λ test. test && not (has defined (spelling_at source at))) (spelled source at same)
