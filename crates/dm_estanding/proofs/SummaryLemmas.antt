-- A summary with one declaration more.
use Rattle.std.specs.Prelude.{◌≡◌, ◌==◌, ℕ, Bool, true, false, ◌&&◌, ◌||◌, not, nat_eq, List, [], ◌∷◌, ◌++◌, Option, Some, None, is_some, IfSome, option_map, slice_get, bytes_eq, refl, Result, Ok}
use Rattle.std.specs.Cmp.Lexicographic.{slice_cmp, texts_ties}
use Rattle.std.specs.Ordering.{nat_cmp, eq_by_cmp}
use Rattle.std.specs.FinMap as finite
use Rattle.std.proofs.Common.{sym, ap, ap₂, ◌∙◌, subst, cond}
use Rattle.std.proofs.lemmas.Cmp.{nat_list_cmp_total}
use Rattle.std.proofs.lemmas.Slice.Eq.{bytes_eq-Decides}
use Rattle.dm_type.specs.declared.shape.Shape.{Shape}
use Rattle.dm_type.specs.Alike.{are_compatible, composite}
use Rattle.dm_type.specs.CTypes.{CType}
use Rattle.dm_type.specs.Tables.{Table, type_of, IsId}
use Rattle.dm_scope.specs.Scopes.{or_else, number_of, is_declared, declared as declared_in}
use Rattle.dm_name_map.specs.Numbers.{Numbers}
use Rattle.dm_tree.specs.Units.{Declaration}
use Rattle.dm_typing.specs.Views.{Begins, type_over}
use Rattle.dm_typing.proofs.CoverLemmas.{covered-compatible}
use Rattle.dm_typing.proofs.KindLemmas.{same-numbers, numbers-same}
use Rattle.dm_typing.proofs.LaterLemmas.{type-later}
use Rattle.dm_edecl.specs.Standing.{Linked}
use Rattle.dm_edecl.specs.Linkages.{whole_kind, is_called, number_linked, is_defined, with_link}
use Rattle.dm_edecl.specs.Settled.{IsBound, AreProperLinks}
use Rattle.dm_edecl.proofs.LinkLemmas.{whole-is, bound-front, bound-last}
use Rattle.dm_estanding.specs.declared.links.Links.{Links}
use Rattle.dm_estanding.specs.declared.links.Whole.{Whole}
use Rattle.dm_estanding.specs.Kinds.{whole_in}
use Rattle.dm_estanding.specs.Summaries.{IsAdded, whole_of, whole_over, Summarises}
use Rattle.dm_estanding.proofs.LinkLemmas.{joined_to, with_one, proper-front, whole-push, whole-other, defined-push, none-defined, number-push, number_if}

-- a test has one answer
pub apart : (test : Bool) → test ≡ true → test ≡ false → ⊥
apart true h e = cc
apart false h e = cc

pub compatible-later : (table : Table) (later : List Shape) (a b : ℕ) → Begins table.shapes later → IsId table a → IsId table b
    → are_compatible (type_over later a) (type_over later b) ≡ are_compatible (type_of table a) (type_of table b)
compatible-later table later a b begins left right =
    ap (λ t. are_compatible t (type_over later b)) (type-later table.shapes later a begins left)
    ∙ ap (are_compatible (type_of table a)) (type-later table.shapes later b begins right)

pub composite-later : (table : Table) (later : List Shape) (a b : ℕ) → Begins table.shapes later → IsId table a → IsId table b
    → composite (type_over later a) (type_over later b) ≡ composite (type_of table a) (type_of table b)
composite-later table later a b begins left right =
    ap (λ t. composite t (type_over later b)) (type-later table.shapes later a begins left)
    ∙ ap (composite (type_of table a)) (type-later table.shapes later b begins right)

-- ---- what the declarations of an entry say together

abbrev said : Option CType → Bool → Option (CType × Bool)
said found defines = option_map (λ kind. (kind, defines)) found

pub said-none : (found : Option CType) (defines : Bool) → said found defines ≡ None → found ≡ None
said-none None defines h = refl
said-none (Some kind) defines h = absurd (cc)

said-some : (found : Option CType) (defines : Bool) (kind : CType) (is : Bool) → said found defines ≡ Some (kind, is) → (found ≡ Some kind) × (defines ≡ is)
said-some None defines kind is h = absurd (cc)
said-some (Some it) defines kind is h = let same = pair-of (it, defines) (kind, is) h in (ap (λ (p : CType × Bool). Some p.0) same, ap (λ (p : CType × Bool). p.1) same)
  where
    pair-of : (one other : CType × Bool) → Some one ≡ Some other → one ≡ other
    pair-of one other e = cc

and-true : (test : Bool) → (test && true) ≡ test
and-true true = refl
and-true false = refl

pub none-said : (number : ℕ) (linked : List Linked) → whole_of number linked ≡ None → is_defined number linked ≡ false
none-said number linked h = none-defined number linked (said-none (whole_kind number linked) (is_defined number linked) h)

module _ (later : List Shape) (linked : List Linked) (number kind : ℕ) (defines : Bool) (bound : CType)
    (proper : AreProperLinks (with_link number (type_over later kind) defines linked))
    (bounds : IsBound bound number (with_link number (type_over later kind) defines linked)) where
  abbrev one : Linked
  one = record { number = number; kind = type_over later kind; defines = defines }

  same : (number == number) ≡ true
  same = numbers-same number number refl

  defined : is_defined number (linked ++ one ∷ []) ≡ (is_defined number linked || defines)
  defined = defined-push one number bound linked ∙ ap (λ test. is_defined number linked || (defines && test)) same ∙ ap (λ test. is_defined number linked || test) (and-true defines)

  whole : whole_kind number (linked ++ one ∷ []) ≡ Some (joined_to (whole_kind number linked) (type_over later kind))
  whole = whole-push one number bound linked proper bounds ∙ ap (λ test. with_one test (type_over later kind) (whole_kind number linked)) same

  pub whole-added : (shapes : List Shape) (old : Option Whole) (made : Whole) → Begins shapes later → IsAdded shapes old kind defines made
      → whole_of number linked ≡ option_map (whole_over later) old → whole_of number (linked ++ one ∷ []) ≡ Some (whole_over later made)
  whole-added shapes None made begins added is =
      let none = said-none (whole_kind number linked) (is_defined number linked) is in
      ap₂ said (whole ∙ ap (λ found. Some (joined_to found (type_over later kind))) none)
      (defined ∙ ap (λ test. test || defines) (none-defined number linked none))
      ∙ sym (ap (λ (it : Whole). Some (whole_over later it)) added.1)
  whole-added shapes (Some old) made begins added is =
      let parts = said-some (whole_kind number linked) (is_defined number linked) (type_over later old.kind) old.defines is in
      let w = whole-is bound number linked (type_over later old.kind) (proper-front linked one proper).0 (bound-front one bound number linked bounds) parts.0 in
      let alike = covered-compatible bound (type_over later old.kind) (type_over later kind) w.1 (bound-last one bound number linked bounds same) in
      ap₂ said
      (whole ∙ ap (λ found. Some (joined_to found (type_over later kind))) parts.0 ∙ ap Some (sym (added.0.1 later begins alike)))
      (defined ∙ ap (λ test. test || defines) parts.1 ∙ sym added.1)

  pub whole-others : (n : ℕ) → (number == n) ≡ false → whole_of n (linked ++ one ∷ []) ≡ whole_of n linked
  whole-others n apart = ap₂ said (whole-other one n bound linked apart) (defined-push one n bound linked ∙ none)
    where
      none : (is_defined n linked || (defines && (number == n))) ≡ is_defined n linked
      none = ap (λ test. is_defined n linked || (defines && test)) apart ∙ go (is_defined n linked) defines
        where
          go : (test other : Bool) → (test || (other && false)) ≡ test
          go true other = refl
          go false true = refl
          go false false = refl

-- ---- names

tied : (one other : List ℕ) → eq_by_cmp (slice_cmp nat_cmp) one other ≡ bytes_eq one other
tied one other = sym (texts_ties one other)

-- the entry is called so, and not otherwise
called-one : (found : Option Declaration) (name other : List ℕ) → is_called name found ≡ true → is_called other found ≡ bytes_eq other name
called-one None name other h = absurd (cc)
called-one (Some entry) name other h =
    let is = (bytes_eq-Decides entry.name name).0 h in
    ap (λ n. bytes_eq n other) is ∙ turned name other
  where
    turned : (a b : List ℕ) → bytes_eq a b ≡ bytes_eq b a
    turned a b = go (bytes_eq a b) (bytes_eq b a) refl refl
      where
        go : (x y : Bool) → bytes_eq a b ≡ x → bytes_eq b a ≡ y → x ≡ y
        go true true e f = refl
        go false false e f = refl
        go true false e f = absurd (apart (bytes_eq b a) ((bytes_eq-Decides b a).1 (sym ((bytes_eq-Decides a b).0 e))) f)
        go false true e f = absurd (apart (bytes_eq a b) ((bytes_eq-Decides a b).1 (sym ((bytes_eq-Decides b a).0 f))) e)

module _ (declared : List Declaration) (linked : List Linked) (x : Linked) (name : List ℕ) (scope : Numbers)
    (names : (other : List ℕ) → number_linked other declared linked ≡ number_of (scope ∷ []) other)
    (called : is_called name (slice_get declared x.number) ≡ true)
    (once : IfSome (number_linked name declared linked) (λ number. number ≡ x.number)) where
  last : (other : List ℕ) → number_linked other declared (linked ++ x ∷ []) ≡ or_else (number_linked other declared linked) (number_if (bytes_eq other name) x.number)
  last other =
      number-push other declared x linked
      ∙ ap (λ test. or_else (number_linked other declared linked) (number_if test x.number)) (called-one (slice_get declared x.number) name other called)

  first-or : (found : Option ℕ) → IfSome found (λ number. number ≡ x.number) → or_else found (Some x.number) ≡ Some x.number
  first-or None h = refl
  first-or (Some number) h = ap Some h

  or-none : (found : Option ℕ) → or_else found None ≡ found
  or-none None = refl
  or-none (Some number) = refl

  named : (other : List ℕ) → other ≡ name → number_linked other declared (linked ++ x ∷ []) ≡ Some x.number
  named other is =
      last other
      ∙ ap (λ test. or_else (number_linked other declared linked) (number_if test x.number)) ((bytes_eq-Decides other name).1 is)
      ∙ first-or (number_linked other declared linked) (subst (λ n. IfSome (number_linked n declared linked) (λ number. number ≡ x.number)) (sym is) once)

  others : (other : List ℕ) → bytes_eq other name ≡ false → number_linked other declared (linked ++ x ∷ []) ≡ number_of (scope ∷ []) other
  others other apart =
      last other ∙ ap (λ test. or_else (number_linked other declared linked) (number_if test x.number)) apart
      ∙ or-none (number_linked other declared linked) ∙ names other

  -- the name is new, or has the number already
  pub names-new : (other : List ℕ) → number_linked other declared (linked ++ x ∷ []) ≡ number_of (declared_in (scope ∷ []) name x.number) other
  names-new other = go (bytes_eq other name) refl
    where
      at : finite.get (finite.insert scope name x.number) other ≡ cond (bytes_eq other name) (Some x.number) (finite.get scope other)
      at = finite.get-insert nat_list_cmp_total scope name x.number other ∙ ap (λ test. cond test (Some x.number) (finite.get scope other)) (tied other name)

      go : (test : Bool) → bytes_eq other name ≡ test → number_linked other declared (linked ++ x ∷ []) ≡ or_else (finite.get (finite.insert scope name x.number) other) None
      go true e = named other ((bytes_eq-Decides other name).0 e) ∙ sym (ap (λ found. or_else found None) (at ∙ ap (λ test. cond test (Some x.number) (finite.get scope other)) e))
      go false e = others other e ∙ sym (ap (λ found. or_else found None) (at ∙ ap (λ test. cond test (Some x.number) (finite.get scope other)) e))

  pub names-again : is_declared (scope ∷ []) name ≡ true → (other : List ℕ) → number_linked other declared (linked ++ x ∷ []) ≡ number_of (scope ∷ []) other
  names-again there other = go (bytes_eq other name) refl
    where
      some-of : (found : Option ℕ) → is_some found ≡ true → (number : ℕ) × (found ≡ Some number)
      some-of None h = absurd (cc)
      some-of (Some number) h = (number, refl)

      it : (number : ℕ) × (finite.get scope name ≡ Some number)
      it = some-of (finite.get scope name) there

      go : (test : Bool) → bytes_eq other name ≡ test → number_linked other declared (linked ++ x ∷ []) ≡ number_of (scope ∷ []) other
      go false e = others other e
      go true e =
          let is = (bytes_eq-Decides other name).0 e in
          let found : number_linked name declared linked ≡ Some it.0 = names name ∙ ap (λ one. or_else one None) it.1 in
          let number : it.0 ≡ x.number = subst (λ one. IfSome one (λ number. number ≡ x.number)) found once in
          named other is ∙ sym (ap (λ n. number_of (scope ∷ []) n) is ∙ ap (λ one. or_else one None) it.1 ∙ ap Some number)

-- ---- all of it

pub summary-added : {E : Type 0} (later : List Shape) (links new : Links) (declared : List Declaration) (linked : List Linked) (name : List ℕ) (number kind : ℕ) (defines : Bool)
    (bound : CType) (is : Bool) (shapes : List Shape) (made : Whole)
    → Summarises later links declared linked
    → is_called name (slice_get declared number) ≡ true
    → IfSome (number_linked name declared linked) (λ other. other ≡ number)
    → AreProperLinks (with_link number (type_over later kind) defines linked)
    → IsBound bound number (with_link number (type_over later kind) defines linked)
    → is ≡ not (is_declared links.names name)
    → (◌≡◌ {A = Result Bool E} (Ok is) (Ok true) → new.names ≡ declared_in links.names name number) → (◌≡◌ {A = Result Bool E} (Ok is) (Ok false) → new.names ≡ links.names)
    → Begins shapes later → IsAdded shapes (whole_in links number) kind defines made
    → ((n : ℕ) → whole_in new n ≡ cond (nat_eq number n) (Some made) (whole_in links n))
    → Summarises later new declared (with_link number (type_over later kind) defines linked)
summary-added {E} later links new declared linked name number kind defines bound is shapes made old called once proper bounds fresh first again begins added updates =
    let it = named is fresh first again in record { single = it.0; names = it.1; wholes = λ n. at n (number == n) refl }
  where
    one : Linked
    one = record { number = number; kind = type_over later kind; defines = defines }

    names : (other : List ℕ) → number_linked other declared linked ≡ number_of (old.single.0 ∷ []) other
    names other = old.names other ∙ ap (λ scopes. number_of scopes other) old.single.1

    turned : (test : Bool) → false ≡ not test → test ≡ true
    turned true h = refl
    turned false h = absurd (cc)

    named : (is : Bool) → is ≡ not (is_declared links.names name)
        → (◌≡◌ {A = Result Bool E} (Ok is) (Ok true) → new.names ≡ declared_in links.names name number) → (◌≡◌ {A = Result Bool E} (Ok is) (Ok false) → new.names ≡ links.names)
        → ((scope : Numbers) × (new.names ≡ scope ∷ [])) × ((other : List ℕ) → number_linked other declared (linked ++ one ∷ []) ≡ number_of new.names other)
    named true fresh first again =
        let is = first refl ∙ ap (λ scopes. declared_in scopes name number) old.single.1 in
        ((finite.insert old.single.0 name number, is), λ other. names-new declared linked one name old.single.0 names called once other ∙ sym (ap (λ scopes. number_of scopes other) is))
    named false fresh first again =
        let is = again refl ∙ old.single.1 in
        let there : is_declared (old.single.0 ∷ []) name ≡ true = ap (λ scopes. is_declared scopes name) (sym old.single.1) ∙ turned (is_declared links.names name) fresh in
        ((old.single.0, is), λ other. names-again declared linked one name old.single.0 names called once there other ∙ sym (ap (λ scopes. number_of scopes other) is))

    at : (n : ℕ) (test : Bool) → (number == n) ≡ test → whole_of n (linked ++ one ∷ []) ≡ option_map (whole_over later) (whole_in new n)
    at n true e =
        subst (λ m. whole_of m (linked ++ one ∷ []) ≡ Some (whole_over later made)) (same-numbers number n e)
        (whole-added later linked number kind defines bound proper bounds shapes (whole_in links number) made begins added (old.wholes number))
        ∙ sym (ap (option_map (whole_over later)) (updates n ∙ ap (λ test. cond test (Some made) (whole_in links n)) e))
    at n false e =
        whole-others later linked number kind defines bound proper bounds n e ∙ old.wholes n
        ∙ sym (ap (option_map (whole_over later)) (updates n ∙ ap (λ test. cond test (Some made) (whole_in links n)) e))
