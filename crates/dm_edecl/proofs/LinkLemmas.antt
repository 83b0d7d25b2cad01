-- The types that the declarations of one entry say.
use Rattle.std.specs.Prelude.{◌≡◌, ◌==◌, ℕ, ◌⊎◌, Bool, true, false, if◌then◌else◌, IsTrue, List, [], ◌∷◌, ◌++◌, Option, Some, None, is_some, refl}
use Rattle.std.proofs.Common.{ap, ◌∙◌, subst, inl, inr}
use Rattle.dm_type.specs.Alike.{are_compatible, composite}
use Rattle.dm_type.specs.CTypes.{CType}
use Rattle.dm_tree.specs.Composites.{covers}
use Rattle.dm_typing.specs.Sound.{IsProper}
use Rattle.dm_typing.proofs.ChoiceLemmas.{composite-proper}
use Rattle.dm_typing.proofs.CoverLemmas.{covers-itself, covers-through, covered-compatible, covers-joined, composite-covers}
use Rattle.dm_typing.proofs.KindLemmas.{same-numbers}
use Rattle.dm_edecl.specs.Standing.{Linked}
use Rattle.dm_edecl.specs.Linkages.{composite_with, whole_kind}
use Rattle.dm_edecl.specs.Settled.{IsBound, is_linked, AreProperLinks}

-- ---- bounds

pub bound-through : (more bound : CType) (n : ℕ) (linked : List Linked) → covers more bound ≡ true → IsBound bound n linked → IsBound more n linked
bound-through more bound n [] h b = tt
bound-through more bound n (one ∷ others) h b = ((λ is. covers-through more bound one.kind h (b.0 is)), bound-through more bound n others h b.1)

unlinked-by : (bound : CType) (n : ℕ) (one : Linked) (others : List Linked) (test : Bool) → (one.number == n) ≡ test → (whole_kind n others ≡ None → IsBound bound n others)
    → (if test then Some (composite_with one.kind (whole_kind n others)) else whole_kind n others) ≡ None → IsBound bound n (one ∷ others)
unlinked-by bound n one others true t rest e = absurd (cc)
unlinked-by bound n one others false t rest e = ((λ is. absurd (cc)), rest e)

-- any type bounds what there is none of
pub unlinked-bound : (bound : CType) (n : ℕ) (linked : List Linked) → whole_kind n linked ≡ None → IsBound bound n linked
unlinked-bound bound n [] e = tt
unlinked-bound bound n (one ∷ others) e = unlinked-by bound n one others (one.number == n) refl (unlinked-bound bound n others) e

-- ---- the composite type of all is their bound, and the least

abbrev pub IsWhole : CType → ℕ → List Linked → Option CType → Type 0
IsWhole bound n linked None = Unit {0}
IsWhole bound n linked (Some whole) = IsProper whole × IsTrue (covers bound whole) × IsBound whole n linked

whole-by : (bound : CType) (n : ℕ) (one : Linked) (others : List Linked) (test : Bool) → (one.number == n) ≡ test → IsProper one.kind
    → ((one.number == n) ≡ true → covers bound one.kind ≡ true) → (found : Option CType) → whole_kind n others ≡ found → IsWhole bound n others found
    → IsWhole bound n (one ∷ others) (if test then Some (composite_with one.kind found) else found)
whole-by bound n one others false t p c None e w = tt
whole-by bound n one others false t p c (Some whole) e w = (w.0, w.1, ((λ is. absurd (cc)), w.2))
whole-by bound n one others true t p c None e w = (p, c t, ((λ is. covers-itself one.kind), unlinked-bound one.kind n others e))
whole-by bound n one others true t p c (Some whole) e w =
    let both = composite-covers one.kind whole p (covered-compatible bound one.kind whole (c t) w.1) in (
      composite-proper one.kind whole p w.0,
      covers-joined bound one.kind whole p (c t) w.1,
      ((λ is. both.0), bound-through (composite one.kind whole) whole n others both.1 w.2),
    )

pub whole-of : (bound : CType) (n : ℕ) (linked : List Linked) → AreProperLinks linked → IsBound bound n linked → IsWhole bound n linked (whole_kind n linked)
whole-of bound n [] p b = tt
whole-of bound n (one ∷ others) p b =
    whole-by bound n one others (one.number == n) refl p.0 b.0 (whole_kind n others) refl (whole-of bound n others p.1 b.1)

pub whole-is : (bound : CType) (n : ℕ) (linked : List Linked) (whole : CType) → AreProperLinks linked → IsBound bound n linked → whole_kind n linked ≡ Some whole
    → IsProper whole × IsTrue (covers bound whole) × IsBound whole n linked
whole-is bound n linked whole p b e = subst (IsWhole bound n linked) e (whole-of bound n linked p b)

-- ---- one declaration more

some-if : (test : Bool) (a b : CType) (found other : Option CType) → (is_some found ≡ true → is_some other ≡ true)
    → is_some (if test then Some a else found) ≡ true → is_some (if test then Some b else other) ≡ true
some-if true a b found other f h = refl
some-if false a b found other f h = f h

pub some-then : (test : Bool) (a : CType) (found : Option CType) → is_some found ≡ true → is_some (if test then Some a else found) ≡ true
some-then true a found h = refl
some-then false a found h = h

pub some-now : (test : Bool) (a : CType) (found : Option CType) → test ≡ true → is_some (if test then Some a else found) ≡ true
some-now true a found h = refl
some-now false a found h = absurd (cc)

one-or : (test : Bool) (a : CType) → is_some (if test then Some a else None) ≡ true → test ≡ true
one-or true a h = refl
one-or false a h = absurd (cc)

back-by : {B : Type 0} (test : Bool) (a b : CType) (found other : Option CType) → (is_some other ≡ true → (is_some found ≡ true) ⊎ B)
    → is_some (if test then Some a else other) ≡ true → (is_some (if test then Some b else found) ≡ true) ⊎ B
back-by true a b found other f h = inl refl
back-by false a b found other f h = f h

module _ (x : Linked) where
  pub bound-push : (bound : CType) (n : ℕ) (linked : List Linked) → IsBound bound n linked → ((x.number == n) ≡ true → covers bound x.kind ≡ true)
      → IsBound bound n (linked ++ x ∷ [])
  bound-push bound n [] b c = (c, tt)
  bound-push bound n (one ∷ others) b c = (b.0, bound-push bound n others b.1 c)

  pub bound-front : (bound : CType) (n : ℕ) (linked : List Linked) → IsBound bound n (linked ++ x ∷ []) → IsBound bound n linked
  bound-front bound n [] b = tt
  bound-front bound n (one ∷ others) b = (b.0, bound-front bound n others b.1)

  pub bound-last : (bound : CType) (n : ℕ) (linked : List Linked) → IsBound bound n (linked ++ x ∷ []) → (x.number == n) ≡ true → covers bound x.kind ≡ true
  bound-last bound n [] b = b.0
  bound-last bound n (one ∷ others) b = bound-last bound n others b.1

  pub proper-push : (linked : List Linked) → AreProperLinks linked → IsProper x.kind → AreProperLinks (linked ++ x ∷ [])
  proper-push [] p q = (q, tt)
  proper-push (one ∷ others) p q = (p.0, proper-push others p.1 q)

  pub linked-push : (n : ℕ) (linked : List Linked) → is_linked n linked ≡ true → is_linked n (linked ++ x ∷ []) ≡ true
  linked-push n [] h = absurd (cc)
  linked-push n (one ∷ others) h =
      some-if (one.number == n) (composite_with one.kind (whole_kind n others)) (composite_with one.kind (whole_kind n (others ++ x ∷ []))) (whole_kind n others)
      (whole_kind n (others ++ x ∷ [])) (linked-push n others) h

  pub linked-last : (n : ℕ) (linked : List Linked) → (x.number == n) ≡ true → is_linked n (linked ++ x ∷ []) ≡ true
  linked-last n [] h = some-now (x.number == n) (composite_with x.kind None) None h
  linked-last n (one ∷ others) h =
      some-then (one.number == n) (composite_with one.kind (whole_kind n (others ++ x ∷ []))) (whole_kind n (others ++ x ∷ [])) (linked-last n others h)

  pub linked-back : (n : ℕ) (linked : List Linked) → is_linked n (linked ++ x ∷ []) ≡ true → (is_linked n linked ≡ true) ⊎ ((x.number == n) ≡ true)
  linked-back n [] h = inr (one-or (x.number == n) (composite_with x.kind None) h)
  linked-back n (one ∷ others) h =
      back-by (one.number == n) (composite_with one.kind (whole_kind n (others ++ x ∷ []))) (composite_with one.kind (whole_kind n others)) (whole_kind n others)
      (whole_kind n (others ++ x ∷ [])) (linked-back n others) h

  -- it agrees with the others, so all have a bound
  pub agree-push : (linked : List Linked) → AreProperLinks linked → ((n : ℕ) → (bound : CType) × IsBound bound n linked)
      → ((whole : CType) → whole_kind x.number linked ≡ Some whole → are_compatible whole x.kind ≡ true)
      → (n : ℕ) → (bound : CType) × IsBound bound n (linked ++ x ∷ [])
  agree-push linked p agree fits n = by-number (x.number == n) refl
    where
      with-whole : (found : Option CType) → whole_kind n linked ≡ found → (x.number == n) ≡ true → (bound : CType) × IsBound bound n (linked ++ x ∷ [])
      with-whole None e t = (x.kind, bound-push x.kind n linked (unlinked-bound x.kind n linked e) (λ is. covers-itself x.kind))
      with-whole (Some whole) e t =
          let one = whole-is (agree n).0 n linked whole p (agree n).1 e in
          let both = composite-covers whole x.kind one.0 (fits whole (ap (λ m. whole_kind m linked) (same-numbers x.number n t) ∙ e)) in
          (composite whole x.kind, bound-push (composite whole x.kind) n linked (bound-through (composite whole x.kind) whole n linked both.0 one.2) (λ is. both.1))

      by-number : (test : Bool) → (x.number == n) ≡ test → (bound : CType) × IsBound bound n (linked ++ x ∷ [])
      by-number true t = with-whole (whole_kind n linked) refl t
      by-number false t = ((agree n).0, bound-push (agree n).0 n linked (agree n).1 (λ is. absurd (cc)))
