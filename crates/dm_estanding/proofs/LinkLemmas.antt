-- One declaration more of what has linkage, summed up.
use Rattle.std.specs.Prelude.{◌≡◌, ◌==◌, ℕ, Bool, true, false, ◌&&◌, ◌||◌, if◌then◌else◌, List, [], ◌∷◌, ◌++◌, Option, Some, None, slice_get, refl}
use Rattle.std.proofs.Common.{sym, ap, ◌∙◌}
use Rattle.dm_type.specs.Alike.{composite}
use Rattle.dm_type.specs.CTypes.{CType}
use Rattle.dm_scope.specs.Scopes.{or_else}
use Rattle.dm_tree.specs.Composites.{covers}
use Rattle.dm_tree.specs.Units.{Declaration}
use Rattle.dm_typing.specs.Sound.{IsProper}
use Rattle.dm_typing.proofs.CoverLemmas.{covered-compatible}
use Rattle.dm_edecl.specs.Standing.{Linked}
use Rattle.dm_edecl.specs.Linkages.{composite_with, whole_kind, is_called, number_linked, is_defined}
use Rattle.dm_edecl.specs.Settled.{IsBound, AreProperLinks}
use Rattle.dm_edecl.proofs.LinkLemmas.{whole-of, IsWhole, bound-front, bound-last}
use Rattle.dm_estanding.proofs.CompositeLemmas.{composite-on}

-- the type of one more declaration joined to that of the others
abbrev pub joined_to : Option CType → CType → CType
joined_to None kind = kind
joined_to (Some whole) kind = composite whole kind

abbrev pub with_one : Bool → CType → Option CType → Option CType
with_one true kind found = Some (joined_to found kind)
with_one false kind found = found

pub proper-front : (linked : List Linked) (x : Linked) → AreProperLinks (linked ++ x ∷ []) → AreProperLinks linked × IsProper x.kind
proper-front [] x p = (tt, p.0)
proper-front (one ∷ others) x p = let rest = proper-front others x p.1 in ((p.0, rest.0), rest.1)

module _ (x : Linked) (n : ℕ) (bound : CType) where
  -- the composite types of the first and the others are joined from either end
  one-by : (one : Linked) (others : List Linked) (same : (one.number == n) ≡ true) → (last : Bool) → (x.number == n) ≡ last → (found : Option CType)
      → IsProper one.kind → IsProper x.kind → covers bound one.kind ≡ true → ((x.number == n) ≡ true → covers bound x.kind ≡ true) → IsWhole bound n others found
      → Some (composite_with one.kind (with_one last x.kind found)) ≡ with_one last x.kind (Some (composite_with one.kind found))
  one-by one others same false t found p q b c w = refl
  one-by one others same true t None p q b c w = refl
  one-by one others same true t (Some whole) p q b c w =
      ap Some (sym (composite-on one.kind whole x.kind p w.0 q (covered-compatible bound one.kind whole b w.1) (covered-compatible bound whole x.kind w.1 (c t))))

  whole-by : (one : Linked) (others : List Linked) (test : Bool) → (one.number == n) ≡ test → (last : Bool) → (x.number == n) ≡ last
      → IsProper one.kind → IsProper x.kind → ((one.number == n) ≡ true → covers bound one.kind ≡ true) → ((x.number == n) ≡ true → covers bound x.kind ≡ true)
      → IsWhole bound n others (whole_kind n others)
      → whole_kind n (others ++ x ∷ []) ≡ with_one last x.kind (whole_kind n others)
      → (if test then Some (composite_with one.kind (whole_kind n (others ++ x ∷ []))) else whole_kind n (others ++ x ∷ []))
      ≡ with_one last x.kind (if test then Some (composite_with one.kind (whole_kind n others)) else whole_kind n others)
  whole-by one others false s last t p q b c w further = further
  whole-by one others true s last t p q b c w further =
      ap (λ found. Some (composite_with one.kind found)) further ∙ one-by one others s last t (whole_kind n others) p q (b s) c w

  -- the composite type of all with one more
  pub whole-push : (linked : List Linked) → AreProperLinks (linked ++ x ∷ []) → IsBound bound n (linked ++ x ∷ [])
      → whole_kind n (linked ++ x ∷ []) ≡ with_one (x.number == n) x.kind (whole_kind n linked)
  whole-push [] p b = alone (x.number == n)
    where
      alone : (test : Bool) → (if test then Some x.kind else None) ≡ with_one test x.kind None
      alone true = refl
      alone false = refl
  whole-push (one ∷ others) p b =
      let front = proper-front others x p.1 in
      whole-by one others (one.number == n) refl (x.number == n) refl p.0 front.1 b.0 (λ is. bound-last x bound n others b.1 is)
      (whole-of bound n others front.0 (bound-front x bound n others b.1)) (whole-push others p.1 b.1)

  -- that of another entry stays
  pub whole-other : (linked : List Linked) → (x.number == n) ≡ false → whole_kind n (linked ++ x ∷ []) ≡ whole_kind n linked
  whole-other [] h = ap (λ test. if test then Some x.kind else None) h
  whole-other (one ∷ others) h = ap (λ found. if one.number == n then Some (composite_with one.kind found) else found) (whole-other others h)

  -- whether one of them is a definition
  pub defined-push : (linked : List Linked) → is_defined n (linked ++ x ∷ []) ≡ (is_defined n linked || (x.defines && (x.number == n)))
  defined-push [] = last (x.defines && (x.number == n))
    where
      last : (test : Bool) → (test || false) ≡ test
      last true = refl
      last false = refl
  defined-push (one ∷ others) = ap (λ more. (one.defines && (one.number == n)) || more) (defined-push others)
      ∙ further (one.defines && (one.number == n)) (is_defined n others) (x.defines && (x.number == n))
    where
      further : (a b c : Bool) → (a || (b || c)) ≡ ((a || b) || c)
      further true b c = refl
      further false b c = refl

-- what has no declarations isn't defined
pub none-defined : (n : ℕ) (linked : List Linked) → whole_kind n linked ≡ None → is_defined n linked ≡ false
none-defined n [] h = refl
none-defined n (one ∷ others) h = go (one.number == n) one.defines h (none-defined n others)
  where
    go : (test defines : Bool) → (if test then Some (composite_with one.kind (whole_kind n others)) else whole_kind n others) ≡ None
        → (whole_kind n others ≡ None → is_defined n others ≡ false) → (defines && test || is_defined n others) ≡ false
    go true defines e further = absurd (cc)
    go false true e further = further e
    go false false e further = further e

-- ---- names

abbrev pub number_if : Bool → ℕ → Option ℕ
number_if true number = Some number
number_if false number = None

-- the first of a name, or else the last
pub number-push : (name : List ℕ) (declared : List Declaration) (x : Linked) (linked : List Linked)
    → number_linked name declared (linked ++ x ∷ []) ≡ or_else (number_linked name declared linked) (number_if (is_called name (slice_get declared x.number)) x.number)
number-push name declared x [] = go (is_called name (slice_get declared x.number))
  where
    go : (test : Bool) → (if test then Some x.number else None) ≡ number_if test x.number
    go true = refl
    go false = refl
number-push name declared x (one ∷ others) = go (is_called name (slice_get declared one.number)) (number-push name declared x others)
  where
    go : (test : Bool)
        → number_linked name declared (others ++ x ∷ []) ≡ or_else (number_linked name declared others) (number_if (is_called name (slice_get declared x.number)) x.number)
        → (if test then Some one.number else number_linked name declared (others ++ x ∷ []))
        ≡ or_else (if test then Some one.number else number_linked name declared others) (number_if (is_called name (slice_get declared x.number)) x.number)
    go true further = refl
    go false further = further
