-- Objects of static storage duration, found one after another.
use Rattle.std.proofs.Common.{◌≡◌, ℕ, zero, suc, ◌<◌, ◌==◌, Bool, true, false, ◌⊎◌, inl, inr, if◌then◌else◌, is_some, List, [], ◌∷◌, ◌++◌, map, length, get_or, set, Option, Some, None, option_map, slice_get, Bor, refl, ap, sym, subst, ◌∙◌, arith}
use Rattle.std.specs.List.{All}
use Rattle.std.proofs.lemmas.Bool.{eqb-true, eqb-false, eq-eqb, ne_eqb}
use Rattle.std.proofs.lemmas.List.Elements.{All-push, All-set}
use Rattle.std.proofs.lemmas.Option.{none-some, same_Some, slice_get_within, get_or_from_slice_get}
use Rattle.dm_type.specs.Tables.{Table}
use Rattle.dm_tree.specs.declared.tree.Initial.{Initial}
use Rattle.dm_meaning.specs.Programs as programs
use Rattle.dm_meaning.specs.Statements.{Local}
use Rattle.dm_meaning.specs.Units.{with_initialiser, with_static}
use Rattle.dm_program.specs.declared.fixed.Static.{Static}
use Rattle.dm_program.specs.declared.gathering.Gathering.{Gathering}
use Rattle.dm_program.specs.Placing.{place_in, place_of, declared_at, ArePlaced}
use Rattle.dm_program.specs.Gathering.{IsStaticKnown, local_from, completed, IsAdded}
use Rattle.dm_program.specs.Statics.{view_of_static, static_of}

-- ---- lists

pub set-here : {A : Type 0} (xs : List A) (n : ℕ) (x : A) → n < length xs → slice_get (set xs n x) n ≡ Some x
set-here [] n x h = absurd (omega arith)
set-here (y ∷ xs) zero x h = refl
set-here (y ∷ xs) (suc n) x h = set-here xs n x (omega arith)

pub set-elsewhere : {A : Type 0} (xs : List A) (n d : ℕ) (x : A) → (n ≡ d → ⊥) → slice_get (set xs n x) d ≡ slice_get xs d
set-elsewhere [] n d x h = refl
set-elsewhere (y ∷ xs) zero zero x h = absurd (h refl)
set-elsewhere (y ∷ xs) zero (suc d) x h = refl
set-elsewhere (y ∷ xs) (suc n) zero x h = refl
set-elsewhere (y ∷ xs) (suc n) (suc d) x h = set-elsewhere xs n d x (λ e. h (ap suc e))

last-of : {A : Type 0} (xs : List A) (x : A) → slice_get (xs ++ x ∷ []) (length xs) ≡ Some x
last-of [] x = refl
last-of (y ∷ xs) x = last-of xs x

front-of : {A : Type 0} (xs : List A) (x y : A) (n : ℕ) → slice_get xs n ≡ Some y → slice_get (xs ++ x ∷ []) n ≡ Some y
front-of [] x y n e = absurd (none-some y e)
front-of (z ∷ xs) x y zero e = e
front-of (z ∷ xs) x y (suc n) e = front-of xs x y n e

either-of : {A : Type 0} (xs : List A) (x y : A) (n : ℕ) → slice_get (xs ++ x ∷ []) n ≡ Some y → (slice_get xs n ≡ Some y) ⊎ ((n ≡ length xs) × (x ≡ y))
either-of [] x y zero e = inr (refl, same_Some x y e)
either-of [] x y (suc n) e = absurd (none-some y e)
either-of (z ∷ xs) x y zero e = inl e
either-of (z ∷ xs) x y (suc n) e = elim (either-of xs x y n e) [ inl h ↦ inl h | inr h ↦ inr (ap suc h.0, h.1) ]

-- ---- one object more

view-declared : (table : Table) (declared : ℕ) (initial : Option (Bor Initial)) → (static_of table declared initial).declared ≡ declared
view-declared table declared None = refl
view-declared table declared (Some initial) = refl

module _ (table : Table) where
  abbrev view : Static → programs.Static
  view one = view_of_static table one

  -- with the initialiser, if there is one
  with-one : (x : Static) (number : ℕ) (initial : Option (Bor Initial)) → with_initialiser (view x) (local_from (static_of table number initial)) ≡ view (completed x initial)
  with-one x number None = refl
  with-one x number (Some initial) = ap (λ d. record { declared = d; initialiser = (static_of table number (Some initial)).initialiser; expressions = (static_of table number (Some initial)).expressions }) (view-declared table x.declared x.initial)

  abbrev step : programs.Static → Local → List programs.Static → Bool → List programs.Static
  step first local rest test = if test then with_initialiser first local ∷ rest else first ∷ with_static local rest

  pub static-completed : (statics : List Static) (at number : ℕ) (initial : Option (Bor Initial)) (one : Static) → slice_get statics at ≡ Some one → one.declared ≡ number
      → ((n : ℕ) (x : Static) → slice_get statics n ≡ Some x → x.declared ≡ number → n ≡ at)
      → map view (set statics at (completed one initial)) ≡ with_static (local_from (static_of table number initial)) (map view statics)
  static-completed [] at number initial one e is only = absurd (none-some one e)
  static-completed (x ∷ statics) zero number initial one e is only =
      let same = same_Some x one e in
      let local = local_from (static_of table number initial) in
      let test : ((view x).declared == local.declarator.declared) ≡ true =
      eq-eqb (view x).declared local.declarator.declared (view-declared table x.declared x.initial ∙ (ap (λ (s : Static). s.declared) same ∙ is) ∙ sym (view-declared table number initial)) in
      ap (λ (s : Static). view (completed s initial) ∷ map view statics) (sym same) ∙ ap (λ first. first ∷ map view statics) (sym (with-one x number initial)) ∙ ap (step (view x) local (map view statics)) (sym test)
  static-completed (x ∷ statics) (suc at) number initial one e is only =
      let local = local_from (static_of table number initial) in
      let test : ((view x).declared == local.declarator.declared) ≡ false =
      ne_eqb (view x).declared local.declarator.declared
      (λ same. let zero_at : zero ≡ suc at = only zero x refl (sym (view-declared table x.declared x.initial) ∙ same ∙ view-declared table number initial) in cc) in
      ap (λ rest. view x ∷ rest) (static-completed statics at number initial one e is (λ n y found same. let more : suc n ≡ suc at = only (suc n) y found same in omega (arith, more)))
      ∙ ap (step (view x) local (map view statics)) (sym test)

  pub static-appended : (statics : List Static) (number : ℕ) (initial : Option (Bor Initial)) → ((n : ℕ) (x : Static) → slice_get statics n ≡ Some x → x.declared ≡ number → ⊥)
      → map view (statics ++ record { declared = number; initial = initial } ∷ []) ≡ with_static (local_from (static_of table number initial)) (map view statics)
  static-appended [] number initial none = refl
  static-appended (x ∷ statics) number initial none =
      let local = local_from (static_of table number initial) in
      let test : ((view x).declared == local.declarator.declared) ≡ false =
      ne_eqb (view x).declared local.declarator.declared (λ same. none zero x refl (sym (view-declared table x.declared x.initial) ∙ same ∙ view-declared table number initial)) in
      ap (λ rest. view x ∷ rest) (static-appended statics number initial (λ n y found same. none (suc n) y found same)) ∙ ap (step (view x) local (map view statics)) (sym test)

-- ---- where the objects stand

-- what stands at a place
abbrev Stands : List Static → ℕ → ℕ → Type 0
Stands statics d i = (x : Static) × (slice_get statics i ≡ Some x) × (x.declared ≡ d)

found-at : (found : Option Static) (d : ℕ) → option_map (λ (one : Static). one.declared) found ≡ Some d → (x : Static) × (found ≡ Some x) × (x.declared ≡ d)
found-at None d e = absurd (none-some d e)
found-at (Some x) d e = (x, refl, same_Some x.declared d e)

pub stands : (places : List (Option ℕ)) (statics : List Static) → ArePlaced places statics → (d i : ℕ) → place_of places d ≡ Some i → Stands statics d i
stands places statics h d i placed = found-at (slice_get statics i) d (h.there d i placed)

numbered-at : (statics : List Static) (d i : ℕ) → Stands statics d i → declared_at statics i ≡ Some d
numbered-at statics d i found = ap (option_map (λ (one : Static). one.declared)) found.1 ∙ ap (λ n. Some n) found.2

-- a number has one place
pub one-place : (places : List (Option ℕ)) (statics : List Static) → ArePlaced places statics → (number at : ℕ) → place_of places number ≡ Some at
    → (n : ℕ) (x : Static) → slice_get statics n ≡ Some x → x.declared ≡ number → n ≡ at
one-place places statics h number at e n x found same = same_Some n at (sym (h.back n x found) ∙ ap (place_of places) same ∙ e)

pub no-place : (places : List (Option ℕ)) (statics : List Static) → ArePlaced places statics → (number : ℕ) → place_of places number ≡ None
    → (n : ℕ) (x : Static) → slice_get statics n ≡ Some x → x.declared ≡ number → ⊥
no-place places statics h number e n x found same = none-some n (sym e ∙ ap (place_of places) (sym same) ∙ h.back n x found)

pub placed-set : (places : List (Option ℕ)) (statics : List Static) (at : ℕ) (one other : Static) → slice_get statics at ≡ Some one → other.declared ≡ one.declared → ArePlaced places statics
    → ArePlaced places (set statics at other)
placed-set places statics at one other e same h = record {
  there = λ d i placed. numbered-at (set statics at other) d i (there-by d i (stands places statics h d i placed) (at == i) refl);
  back = λ i x found. back-by i x found (at == i) refl;
}
  where
    there-by : (d i : ℕ) → Stands statics d i → (test : Bool) → (at == i) ≡ test → Stands (set statics at other) d i
    there-by d i found true is =
        let here = eqb-true at i is in (
          other,
          subst (λ k. slice_get (set statics at other) k ≡ Some other) here (set-here statics at other (slice_get_within statics at one e)),
          same ∙ ap (λ (s : Static). s.declared) (same_Some one found.0 (sym e ∙ ap (slice_get statics) here ∙ found.1)) ∙ found.2,
        )
    there-by d i found false is = (found.0, set-elsewhere statics at i other (eqb-false at i is) ∙ found.1, found.2)

    back-by : (i : ℕ) (x : Static) → slice_get (set statics at other) i ≡ Some x → (test : Bool) → (at == i) ≡ test → place_of places x.declared ≡ Some i
    back-by i x found true is =
        let here = eqb-true at i is in
        let it : other ≡ x = same_Some other x (sym (subst (λ k. slice_get (set statics at other) k ≡ Some other) here (set-here statics at other (slice_get_within statics at one e))) ∙ found) in
        ap (λ (s : Static). place_of places s.declared) (sym it) ∙ ap (place_of places) same ∙ h.back at one e ∙ ap (λ k. Some k) here
    back-by i x found false is = h.back i x (sym (set-elsewhere statics at i other (eqb-false at i is)) ∙ found)

pub placed-append : (places : List (Option ℕ)) (statics : List Static) (number : ℕ) (one : Static) → one.declared ≡ number → number < length places → place_of places number ≡ None → ArePlaced places statics
    → ArePlaced (set places number (Some (length statics))) (statics ++ one ∷ [])
placed-append places statics number one is inside none h = record {
  there = λ d i placed. numbered-at (statics ++ one ∷ []) d i (there-by d i placed (number == d) refl);
  back = λ i x found. back-by i x (either-of statics one x i found);
}
  where
    there-by : (d i : ℕ) → place_of (set places number (Some (length statics))) d ≡ Some i → (test : Bool) → (number == d) ≡ test → Stands (statics ++ one ∷ []) d i
    there-by d i placed true e =
        let here = eqb-true number d e in
        let at : place_of (set places number (Some (length statics))) d ≡ Some (length statics) =
        subst (λ k. place_of (set places number (Some (length statics))) k ≡ Some (length statics)) here (ap place_in (set-here places number (Some (length statics)) inside)) in
        (one, subst (λ k. slice_get (statics ++ one ∷ []) k ≡ Some one) (same_Some (length statics) i (sym at ∙ placed)) (last-of statics one), is ∙ here)
    there-by d i placed false e =
        let old = stands places statics h d i (sym (ap place_in (set-elsewhere places number d (Some (length statics)) (eqb-false number d e))) ∙ placed) in
        (old.0, front-of statics one old.0 i old.1, old.2)

    back-by : (i : ℕ) (x : Static) → (slice_get statics i ≡ Some x) ⊎ ((i ≡ length statics) × (one ≡ x)) → place_of (set places number (Some (length statics))) x.declared ≡ Some i
    back-by i x (inl found) =
        ap place_in (set-elsewhere places number x.declared (Some (length statics)) (λ e. no-place places statics h number none i x found (sym e))) ∙ h.back i x found
    back-by i x (inr h2) =
        ap (λ (s : Static). place_of (set places number (Some (length statics))) s.declared) (sym h2.1) ∙ ap (place_of (set places number (Some (length statics)))) is
        ∙ ap place_in (set-here places number (Some (length statics)) inside) ∙ ap (λ k. Some k) (sym h2.0)

-- ---- one object is defined

set-itself : {A : Type 0} (xs : List A) (n : ℕ) (x : A) → slice_get xs n ≡ Some x → set xs n x ≡ xs
set-itself [] n x e = refl
set-itself (y ∷ xs) zero x e = ap (λ z. z ∷ xs) (sym (same_Some y x e))
set-itself (y ∷ xs) (suc n) x e = ap (λ ys. y ∷ ys) (set-itself xs n x e)

completed-some : (one : Static) (initial : Option (Bor Initial)) → is_some initial ≡ true → completed one initial ≡ record { declared = one.declared; initial = initial }
completed-some one None e = absurd (cc)
completed-some one (Some initial) e = refl

completed-none : (one : Static) (initial : Option (Bor Initial)) → is_some initial ≡ false → completed one initial ≡ one
completed-none one None e = refl
completed-none one (Some initial) e = absurd (cc)

abbrev with_initial : Option (Bor Initial) → ℕ → Static
with_initial initial declared = record { declared = declared; initial = initial }

pub set-completed : (statics : List Static) (at : ℕ) (initial : Option (Bor Initial)) (before one : Static) → before ≡ get_or statics at before → slice_get statics at ≡ Some one → is_some initial ≡ true
    → set statics at (with_initial initial before.declared) ≡ set statics at (completed one initial)
set-completed statics at initial before one is e some =
    ap (λ x. set statics at x)
    (ap (λ (s : Static). with_initial initial s.declared) (is ∙ get_or_from_slice_get statics at one before e) ∙ sym (completed-some one initial some))

pub set-incomplete : (statics : List Static) (at : ℕ) (initial : Option (Bor Initial)) (one : Static) → slice_get statics at ≡ Some one → is_some initial ≡ false → statics ≡ set statics at (completed one initial)
set-incomplete statics at initial one e none = sym (ap (λ x. set statics at x) (completed-none one initial none) ∙ set-itself statics at one e)

completed-known : (n count number : ℕ) (one : Static) (initial : Option (Bor Initial)) → IsStaticKnown n count one → IsStaticKnown n count (with_initial initial number) → IsStaticKnown n count (completed one initial)
completed-known n count number one None known new = known
completed-known n count number one (Some initial) known new = (known.0, new.1)

-- it was there before
pub added-completed : (a b : Gathering) (number at : ℕ) (initial : Option (Bor Initial)) → place_of a.places.items number ≡ Some at → b.declared.now ≡ a.declared.now
    → ((one : Static) → slice_get a.statics.items at ≡ Some one → b.statics.items ≡ set a.statics.items at (completed one initial)) → IsAdded a (with_initial initial number) b
added-completed a b number at initial placed same becomes =
    let statics = a.statics.items in
    let found = stands a.places.items statics a.placed number at placed in
    let e = becomes found.0 found.1 in record {
      declared = same;
      same = λ table.
          ap (map (view_of_static table)) e ∙ static-completed table statics at number initial found.0 found.1 found.2 (one-place a.places.items statics a.placed number at placed);
      fit = λ n count known all.
          let inside = slice_get_within statics at found.0 found.1 in
          let old : IsStaticKnown n count found.0 = subst (IsStaticKnown n count) (get_or_from_slice_get statics at found.0 found.0 found.1) (all at found.0 inside) in
          subst (All (IsStaticKnown n count)) (sym e) (All-set (IsStaticKnown n count) statics at (completed found.0 initial) (completed-known n count number found.0 initial old known) all);
    }

-- it wasn't
pub added-appended : (a b : Gathering) (number : ℕ) (initial : Option (Bor Initial)) → place_of a.places.items number ≡ None → b.declared.now ≡ a.declared.now
    → b.statics.items ≡ a.statics.items ++ with_initial initial number ∷ [] → IsAdded a (with_initial initial number) b
added-appended a b number initial none same e = record {
  declared = same;
  same = λ table. ap (map (view_of_static table)) e ∙ static-appended table a.statics.items number initial (no-place a.places.items a.statics.items a.placed number none);
  fit = λ n count known all. subst (All (IsStaticKnown n count)) (sym e) (All-push (IsStaticKnown n count) a.statics.items (with_initial initial number) all known);
}
