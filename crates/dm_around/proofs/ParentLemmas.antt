-- Of which expressions the places found so far have parts.
use Rattle.std.proofs.Common.{◌≡◌, ℕ, zero, suc, ◌<◌, ◌≤◌, ◌==◌, ◌⊎◌, inl, inr, Bool, true, false, List, [], ◌∷◌, ◌++◌, length, reverse, replicate, Option, Some, None, slice_get, length-append, refl, sym, ap, ap₂, subst, ◌∙◌, arith, IsSome, ◌↔◌}
use Rattle.std.proofs.lemmas.List.{reverse-append}
use Rattle.std.proofs.lemmas.Bool.{eqb-false}
use Rattle.std.proofs.lemmas.Bool.Decides.{Decides-eqb}
use Rattle.std.specs.Option.{option_to_list}
use Rattle.dm_type.specs.Tables.{Table}
use Rattle.dm_tree.specs.declared.unit.CoreUnit.{CoreUnit}
use Rattle.dm_tree.specs.Trees.{label_of, parts_of, is_statement}
use Rattle.dm_tree.specs.Views.{view, view_of_unit}
use Rattle.dm_sites.specs.declared.site.Site.{Site as CodeSite}
use Rattle.dm_sites.specs.Links.{linked}
use Rattle.dm_sites.specs.Seen.{seen}
use Rattle.dm_sites.specs.Sites.{Site, sites_of_unit}
use Rattle.dm_around.specs.Places.{ArePlain, HasAbove}
use Rattle.dm_around.proofs.WalkLemmas.{expression-label}
use Rattle.dm_around.proofs.RootLemmas.{Waits, first_of, rest_of, starts, comes}

abbrev pub all_of : Table → CoreUnit → List Site
all_of types one = sites_of_unit (view_of_unit types one)

abbrev AllBelow : ℕ → List ℕ → Type 0
AllBelow bound [] = Unit {0}
AllBelow bound (n ∷ numbers) = (n < bound) × AllBelow bound numbers

pub record SoFar (one : CoreUnit) (parents : List (Option ℕ)) (left : List ℕ) : Type 0 where
  pub waits : (types : Table) → ArePlain (all_of types one) → Waits (view_of_unit types one).declared (all_of types one) (length parents) (reverse left)
  pub above : (types : Table) → ArePlain (all_of types one) → (n : ℕ) (site : Site) → n < length parents → slice_get (all_of types one) n ≡ Some site → HasAbove (all_of types one) (linked parents n) n site
  pub waiting : AllBelow (length parents) left
  pub before : (n above : ℕ) → linked parents n ≡ Some above → above < n
  pub within : (types : Table) → length parents ≤ length (all_of types one)

pub so-far-none : (one : CoreUnit) → SoFar one [] []
so-far-none one = record {
  waits = λ types plain. starts (view_of_unit types one) plain;
  above = λ types plain n site less. absurd (omega (arith, less));
  waiting = tt;
  before = λ n above is. absurd (cc);
  within = λ types. omega arith;
}

-- ---- lists

pub get-less : {S : Type 0} (all : List S) (n : ℕ) (x : S) → slice_get all n ≡ Some x → n < length all
get-less [] n x h = absurd (cc)
get-less (y ∷ all) zero x h = omega arith
get-less (y ∷ all) (suc n) x h = let less = get-less all n x h in omega (arith, less)

pub none-past : {S : Type 0} (all : List S) (n : ℕ) → slice_get all n ≡ None → length all ≤ n
none-past [] n h = omega arith
none-past (y ∷ all) zero h = absurd (cc)
none-past (y ∷ all) (suc n) h = let past = none-past all n h in omega (arith, past)

linked-front : (numbers : List (Option ℕ)) (last : Option ℕ) (n : ℕ) → n < length numbers → linked (numbers ++ last ∷ []) n ≡ linked numbers n
linked-front [] last n less = absurd (omega (arith, less))
linked-front (first ∷ numbers) last zero less = refl
linked-front (first ∷ numbers) last (suc n) less = linked-front numbers last n (omega (arith, less))

linked-last : (numbers : List (Option ℕ)) (last : Option ℕ) → linked (numbers ++ last ∷ []) (length numbers) ≡ last
linked-last [] last = refl
linked-last (first ∷ numbers) last = linked-last numbers last

linked-past : (numbers : List (Option ℕ)) (last : Option ℕ) (n above : ℕ) → linked (numbers ++ last ∷ []) n ≡ Some above → (n < length numbers) ⊎ (n ≡ length numbers)
linked-past [] last zero above h = inr refl
linked-past [] last (suc n) above h = absurd (cc)
linked-past (first ∷ numbers) last zero above h = inl (omega arith)
linked-past (first ∷ numbers) last (suc n) above h = by (linked-past numbers last n above h)
  where
    by : (n < length numbers) ⊎ (n ≡ length numbers) → (suc n < length (first ∷ numbers)) ⊎ (suc n ≡ length (first ∷ numbers))
    by (inl less) = inl (omega (arith, less))
    by (inr same) = inr (ap (λ (m : ℕ). suc m) same)

replicate-next : (n number : ℕ) → replicate n number ++ number ∷ [] ≡ number ∷ replicate n number
replicate-next zero number = refl
replicate-next (suc n) number = ap (λ (rest : List ℕ). number ∷ rest) (replicate-next n number)

replicate-reversed : (n number : ℕ) → reverse (replicate n number) ≡ replicate n number
replicate-reversed zero number = refl
replicate-reversed (suc n) number = reverse-append (number ∷ []) (replicate n number) ∙ (ap (λ (rest : List ℕ). rest ++ number ∷ []) (replicate-reversed n number) ∙ replicate-next n number)

popped-by : (left fewer : List ℕ) (popped : Option ℕ) → left ≡ fewer ++ option_to_list popped → (IsSome popped ↔ (0 < length left)) → (first_of (reverse left) ≡ popped) × (rest_of (reverse left) ≡ reverse fewer)
popped-by left fewer (Some number) is some =
    let turned : reverse left ≡ number ∷ reverse fewer = ap (λ (them : List ℕ). reverse them) is ∙ reverse-append fewer (number ∷ []) in
    (ap first_of turned, ap rest_of turned)
popped-by [] [] None is some = (refl, refl)
popped-by [] (number ∷ fewer) None is some = absurd (cc)
popped-by (number ∷ left) fewer None is some =
    let none = some.1 (omega arith) in absurd (cc)

-- ---- numbers below

below-more : (bound more : ℕ) (numbers : List ℕ) → bound ≤ more → AllBelow bound numbers → AllBelow more numbers
below-more bound more [] le h = tt
below-more bound more (n ∷ numbers) le h = (let less = h.0 in omega (arith, le, less), below-more bound more numbers le h.1)

below-append : (bound : ℕ) (front back : List ℕ) → AllBelow bound front → AllBelow bound back → AllBelow bound (front ++ back)
below-append bound [] back h k = k
below-append bound (n ∷ front) back h k = (h.0, below-append bound front back h.1 k)

below-front : (bound : ℕ) (front back : List ℕ) → AllBelow bound (front ++ back) → AllBelow bound front
below-front bound [] back h = tt
below-front bound (n ∷ front) back h = (h.0, below-front bound front back h.1)

below-back : (bound : ℕ) (front back : List ℕ) → AllBelow bound (front ++ back) → AllBelow bound back
below-back bound [] back h = h
below-back bound (n ∷ front) back h = below-back bound front back h.1

below-times : (bound number n : ℕ) → number < bound → AllBelow bound (replicate n number)
below-times bound number zero less = tt
below-times bound number (suc n) less = (less, below-times bound number n less)

-- ---- one more place

module _ (one : CoreUnit) (parents : List (Option ℕ)) (left fewer more : List ℕ) (popped : Option ℕ) (count : ℕ) (site : CodeSite)
    (h : SoFar one parents left) (is : left ≡ fewer ++ option_to_list popped) (some : IsSome popped ↔ (0 < length left)) (pushed : more ≡ fewer ++ replicate count (length parents))
    (there : (types : Table) → Some (seen types (all_of types one) site) ≡ slice_get (all_of types one) (length parents))
    (counted : (types : Table) → is_statement (label_of (view types site.tree.now)) ≡ false → count ≡ length (parts_of (view types site.tree.now))) where
  n : ℕ
  n = length parents

  longer : length (parents ++ popped ∷ []) ≡ suc (length parents)
  longer = length-append parents (popped ∷ []) ∙ omega arith

  next-waits : (types : Table) → ArePlain (all_of types one) → Waits (view_of_unit types one).declared (all_of types one) (length (parents ++ popped ∷ [])) (reverse more)
  next-waits types plain =
      let declared = (view_of_unit types one).declared in
      let come = comes declared (all_of types one) (length parents) (reverse left) (seen types (all_of types one) site) (sym (there types)) (h.waits types plain) in
      let same = counted types (expression-label (view types site.tree.now) come.plain) in
      let turned : reverse more ≡ replicate (length (parts_of (view types site.tree.now))) (length parents) ++ rest_of (reverse left) =
      ap (λ (them : List ℕ). reverse them) pushed
      ∙ (reverse-append fewer (replicate count (length parents))
      ∙ ap₂ (λ (front back : List ℕ). front ++ back) (replicate-reversed count (length parents) ∙ ap (λ (k : ℕ). replicate k (length parents)) same) (sym (popped-by left fewer popped is some).1)) in
      subst (λ (them : List ℕ). Waits declared (all_of types one) (length (parents ++ popped ∷ [])) them) (sym turned)
      (subst (λ (m : ℕ). Waits declared (all_of types one) m (replicate (length (parts_of (view types site.tree.now))) (length parents) ++ rest_of (reverse left))) (sym longer) come.next)

  next-above : (types : Table) → ArePlain (all_of types one) → (m : ℕ) (other : Site) → (m < length parents) ⊎ (m ≡ length parents) → slice_get (all_of types one) m ≡ Some other
      → HasAbove (all_of types one) (linked (parents ++ popped ∷ []) m) m other
  next-above types plain m other (inl less) got =
      subst (λ (found : Option ℕ). HasAbove (all_of types one) found m other) (sym (linked-front parents popped m less)) (h.above types plain m other less got)
  next-above types plain m other (inr same) got =
      let come = comes (view_of_unit types one).declared (all_of types one) (length parents) (reverse left) other (ap (slice_get (all_of types one)) (sym same) ∙ got) (h.waits types plain) in
      let found : first_of (reverse left) ≡ linked (parents ++ popped ∷ []) m =
      (popped-by left fewer popped is some).0 ∙ (sym (linked-last parents popped) ∙ ap (linked (parents ++ popped ∷ [])) (sym same)) in
      subst (λ (found : Option ℕ). HasAbove (all_of types one) found m other) found
      (subst (λ (k : ℕ). HasAbove (all_of types one) (first_of (reverse left)) k other) (sym same) come.above)

  popped-below : (found : Option ℕ) → AllBelow (length parents) (option_to_list found) → (above : ℕ) → found ≡ Some above → above < length parents
  popped-below None below above is = absurd (cc)
  popped-below (Some number) below above is =
      let same : number ≡ above = cc in let less = below.0 in omega (arith, same, less)

  next-before : (m above : ℕ) → (m < length parents) ⊎ (m ≡ length parents) → linked (parents ++ popped ∷ []) m ≡ Some above → above < m
  next-before m above (inl less) got = h.before m above (sym (linked-front parents popped m less) ∙ got)
  next-before m above (inr same) got =
      let below = below-back (length parents) fewer (option_to_list popped) (subst (AllBelow (length parents)) is h.waiting) in
      let less = popped-below popped below above (sym (ap (linked (parents ++ popped ∷ [])) same ∙ linked-last parents popped) ∙ got) in
      omega (arith, less, same)

  step : (m : ℕ) → m < length (parents ++ popped ∷ []) → (m < length parents) ⊎ (m ≡ length parents)
  step m less = by (m == length parents) refl
    where
      by : (b : Bool) → (m == length parents) ≡ b → (m < length parents) ⊎ (m ≡ length parents)
      by true same = inr ((Decides-eqb m (length parents)).0 same)
      by false other =
          let apart = eqb-false m (length parents) other in let more = longer in inl (omega (arith, less, more, apart))

  pub next-less : (types : Table) → length parents < length (all_of types one)
  next-less types = get-less (all_of types one) (length parents) (seen types (all_of types one) site) (sym (there types))

  pub so-far-next : SoFar one (parents ++ popped ∷ []) more
  so-far-next = record {
    waits = next-waits;
    above = λ types plain m other less got. next-above types plain m other (step m less) got;
    waiting =
        let more_than = longer in
        let fewer_below = below-front (length parents) fewer (option_to_list popped) (subst (AllBelow (length parents)) is h.waiting) in
        subst (AllBelow (length (parents ++ popped ∷ []))) (sym pushed)
        (below-append (length (parents ++ popped ∷ [])) fewer (replicate count (length parents)) (below-more (length parents) (length (parents ++ popped ∷ [])) fewer (omega (arith, more_than)) fewer_below)
        (below-times (length (parents ++ popped ∷ [])) (length parents) count (omega (arith, more_than))));
    before = λ m above got. next-before m above (linked-past parents popped m above got) got;
    within = λ types. let less = next-less types in let more_than = longer in omega (arith, less, more_than);
  }
