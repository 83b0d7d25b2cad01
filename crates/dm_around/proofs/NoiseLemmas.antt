-- What isn't quiet round places.
use Rattle.std.proofs.Common.{◌≡◌, ℕ, zero, suc, ◌+◌, ◌<◌, ◌≤◌, ◌⊎◌, inl, inr, Bool, true, false, cond, ◌&&◌, ◌||◌, not, nat_lt, List, [], ◌∷◌, ◌++◌, length, Option, Some, None, slice_get, length-append, refl, sym, ap, ap₂, ◌∙◌, arith}
use Rattle.std.specs.List.{list_any, filter_map}
use Rattle.std.proofs.lemmas.List.Folds.{list_any-append}
use Rattle.std.proofs.lemmas.Bool.{ltb-true, ltb-false, lt-ltb, le-ltb, eq-eqb, ne_eqb}
use Rattle.dm_type.specs.CTypes.{CType}
use Rattle.dm_type.specs.Tables.{Table}
use Rattle.dm_tree.specs.declared.unit.CoreUnit.{CoreUnit}
use Rattle.dm_tree.specs.Paths.{Path, tree_at, all_in, all_in_trees}
use Rattle.dm_tree.specs.Trees.{Label, Spans, binary, store, update, count as counting, call, Tree, Trees, node, no_trees, more_trees, label_of, listed, parts_of, is_statement}
use Rattle.dm_tree.specs.Units.{TypedUnit}
use Rattle.dm_tree.specs.Views.{view_of_unit}
use Rattle.dm_effect.specs.Quiet.{before, disturbs, is_one_of, is_quiet, quiet_functions}
use Rattle.dm_effect.specs.Sequencing.{is_unsequenced, beside}
use Rattle.dm_effect.specs.Stable.{acts, is_pure}
use Rattle.dm_sites.specs.Links.{linked}
use Rattle.dm_sites.specs.Sites.{Site, sites_of_unit}
use Rattle.dm_sites.proofs.LeadLemmas.{fit-at, unit-fits}
use Rattle.dm_around.specs.declared.noise.Noise.{Noise}
use Rattle.dm_around.specs.Noises.{is_noisy, noisy_among, noisy_operands, counted, noise_at, outnumbers, is_beside, IsPureBelow}
use Rattle.dm_around.specs.Places.{ArePlain, AreParents, HasAbove}
use Rattle.dm_around.specs.Surroundings.{any_beside, any_other}
use Rattle.dm_around.proofs.ParentLemmas.{all_of}
use Rattle.dm_around.proofs.BesideLemmas.{beside-part}
use Rattle.dm_around.proofs.LinkLemmas.{less-or-last}

or-swap : (p q : Bool) → (p || q) ≡ (q || p)
or-swap true true = refl
or-swap true false = refl
or-swap false true = refl
or-swap false false = refl

-- what leaves its operands unsequenced is an expression
pub unsequenced-expression : (label : Label) → is_unsequenced label ≡ true → is_statement label ≡ false
unsequenced-expression (binary op) h = refl
unsequenced-expression store h = refl
unsequenced-expression (update op works) h = refl
unsequenced-expression call h = refl
unsequenced-expression label h = absurd (cc)

-- ---- counts

pub noisy-append : (one : TypedUnit) (front back : List Tree) → noisy_among one (front ++ back) ≡ noisy_among one front + noisy_among one back
noisy-append one [] back = omega arith
noisy-append one (tree ∷ front) back = let rest = noisy-append one front back in omega (arith, rest)

lt-same : (a b c d : ℕ) → (a < b → c < d) → (b ≤ a → d ≤ c) → nat_lt a b ≡ nat_lt c d
lt-same a b c d below above = by (nat_lt a b) refl
  where
    by : (found : Bool) → nat_lt a b ≡ found → nat_lt a b ≡ nat_lt c d
    by true is = is ∙ sym (lt-ltb c d (below (ltb-true a b is)))
    by false is = is ∙ sym (le-ltb c d (above (ltb-false a b is)))

own-count : (noisy : Bool) (n : ℕ) → nat_lt 0 n ≡ outnumbers noisy (counted noisy + n)
own-count true n = lt-same 0 n 1 (1 + n) (λ less. omega (arith, less)) (λ le. omega (arith, le))
own-count false n = ap (nat_lt 0) (omega arith)

more-count : (first noisy : Bool) (n : ℕ) → (counted noisy ≤ n) → (first || outnumbers noisy n) ≡ outnumbers noisy (counted first + n)
more-count true true n le = sym (lt-ltb 1 (1 + n) (omega (arith, le)))
more-count true false n le = sym (lt-ltb 0 (1 + n) (omega arith))
more-count false noisy n le = ap (outnumbers noisy) (omega arith)

some-count : (noisy b : Bool) (n : ℕ) → b ≡ nat_lt 0 n → (noisy || b) ≡ nat_lt 0 (counted noisy + n)
some-count true b n is = sym (lt-ltb 0 (1 + n) (omega arith))
some-count false b n is = is ∙ ap (nat_lt 0) (omega arith)

module _ (one : TypedUnit) where
  least-count : (parts : List Tree) (m : ℕ) (part : Tree) → slice_get parts m ≡ Some part → counted (is_noisy one part) ≤ noisy_among one parts
  least-count [] m part there = absurd (cc)
  least-count (first ∷ parts) zero part there =
      let same : first ≡ part = cc in
      let equal : counted (is_noisy one first) ≡ counted (is_noisy one part) = ap (λ (tree : Tree). counted (is_noisy one tree)) same in omega (arith, equal)
  least-count (first ∷ parts) (suc m) part there = let rest = least-count parts m part there in omega (arith, rest)

  -- the one with the number n comes before them
  others-past : (n k : ℕ) (parts : List Tree) → n < k → any_other (is_noisy one) n k parts ≡ nat_lt 0 (noisy_among one parts)
  others-past n k [] less = refl
  others-past n k (part ∷ parts) less =
      ap (λ (b : Bool). (not b && is_noisy one part) || any_other (is_noisy one) n (suc k) parts) (ne_eqb k n (λ same. absurd (omega (arith, less, same))))
      ∙ some-count (is_noisy one part) _ (noisy_among one parts) (others-past n (suc k) parts (omega (arith, less)))

  -- it is one of them
  others-found : (n k m : ℕ) (parts : List Tree) (part : Tree) → n ≡ k + m → slice_get parts m ≡ Some part
      → any_other (is_noisy one) n k parts ≡ outnumbers (is_noisy one part) (noisy_among one parts)
  others-found n k m [] part is there = absurd (cc)
  others-found n k zero (first ∷ parts) part is there =
      let same : first ≡ part = cc in
      ap (λ (b : Bool). (not b && is_noisy one first) || any_other (is_noisy one) n (suc k) parts) (eq-eqb k n (omega (arith, is)))
      ∙ (others-past n (suc k) parts (omega (arith, is))
      ∙ (own-count (is_noisy one first) (noisy_among one parts) ∙ ap (λ (tree : Tree). outnumbers (is_noisy one tree) (counted (is_noisy one first) + noisy_among one parts)) same))
  others-found n k (suc m) (first ∷ parts) part is there =
      ap (λ (b : Bool). (not b && is_noisy one first) || any_other (is_noisy one) n (suc k) parts) (ne_eqb k n (λ same. absurd (omega (arith, is, same))))
      ∙ (ap (λ (b : Bool). is_noisy one first || b) (others-found n (suc k) m parts part (omega (arith, is)) there)
      ∙ more-count (is_noisy one first) (is_noisy one part) (noisy_among one parts) (least-count parts m part there))

pub one-operand : (quiet beside : Bool) (count : ℕ) → beside ≡ false → count ≡ 1 → quiet ≡ (beside || outnumbers (not quiet) count)
one-operand quiet beside count none is = by quiet ∙ sym (ap₂ (λ (b : Bool) (n : ℕ). b || outnumbers (not quiet) n) none is)
  where
    by : (quiet : Bool) → quiet ≡ (false || outnumbers (not quiet) 1)
    by true = refl
    by false = refl

-- ---- expressions that neither call nor store

quiet-node : (quiet : ℕ → Bool) (label : Label) (kind : CType) (spans : Spans) (parts : Trees) → acts (node label kind spans parts) ≡ false → disturbs quiet (node label kind spans parts) ≡ false
quiet-node quiet call kind spans parts h = absurd (cc)
quiet-node quiet store kind spans parts h = absurd (cc)
quiet-node quiet (update op works) kind spans parts h = absurd (cc)
quiet-node quiet (counting plus before) kind spans parts h = absurd (cc)
quiet-node quiet label kind spans parts h = refl

neither : (p q : Bool) → (p || q) ≡ false → (p ≡ false) × (q ≡ false)
neither false q h = (refl, h)
neither true q h = absurd (cc)

none-disturbs : (quiet : ℕ → Bool) (nodes : List Tree) → list_any acts nodes ≡ false → list_any (disturbs quiet) nodes ≡ false
none-disturbs quiet [] h = refl
none-disturbs quiet (node label kind spans parts ∷ nodes) h =
    let both = neither (acts (node label kind spans parts)) (list_any acts nodes) h in
    ap₂ (λ (a b : Bool). a || b) (quiet-node quiet label kind spans parts both.0) (none-disturbs quiet nodes both.1)

not-true : (b : Bool) → not b ≡ true → b ≡ false
not-true false h = refl
not-true true h = absurd (cc)

pub pure-quiet : (one : TypedUnit) (tree : Tree) → is_pure tree ≡ true → is_quiet one tree ≡ true
pure-quiet one tree h =
    ap not (none-disturbs (is_one_of (quiet_functions (before tree one.externals))) (all_in tree) (not-true (list_any acts (all_in tree)) h))

pure-in : (parts : Trees) (k : ℕ) (part : Tree) → list_any acts (all_in_trees parts) ≡ false → slice_get (listed parts) k ≡ Some part → is_pure part ≡ true
pure-in no_trees k part h there = absurd (cc)
pure-in (more_trees first rest) zero part h there =
    let same : first ≡ part = cc in
    let both = neither (list_any acts (all_in first)) (list_any acts (all_in_trees rest)) (sym (list_any-append acts (all_in first) (all_in_trees rest)) ∙ h) in
    ap is_pure (sym same) ∙ ap not both.0
pure-in (more_trees first rest) (suc k) part h there =
    let both = neither (list_any acts (all_in first)) (list_any acts (all_in_trees rest)) (sym (list_any-append acts (all_in first) (all_in_trees rest)) ∙ h) in
    pure-in rest k part both.1 there

-- so it is of each part
pub pure-part : (tree : Tree) (k : ℕ) (part : Tree) → is_pure tree ≡ true → slice_get (parts_of tree) k ≡ Some part → is_pure part ≡ true
pure-part (node label kind spans parts) k part h there =
    pure-in parts k part (neither (acts (node label kind spans parts)) (list_any acts (all_in_trees parts)) (not-true (list_any acts (all_in (node label kind spans parts))) h)).1 there

none-among : (one : TypedUnit) (parts : List Tree) → ((k : ℕ) (part : Tree) → slice_get parts k ≡ Some part → is_pure part ≡ true) → noisy_among one parts ≡ 0
none-among one [] pure = refl
none-among one (part ∷ parts) pure =
    ap₂ (λ (quiet : Bool) (n : ℕ). counted (not quiet) + n) (pure-quiet one part (pure 0 part refl)) (none-among one parts (λ k other there. pure (suc k) other there))

pub pure-operands : (one : TypedUnit) (tree : Tree) → is_pure tree ≡ true → noisy_operands one tree ≡ 0
pure-operands one tree h = by (is_unsequenced (label_of tree))
  where
    by : (b : Bool) → cond b (noisy_among one (parts_of tree)) 0 ≡ 0
    by true = none-among one (parts_of tree) (λ k part there. pure-part tree k part h there)
    by false = refl

-- ---- places

pub record NoisesSoFar (one : CoreUnit) (parents : List (Option ℕ)) (noises : List Noise) : Type 0 where
  pub beside : (types : Table) → ArePlain (all_of types one) → AreParents (all_of types one) parents → (n : ℕ) (site : Site) → n < length noises → slice_get (all_of types one) n ≡ Some site
      → (noise_at noises n).beside ≡ any_beside (is_noisy (view_of_unit types one)) site
  pub operands : (types : Table) → ArePlain (all_of types one) → AreParents (all_of types one) parents → (n : ℕ) (site : Site) → n < length noises → slice_get (all_of types one) n ≡ Some site
      → (noise_at noises n).operands ≡ noisy_operands (view_of_unit types one) site.tree
  pub pure : (types : Table) → ArePlain (all_of types one) → AreParents (all_of types one) parents → (n : ℕ) (site : Site) → n < length noises → slice_get (all_of types one) n ≡ Some site
      → (noise_at noises n).pure ≡ true → is_pure site.tree ≡ true

pub no-noises : (one : CoreUnit) (parents : List (Option ℕ)) → NoisesSoFar one parents []
no-noises one parents = record {
  beside = λ types plain known n site less. absurd (omega (arith, less));
  operands = λ types plain known n site less. absurd (omega (arith, less));
  pure = λ types plain known n site less. absurd (omega (arith, less));
}

noise-front : (noises : List Noise) (last : Noise) (n : ℕ) → n < length noises → noise_at (noises ++ last ∷ []) n ≡ noise_at noises n
noise-front [] last n less = absurd (omega (arith, less))
noise-front (first ∷ noises) last zero less = refl
noise-front (first ∷ noises) last (suc n) less = noise-front noises last n (omega (arith, less))

noise-last : (noises : List Noise) (last : Noise) → noise_at (noises ++ last ∷ []) (length noises) ≡ last
noise-last [] last = refl
noise-last (first ∷ noises) last = noise-last noises last

module _ (one : TypedUnit) (noises : List Noise) (site : Site) (n : ℕ) where
  no-noise : site.path ≡ [] → any_beside (is_noisy one) site ≡ false
  no-noise root = ap (λ path. list_any (is_noisy one) (filter_map (λ (way : Path). tree_at way site.full) (beside path site.full))) root

  operand-by : (upper : Site) (part : ℕ) (other b : Bool) → slice_get (parts_of upper.tree) part ≡ Some site.tree
      → (other || outnumbers (is_noisy one site.tree) (cond b (noisy_among one (parts_of upper.tree)) 0)) ≡ ((cond b (any_other (is_noisy one) part 0 (parts_of upper.tree)) false) || other)
  operand-by upper part other true there =
      ap (λ (b : Bool). other || b) (sym (others-found one part 0 part (parts_of upper.tree) site.tree (omega arith) there)) ∙ or-swap other (any_other (is_noisy one) part 0 (parts_of upper.tree))
  operand-by upper part other false there =
      ap (λ (b : Bool). other || b) (le-ltb (counted (is_noisy one site.tree)) 0 (omega arith)) ∙ or-swap other false

  pub beside-next : (parent : Option ℕ) → HasAbove (sites_of_unit one) parent n site
      → ((above : ℕ) (upper : Site) → above < n → slice_get (sites_of_unit one) above ≡ Some upper
      → ((noise_at noises above).beside ≡ any_beside (is_noisy one) upper) × ((noise_at noises above).operands ≡ noisy_operands one upper.tree))
      → is_beside noises (is_noisy one site.tree) parent ≡ any_beside (is_noisy one) site
  beside-next None h known = sym (no-noise h)
  beside-next (Some above) h known =
      let behind = h.behind in
      let upper = known above h.upper (omega (arith, behind)) h.there in
      ap₂ (λ (b : Bool) (count : ℕ). b || outnumbers (is_noisy one site.tree) count) upper.0 upper.1
      ∙ (operand-by h.upper h.part (any_beside (is_noisy one) h.upper) (is_unsequenced (label_of h.upper.tree)) h.below
      ∙ sym (beside-part (is_noisy one) h.upper site h.part (fit-at (sites_of_unit one) above h.upper (unit-fits one) h.there).0 h.same))

module _ (one : CoreUnit) (parents : List (Option ℕ)) (noises : List Noise) (last : Noise) (tree : Table → Tree) (h : NoisesSoFar one parents noises)
    (there : (types : Table) (site : Site) → slice_get (all_of types one) (length noises) ≡ Some site → site.tree ≡ tree types)
    (beside-is : (types : Table) → last.beside ≡ is_beside noises (is_noisy (view_of_unit types one) (tree types)) (linked parents (length noises)))
    (operands-is : (types : Table) → IsPureBelow noises (linked parents (length noises)) (tree types) → last.operands ≡ noisy_operands (view_of_unit types one) (tree types))
    (pure-is : (types : Table) → IsPureBelow noises (linked parents (length noises)) (tree types) → last.pure ≡ true → is_pure (tree types) ≡ true) where
  longer : length (noises ++ last ∷ []) ≡ length noises + 1
  longer = length-append noises (last ∷ [])

  next-beside : (types : Table) → ArePlain (all_of types one) → AreParents (all_of types one) parents → (n : ℕ) (site : Site) → (n < length noises) ⊎ (n ≡ length noises) → slice_get (all_of types one) n ≡ Some site
      → (noise_at (noises ++ last ∷ []) n).beside ≡ any_beside (is_noisy (view_of_unit types one)) site
  next-beside types plain known n site (inl less) got = ap (λ (noise : Noise). noise.beside) (noise-front noises last n less) ∙ h.beside types plain known n site less got
  next-beside types plain known n site (inr at) got =
      let unit = view_of_unit types one in
      let here = ap (slice_get (all_of types one)) (sym at) ∙ got in
      ap (λ (noise : Noise). noise.beside) (ap (noise_at (noises ++ last ∷ [])) at ∙ noise-last noises last)
      ∙ (beside-is types
      ∙ (ap (λ (one : Tree). is_beside noises (is_noisy unit one) (linked parents (length noises))) (sym (there types site here))
      ∙ beside-next unit noises site (length noises) (linked parents (length noises)) (known (length noises) site here)
      (λ above upper less found. (h.beside types plain known above upper less found, h.operands types plain known above upper less found))))

  -- what is known of the expression above is known of the next place
  pure-below : (types : Table) → ArePlain (all_of types one) → AreParents (all_of types one) parents → (site : Site) → slice_get (all_of types one) (length noises) ≡ Some site
      → IsPureBelow noises (linked parents (length noises)) (tree types)
  pure-below types plain known site got = by (linked parents (length noises)) (known (length noises) site got)
    where
      by : (parent : Option ℕ) → HasAbove (all_of types one) parent (length noises) site → IsPureBelow noises parent (tree types)
      by None above = tt
      by (Some above) part = λ is.
          let behind = part.behind in
          ap is_pure (sym (there types site got))
          ∙ pure-part part.upper.tree part.part site.tree (h.pure types plain known above part.upper (omega (arith, behind)) part.there is) part.below

  next-operands : (types : Table) → ArePlain (all_of types one) → AreParents (all_of types one) parents → (n : ℕ) (site : Site) → (n < length noises) ⊎ (n ≡ length noises)
      → slice_get (all_of types one) n ≡ Some site → (noise_at (noises ++ last ∷ []) n).operands ≡ noisy_operands (view_of_unit types one) site.tree
  next-operands types plain known n site (inl less) got = ap (λ (noise : Noise). noise.operands) (noise-front noises last n less) ∙ h.operands types plain known n site less got
  next-operands types plain known n site (inr at) got =
      let here = ap (slice_get (all_of types one)) (sym at) ∙ got in
      ap (λ (noise : Noise). noise.operands) (ap (noise_at (noises ++ last ∷ [])) at ∙ noise-last noises last)
      ∙ (operands-is types (pure-below types plain known site here) ∙ ap (noisy_operands (view_of_unit types one)) (sym (there types site here)))

  next-pure : (types : Table) → ArePlain (all_of types one) → AreParents (all_of types one) parents → (n : ℕ) (site : Site) → (n < length noises) ⊎ (n ≡ length noises)
      → slice_get (all_of types one) n ≡ Some site → (noise_at (noises ++ last ∷ []) n).pure ≡ true → is_pure site.tree ≡ true
  next-pure types plain known n site (inl less) got is =
      h.pure types plain known n site less got (sym (ap (λ (noise : Noise). noise.pure) (noise-front noises last n less)) ∙ is)
  next-pure types plain known n site (inr at) got is =
      let here = ap (slice_get (all_of types one)) (sym at) ∙ got in
      ap is_pure (there types site here)
      ∙ pure-is types (pure-below types plain known site here) (sym (ap (λ (noise : Noise). noise.pure) (ap (noise_at (noises ++ last ∷ [])) at ∙ noise-last noises last)) ∙ is)

  step : (n : ℕ) → n < length (noises ++ last ∷ []) → (n < length noises) ⊎ (n ≡ length noises)
  step n less = let more = longer in less-or-last n (length noises) (omega (arith, less, more))

  pub noises-next : NoisesSoFar one parents (noises ++ last ∷ [])
  noises-next = record {
    beside = λ types plain known n site less got. next-beside types plain known n site (step n less) got;
    operands = λ types plain known n site less got. next-operands types plain known n site (step n less) got;
    pure = λ types plain known n site less got. next-pure types plain known n site (step n less) got;
  }
