-- Numbers that are different ones of a range, from the last one on.
use Rattle.std.proofs.Common.{◌≡◌, ◌↔◌, ℕ, Bool, true, false, not, ◌||◌, cond, nat_eq, ◌==◌, IsTrue, List, [], ◌∷◌, ◌++◌, refl, sym, ap, ◌∙◌, subst, append_assoc}
use Rattle.std.specs.List.{AllByRecursion, list_any}
use Rattle.std.proofs.lemmas.Bool.{false≢true, and_parts, and_from}
use Rattle.dm_agree.proofs.StepLemmas.{never}
use Rattle.dm_align.specs.Units.{are_different}

module _ (P : ℕ → Type 0) where
  abbrev pub AreGood : List ℕ → Type 0
  AreGood numbers = AllByRecursion P numbers × IsTrue (are_different numbers)

  -- those behind some of them are
  suffix : (front back : List ℕ) → AreGood (front ++ back) → AreGood back
  suffix [] back good = good
  suffix (d ∷ front) back good = suffix front back (good.0.1, (and_parts (not (list_any (λ c. c == d) (front ++ back))) (are_different (front ++ back)) good.1).1)

  behind : (numbers left before done : List ℕ) (d : ℕ) → numbers ≡ left ++ done → left ≡ before ++ d ∷ [] → numbers ≡ before ++ (d ∷ done)
  behind numbers left before done d split last = split ∙ (ap (λ front. front ++ done) last ∙ append_assoc before (d ∷ []) done)

  pub not-put : (numbers left before done : List ℕ) (d : ℕ) → numbers ≡ left ++ done → left ≡ before ++ d ∷ [] → (P d → ⊥) → IsTrue false ↔ AreGood numbers
  not-put numbers left before done d split last none =
      never (λ good. none (suffix before (d ∷ done) (subst AreGood (behind numbers left before done d split last) good)).0.0)

  pub twice : (numbers left before done : List ℕ) (d : ℕ) → numbers ≡ left ++ done → left ≡ before ++ d ∷ [] → list_any (λ c. c == d) done ≡ true → IsTrue false ↔ AreGood numbers
  twice numbers left before done d split last there =
      never (λ good.
      let both = (suffix before (d ∷ done) (subst AreGood (behind numbers left before done d split last) good)).1 in
      let apart = (and_parts (not (list_any (λ c. c == d) done)) (are_different done) both).0 in
      false≢true (ap not (sym there) ∙ apart))

  -- the numbers from here on are good, and a set has them
  pub record AreSeen (numbers left : List ℕ) (has : ℕ → Bool) : Type 0 where
    pub done : List ℕ
    pub split : numbers ≡ left ++ done
    pub good : AreGood done
    pub same : (d : ℕ) → has d ≡ list_any (λ c. c == d) done

  more : (d q : ℕ) (rest : Bool) → cond (nat_eq d q) true rest ≡ ((d == q) || rest)
  more d q rest = elim (nat_eq d q) as (λ b. cond b true rest ≡ (b || rest)) [ true ↦ refl | false ↦ refl ]

  pub one-more-seen : (numbers left before : List ℕ) (d : ℕ) (has now : ℕ → Bool) → AreSeen numbers left has → left ≡ before ++ d ∷ [] → P d → has d ≡ false
      → ((q : ℕ) → now q ≡ cond (nat_eq d q) true (has q)) → AreSeen numbers before now
  one-more-seen numbers left before d has now seen last put fresh update = record {
    done = d ∷ seen.done;
    split = behind numbers left before seen.done d seen.split last;
    good = ((put, seen.good.0), and_from (not (list_any (λ c. c == d) seen.done)) (are_different seen.done) (ap not (sym (seen.same d) ∙ fresh)) seen.good.1);
    same = λ q. update q ∙ (ap (λ rest. cond (nat_eq d q) true rest) (seen.same q) ∙ more d q (list_any (λ c. c == q) seen.done));
  }
