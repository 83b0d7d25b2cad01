-- Hide sets that are kept as lists of their numbers.
use Rattle.std.proofs.Common.{◌||◌, ap, ◌≡◌, ℕ, Bool, true, false, cond, ◌&&◌, ◌+◌, ◌<◌, length, take, get_or, List, [], ◌∷◌, ◌++◌, refl, sym, ◌∙◌, nat_eq, rules}
use Rattle.std.specs.List.{list_any, filter}
use Rattle.std.proofs.lemmas.List.{take_more}
use Rattle.std.proofs.lemmas.List.Folds.{list_any-append}
use Rattle.std.specs.Ordering.{nat_cmp}
use Rattle.std.specs.Cmp.{nat_cmp_total}
use Rattle.std.specs.FinSet as set
use Rattle.std.specs.FinSet.{nat_cmp-IsAntisymmetric, contains-from_list_nat, members}
use borrow.Author.Tests.{tests}

-- the finite set of a list's numbers
abbrev pub of_list : List ℕ → set.FinSet nat_cmp
of_list = set.from_list

-- sets with the same members are equal
same : (s t : set.FinSet nat_cmp) → ((q : ℕ) → set.contains s q ≡ set.contains t q) → s ≡ t
same s t are = set.same_set nat_cmp_total nat_cmp-IsAntisymmetric s t are

pub among-is : (numbers : List ℕ) (number : ℕ) → list_any (λ other. nat_eq other number) numbers ≡ set.contains (of_list numbers) number
among-is numbers number = sym (contains-from_list_nat numbers number)

-- whether a number is among the first ones, and one more
pub among-more : (numbers : List ℕ) (number i : ℕ) (found : Bool) → i < length numbers → found ≡ list_any (λ other. nat_eq other number) (take i numbers)
    → (found || nat_eq (get_or numbers i 0) number) ≡ list_any (λ other. nat_eq other number) (take (i + 1) numbers)
among-more numbers number i found lt is =
    let test : ℕ → Bool = λ other. nat_eq other number in
    ap (λ b. b || test (get_or numbers i 0)) is
    ∙ ap (λ b. list_any test (take i numbers) || b) (sym (or_last (test (get_or numbers i 0))))
    ∙ sym (ap (list_any test) (take_more numbers i 0 lt) ∙ list_any-append test (take i numbers) (get_or numbers i 0 ∷ []))
  where
    or_last : (b : Bool) → (b || false) ≡ b
    or_last true = refl
    or_last false = refl

-- one number more at the end
pub push-is : (numbers : List ℕ) (number : ℕ) → of_list (numbers ++ number ∷ []) ≡ set.insert (of_list numbers) number
push-is numbers number = set.from_list_push nat_cmp_total nat_cmp-IsAntisymmetric numbers number

-- to put in what is there changes nothing
pub insert_present : (s : set.FinSet nat_cmp) (x : ℕ) → set.contains s x ≡ true → s ≡ set.insert s x
insert_present s x there = same _ _ (λ q. grind (members, tests, rules))

-- the set of no numbers adds nothing
pub union-nothing : (s : set.FinSet nat_cmp) → s ≡ set.union s (of_list [])
union-nothing s = same _ _ (λ q. grind (members, tests, rules))

-- one number more that both sets have together
pub union-insert : (s t : set.FinSet nat_cmp) (x : ℕ) → set.insert (set.union s t) x ≡ set.union s (set.insert t x)
union-insert s t x = same _ _ (λ q. grind (members, tests, rules))

-- whether the front of a list is among what a set has too
kept_first : (t : set.FinSet nat_cmp) (y q : ℕ) (ys : List ℕ) (b : Bool) → set.contains t y ≡ b
    → set.contains (of_list (filter (set.contains t) ys)) q ≡ (set.contains (of_list ys) q && set.contains t q)
    → set.contains (of_list (cond b (y ∷ filter (set.contains t) ys) (filter (set.contains t) ys))) q ≡ (set.contains (of_list (y ∷ ys)) q && set.contains t q)
kept_first t y q ys true e others = grind (members, tests, rules)
kept_first t y q ys false e others = grind (members, tests, rules)

kept : (t : set.FinSet nat_cmp) (xs : List ℕ) (q : ℕ) → set.contains (of_list (filter (set.contains t) xs)) q ≡ (set.contains (of_list xs) q && set.contains t q)
kept t [] q = grind (members, tests, rules)
kept t (y ∷ ys) q = kept_first t y q ys (set.contains t y) refl (kept t ys q)

-- the numbers of a list that a set has are those of both
pub filter-is : (t : set.FinSet nat_cmp) (xs : List ℕ) → of_list (filter (set.contains t) xs) ≡ set.intersection (of_list xs) t
filter-is t xs = same _ _ (λ q. kept t xs q ∙ sym (set.contains-intersection nat_cmp_total (of_list xs) t q))

-- a list with more behind it has the numbers of both
append-is : (xs ys : List ℕ) (q : ℕ) → set.contains (of_list (xs ++ ys)) q ≡ (set.contains (of_list xs) q || set.contains (of_list ys) q)
append-is xs ys q =
    contains-from_list_nat (xs ++ ys) q
    ∙ list_any-append (λ other. nat_eq other q) xs ys
    ∙ ap (λ b. b || list_any (λ other. nat_eq other q) ys) (sym (contains-from_list_nat xs q))
    ∙ ap (λ b. set.contains (of_list xs) q || b) (sym (contains-from_list_nat ys q))

within_left : (a b : Bool) → (a || b) ≡ (a || (a || b))
within_left true b = refl
within_left false b = refl

within_both : (a b : Bool) → a ≡ (a && (a || b))
within_both true b = refl
within_both false b = refl

-- a set whose numbers come first among another's
pub union-front : (mine theirs rest : List ℕ) (s t : set.FinSet nat_cmp) → of_list mine ≡ s → of_list theirs ≡ t → theirs ≡ mine ++ rest → t ≡ set.union s t
union-front mine theirs rest s t is are front =
    sym are
    ∙ ap of_list front
    ∙ same _ _ (λ q. append-is mine rest q ∙ within_left (set.contains (of_list mine) q) (set.contains (of_list rest) q)
    ∙ ap (λ b. set.contains (of_list mine) q || b) (sym (append-is mine rest q)) ∙ sym (set.contains-union nat_cmp_total (of_list mine) (of_list (mine ++ rest)) q))
    ∙ ap (λ u. set.union (of_list mine) u) (ap of_list (sym front) ∙ are)
    ∙ ap (λ u. set.union u t) is

pub meet-front : (mine theirs rest : List ℕ) (s t : set.FinSet nat_cmp) → of_list mine ≡ s → of_list theirs ≡ t → theirs ≡ mine ++ rest → s ≡ set.intersection s t
meet-front mine theirs rest s t is are front =
    sym is
    ∙ same _ _ (λ q. within_both (set.contains (of_list mine) q) (set.contains (of_list rest) q)
    ∙ ap (λ b. set.contains (of_list mine) q && b) (sym (append-is mine rest q)) ∙ sym (set.contains-intersection nat_cmp_total (of_list mine) (of_list (mine ++ rest)) q))
    ∙ ap (λ u. set.intersection (of_list mine) u) (ap of_list (sym front) ∙ are)
    ∙ ap (λ u. set.intersection u t) is

-- what is hidden already adds nothing
pub union-present : (s : set.FinSet nat_cmp) (numbers : List ℕ) (number : ℕ) → s ≡ set.union s (of_list numbers) → set.contains s number ≡ true → s ≡ set.union s (of_list (numbers ++ number ∷ []))
union-present s numbers number before there =
    insert_present s number there
    ∙ ap (λ t. set.insert t number) before
    ∙ union-insert s (of_list numbers) number
    ∙ ap (λ t. set.union s t) (sym (push-is numbers number))

-- it adds to the set of no numbers what it has
pub nothing-union : (s : set.FinSet nat_cmp) → s ≡ set.union set.empty s
nothing-union s = same _ _ (λ q. grind (members, tests, rules))
