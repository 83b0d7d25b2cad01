-- Files by marks.
use Rattle.std.proofs.Common.{◌≡◌, ◌<◌, ◌⊎◌, inl, inr, ℕ, zero, suc, ◌+◌, Bool, true, false, ◌||◌, ◌&&◌, nat_eq, List, [], ◌∷◌, ◌++◌, length, map, filter, take, drop, set, get_or, refl, sym, ap, ◌∙◌, subst, arith, cond}
use Rattle.std.specs.List.{range_with_len}
use Rattle.std.proofs.lemmas.Bool.{cases_eq, eq-eqb, ne_eqb, cond-true, cond-false}
use Rattle.std.proofs.lemmas.List.{get_or-set_same, get_or-set_other, map-append, map-id, length-set, take_at}
use Rattle.std.proofs.lemmas.List.Elements.{filter-append}
use Rattle.std.proofs.lemmas.List.FromFn.{fill_by_all, map-range_with_len_more, length-map-range_with_len, get_or-map-range_with_len}
use Rattle.dm_edit.specs.declared.plan.Entry.{Entry}
use Rattle.dm_subjects.specs.Files.{is_rewritten, is_edited, with_mark}

or-false : (b : Bool) → (b || false) ≡ b
or-false true = refl
or-false false = refl

or-true : (b : Bool) → (b || true) ≡ true
or-true true = refl
or-true false = refl

-- ---- marks

-- The marks and the entries that are left say whether a definition in a file is rewritten.
abbrev pub AreMarked : List Entry → List Bool → List Entry → Type 0
AreMarked entries edited left = (file : ℕ) → file < length edited → (get_or edited file false || is_edited left file) ≡ is_edited entries file

module _ (entries : List Entry) (edited : List Bool) (entry : Entry) (left : List Entry) (are : AreMarked entries edited (entry ∷ left)) where
  pub marked-kept : is_rewritten entry.outcome ≡ false → AreMarked entries edited left
  marked-kept is file inside =
      ap (λ b. get_or edited file false || ((b && nat_eq entry.definition.place.file file) || is_edited left file)) (sym is) ∙ are file inside

  abbrev its_file : ℕ
  its_file = entry.definition.place.file

  -- by whether it is the entry's file
  is-its-file : is_rewritten entry.outcome ≡ true → (file : ℕ) (b : Bool) → nat_eq its_file file ≡ b
      → (get_or edited file false || ((true && b) || is_edited left file)) ≡ (get_or edited file false || is_edited (entry ∷ left) file)
  is-its-file is file b same =
      ap (λ t. get_or edited file false || ((true && t) || is_edited left file)) (sym same)
      ∙ ap (λ t. get_or edited file false || ((t && nat_eq its_file file) || is_edited left file)) (sym is)

  pub marked-more : is_rewritten entry.outcome ≡ true → AreMarked entries (set edited its_file true) left
  marked-more is file inside = by (cases_eq file its_file)
    where
      within : file < length edited
      within = let long = length-set edited its_file true in omega (arith, inside, long)

      by : (file ≡ its_file) ⊎ (file ≡ its_file → ⊥) → (get_or (set edited its_file true) file false || is_edited left file) ≡ is_edited entries file
      by (inl same) =
          let inside' : its_file < length edited = subst (λ f. f < length edited) same within in
          ap (λ f. get_or (set edited its_file true) f false || is_edited left file) same
          ∙ ap (λ b. b || is_edited left file) (get_or-set_same edited its_file true false inside')
          ∙ sym (or-true (get_or edited file false))
          ∙ is-its-file is file true (eq-eqb its_file file (sym same)) ∙ are file within
      by (inr apart) =
          ap (λ b. b || is_edited left file) (get_or-set_other edited its_file file true false apart)
          ∙ is-its-file is file false (ne_eqb its_file file (λ same. apart (sym same))) ∙ are file within

-- an entry more
pub marked-next : (entries : List Entry) (edited : List Bool) (entry : Entry) (left : List Entry) → AreMarked entries edited (entry ∷ left) → AreMarked entries (with_mark edited entry) left
marked-next entries edited entry left are = by (is_rewritten entry.outcome) refl
  where
    marked : List Bool
    marked = set edited entry.definition.place.file true

    by : (b : Bool) → is_rewritten entry.outcome ≡ b → AreMarked entries (with_mark edited entry) left
    by true is = subst (λ (marks : List Bool). AreMarked entries marks left) (sym (cond-true (is_rewritten entry.outcome) marked edited is)) (marked-more entries edited entry left are is)
    by false is = subst (λ (marks : List Bool). AreMarked entries marks left) (sym (cond-false (is_rewritten entry.outcome) marked edited is)) (marked-kept entries edited entry left are is)

length-mark : (edited : List Bool) (entry : Entry) → length (with_mark edited entry) ≡ length edited
length-mark edited entry = by (is_rewritten entry.outcome)
  where
    by : (b : Bool) → length (cond b (set edited entry.definition.place.file true) edited) ≡ length edited
    by true = length-set edited entry.definition.place.file true
    by false = refl

-- marks that are written back
pub marked-step : (entries : List Entry) (edited : List Bool) (entry : Entry) (left : List Entry) (count size : ℕ) (after : List Bool) → after ≡ with_mark edited entry
    → size ≡ length edited → length edited ≡ count → AreMarked entries edited (entry ∷ left)
    → (length (take size (after ++ drop (length after) edited)) ≡ count) × AreMarked entries (take size (after ++ drop (length after) edited)) left
marked-step entries edited entry left count size after is whole long are =
    let same : length after ≡ length edited = ap length is ∙ length-mark edited entry in
    let back : take size (after ++ drop (length after) edited) ≡ after = take_at after (drop (length after) edited) size (omega (arith, whole, same)) in (
      ap length back ∙ same ∙ long,
      subst (λ (marks : List Bool). AreMarked entries marks left) (sym (back ∙ is)) (marked-next entries edited entry left are),
    )

pub all-marked : (entries : List Entry) (edited : List Bool) (count : ℕ) → length edited ≡ count → AreMarked entries edited [] → edited ≡ map (is_edited entries) (range_with_len 0 count)
all-marked entries edited count long are =
    fill_by_all (is_edited entries) edited count false long (λ file inside. sym (or-false (get_or edited file false)) ∙ are file (omega (arith, inside, long)))

-- ---- files

range-more : (n : ℕ) → range_with_len 0 (n + 1) ≡ range_with_len 0 n ++ n ∷ []
range-more n =
    sym (map-id (range_with_len 0 (n + 1))) ∙ map-range_with_len_more (λ (x : ℕ). x) 0 n n (omega arith) ∙ ap (λ (xs : List ℕ). xs ++ n ∷ []) (map-id (range_with_len 0 n))

pub file-more : {X : Type 0} (f : ℕ → X) (p : ℕ → Bool) (n : ℕ) → map f (filter p (range_with_len 0 (n + 1))) ≡ map f (filter p (range_with_len 0 n)) ++ map f (cond (p n) (n ∷ []) [])
file-more f p n =
    ap (λ (xs : List ℕ). map f (filter p xs)) (range-more n) ∙ ap (map f) (filter-append p (range_with_len 0 n) (n ∷ []))
    ∙ map-append f (filter p (range_with_len 0 n)) (filter p (n ∷ []))

filter-within : (p q : ℕ → Bool) (n at : ℕ) → ((k : ℕ) → k < n → p (at + k) ≡ q (at + k)) → filter p (range_with_len at n) ≡ filter q (range_with_len at n)
filter-within p q zero at same = refl
filter-within p q (suc n) at same =
    let first : p at ≡ q at = subst (λ k. p k ≡ q k) (omega arith) (same 0 (omega arith)) in
    let rest = filter-within p q n (at + 1) (λ k less. subst (λ m. p m ≡ q m) (omega arith) (same (suc k) (omega (arith, less)))) in
    ap (λ b. cond b (at ∷ filter p (range_with_len (at + 1) n)) (filter p (range_with_len (at + 1) n))) first
    ∙ ap (λ (xs : List ℕ). cond (q at) (at ∷ xs) xs) rest

-- the marked ones are those that pass the test by which they were marked
pub marked-are : (test : ℕ → Bool) (n : ℕ) (edited : List Bool) → edited ≡ map test (range_with_len 0 n)
    → filter (λ file. get_or edited file false) (range_with_len 0 (length edited)) ≡ filter test (range_with_len 0 n)
marked-are test n edited is =
    ap (λ m. filter (λ file. get_or edited file false) (range_with_len 0 m)) (ap length is ∙ length-map-range_with_len test 0 n)
    ∙ filter-within (λ file. get_or edited file false) test n 0
    (λ k less. ap (λ (xs : List Bool). get_or xs (0 + k) false) is ∙ get_or-map-range_with_len test 0 n (0 + k) (0 + k) false (omega (arith, less)) (omega arith))
