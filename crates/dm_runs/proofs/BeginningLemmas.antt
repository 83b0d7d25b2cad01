-- The beginnings of a trail, and those of more and more trails.
use Rattle.std.proofs.Common.{◌≡◌, ℕ, zero, suc, ◌+◌, ◌-◌, ◌<◌, true, false, cond, List, [], ◌∷◌, ◌++◌, length, map, take, drop, reverse, Some, slice_get, get_or, refl, sym, ap, ◌∙◌, arith, fold, append_assoc, add-one, below_more}
use Rattle.std.specs.List.{list_any}
use Rattle.std.specs.Option.{option_map}
use Rattle.std.proofs.lemmas.Option.{slice_get-map, get_or_from_slice_get, slice_get_read}
use Rattle.std.proofs.lemmas.List.{take_more, take-map, length-map, length-drop, reverse-append, get_or_append_left}
use Rattle.std.proofs.Math.Seq.{get_or-append_seam, drop-append_seam}
use Rattle.std.proofs.lemmas.List.Sums.{fold_push}
use Rattle.dm_token.specs.declared.expansion.Mark.{Mark}
use Rattle.dm_token.specs.Equal.{equal}
use Rattle.dm_runs.specs.Beginnings.{beginnings_of, once_more}
use Rattle.dm_runs.specs.Trees.{IsLonger}
use Rattle.dm_runs.proofs.ItemLemmas.{slice_get-left, slice_get-drop, some-same}

pub map-push : {A B : Type 0} (f : A → B) (xs : List A) (x : A) → map f (xs ++ x ∷ []) ≡ map f xs ++ f x ∷ []
map-push f [] x = refl
map-push f (y ∷ xs) x = ap (λ ys. f y ∷ ys) (map-push f xs x)

pub beginnings-push : (trail : List Mark) (mark : Mark) → beginnings_of (trail ++ mark ∷ []) ≡ beginnings_of trail ++ (trail ++ mark ∷ []) ∷ []
beginnings-push [] mark = refl
beginnings-push (first ∷ trail) mark =
    let cons : List Mark → List Mark = λ marks. first ∷ marks in
    ap (λ found. (first ∷ []) ∷ map cons found) (beginnings-push trail mark)
    ∙ ap (λ found. (first ∷ []) ∷ found) (map-push cons (beginnings_of trail) (trail ++ mark ∷ []))

pub length-beginnings : (trail : List Mark) → length (beginnings_of trail) ≡ length trail
length-beginnings [] = refl
length-beginnings (first ∷ trail) = ap suc (length-map (beginnings_of trail) (λ (marks : List Mark). first ∷ marks) ∙ length-beginnings trail)

pub beginning-at : (trail : List Mark) (i : ℕ) → i < length trail → slice_get (beginnings_of trail) i ≡ Some (take (suc i) trail)
beginning-at [] i inside = absurd (omega arith)
beginning-at (first ∷ trail) zero inside = refl
beginning-at (first ∷ trail) (suc i) inside =
    slice_get-map (λ (marks : List Mark). first ∷ marks) (beginnings_of trail) i
    ∙ ap (option_map (λ (marks : List Mark). first ∷ marks)) (beginning-at trail i (omega arith))

-- the first ones are those of the trail that begins it
pub take-beginnings : (trail : List Mark) (n : ℕ) → take n (beginnings_of trail) ≡ beginnings_of (take n trail)
take-beginnings [] zero = refl
take-beginnings [] (suc n) = refl
take-beginnings (first ∷ trail) zero = refl
take-beginnings (first ∷ trail) (suc n) =
    let cons : List Mark → List Mark = λ marks. first ∷ marks in
    ap (λ found. (first ∷ []) ∷ found) (take-map cons n (beginnings_of trail) ∙ ap (map cons) (take-beginnings trail n))

-- what stands in a list of them stays there
pub slice_get-once_more : (found : List (List Mark)) (one : List Mark) (k : ℕ) (trail : List Mark) → slice_get found k ≡ Some trail → slice_get (once_more found one) k ≡ Some trail
slice_get-once_more found one k trail is =
    elim (list_any (equal one) found) as (λ b. slice_get (cond b found (found ++ one ∷ [])) k ≡ Some trail) [
      | true ↦ is
      | false ↦ slice_get-left found (one ∷ []) k trail is
    ]

-- the next beginning of a trail is one mark longer
pub next-longer : (found : List (List Mark)) (above : ℕ) (trail : List Mark) (i : ℕ) → i < length trail → slice_get found above ≡ Some (take i trail) → (d : Mark) → IsLonger found above (take (i + 1) trail)
next-longer found above trail i inside known d = record { outer = take i trail; mark = get_or trail i d; known = known; longer = take_more trail i d inside }

-- the last step of a walk
pub walked : (before : List (List Mark)) (bs : List (List Mark)) (i : ℕ) (b : List Mark) → i < length bs → slice_get bs i ≡ Some b → once_more (fold once_more before (take i bs)) b ≡ fold once_more before (take (i + 1) bs)
walked before bs i b inside is =
    sym (ap (fold once_more before) (take_more bs i b inside) ∙ fold_push once_more before (take i bs) (get_or bs i b) ∙ ap (once_more (fold once_more before (take i bs))) (get_or_from_slice_get bs i b b is))

-- one beginning more is found, from the longest on
pub lineage-step : (all : List (List Mark)) (outer : List Mark) (mark : Mark) (rest : List Mark) (found more : List (List Mark)) → rest ≡ outer ++ mark ∷ [] → more ≡ found ++ rest ∷ []
    → all ≡ beginnings_of rest ++ reverse found → all ≡ beginnings_of outer ++ reverse more
lineage-step all outer mark rest found more is pushed before =
    before ∙ ap (λ bs. bs ++ reverse found) (ap beginnings_of is ∙ beginnings-push outer mark ∙ ap (λ (t : List Mark). beginnings_of outer ++ t ∷ []) (sym is))
    ∙ append_assoc (beginnings_of outer) (rest ∷ []) (reverse found)
    ∙ ap (λ bs. beginnings_of outer ++ bs) (sym (ap reverse pushed ∙ reverse-append found (rest ∷ [])))

-- what was found behind the beginnings that are left
pub lineage-end : (all : List (List Mark)) (rest : List Mark) (found : List (List Mark)) (shared : ℕ) → all ≡ beginnings_of rest ++ found → length rest ≡ shared → found ≡ drop shared all
lineage-end all rest found shared is counted =
    sym (ap (drop shared) is ∙ ap (λ n. drop n (beginnings_of rest ++ found)) (sym counted ∙ sym (length-beginnings rest)) ∙ drop-append_seam (beginnings_of rest) found)

-- the items of a list that are seen as the beginnings behind the shared ones
pub count-is : {A : Type 0} (now : A → List Mark) (items : List A) (trail : List Mark) (shared : ℕ) → map now items ≡ drop shared (beginnings_of trail) → length items ≡ length trail - shared
count-is now items trail shared e =
    sym (length-map items now) ∙ ap length e ∙ length-drop shared (beginnings_of trail) ∙ ap (λ n. n - shared) (length-beginnings trail)

pub item-at : {A : Type 0} (now : A → List Mark) (items : List A) (seen : List (List Mark)) (i : ℕ) (item : A) → map now items ≡ seen → i < length items → item ≡ get_or items i item
    → slice_get seen i ≡ Some (now item)
item-at now items seen i item e inside is =
    ap (λ xs. slice_get xs i) (sym e) ∙ slice_get-map now items i ∙ ap (option_map now) (slice_get_read items (length items) i item refl inside is)

pub item-is : {A : Type 0} (now : A → List Mark) (items : List A) (trail : List Mark) (shared i : ℕ) (item : A) → map now items ≡ drop shared (beginnings_of trail) → i < length items
    → item ≡ get_or items i item → now item ≡ take (shared + i + 1) trail
item-is now items trail shared i item e inside is =
    some-same (now item) (take (shared + i + 1) trail)
    (sym (item-at now items (drop shared (beginnings_of trail)) i item e inside is) ∙ slice_get-drop shared (beginnings_of trail) i
    ∙ beginning-at trail (shared + i) (omega (arith, count-is now items trail shared e, inside)) ∙ ap (λ n. Some (take n trail)) (sym (add-one (shared + i))))

-- one number more
pub numbers-step : (found more : List (List Mark)) (trail : List Mark) (i : ℕ) (numbers : List ℕ) (n : ℕ) → length numbers ≡ i + 1
    → ((k : ℕ) (t : List Mark) → slice_get found k ≡ Some t → slice_get more k ≡ Some t)
    → ((j : ℕ) → j < i + 1 → slice_get found (get_or numbers j 0) ≡ Some (take j trail))
    → slice_get more n ≡ Some (take (i + 1) trail)
    → (j : ℕ) → j < i + 1 + 1 → slice_get more (get_or (numbers ++ n ∷ []) j 0) ≡ Some (take j trail)
numbers-step found more trail i numbers n counted stays before last =
    let P : ℕ → Type 0 = λ j. slice_get more (get_or (numbers ++ n ∷ []) j 0) ≡ Some (take j trail) in
    below_more P (i + 1)
    (λ j below. ap (slice_get more) (get_or_append_left numbers (n ∷ []) 0 j (omega arith)) ∙ stays (get_or numbers j 0) (take j trail) (before j below))
    (ap (slice_get more) (ap (λ k. get_or (numbers ++ n ∷ []) k 0) (sym counted) ∙ get_or-append_seam numbers n [] 0) ∙ last)
