-- Steps of a search.
use Rattle.std.proofs.Common.{◌≡◌, ℕ, suc, ◌+◌, ◌<◌, ◌≤◌, Bool, true, false, cond, not, ◌||◌, ◌⊎◌, inl, inr, List, [], ◌∷◌, ◌++◌, length, drop, get_or, Option, None, Result, Ok, Err, refl, sym, ap, ◌∙◌, subst, arith, add-one, drop-cons, bytes_eq, true≢false}
use Rattle.std.proofs.Math.ListN.{drop_of_length-le}
use Rattle.std.proofs.lemmas.List.{length-append}
use Rattle.std.specs.List.{list_any, position_or_len}
use Rattle.dm_token.specs.Limits.{most_files}
use Rattle.dm_token.specs.declared.stop.Stop.{Stop}
use Rattle.dm_token.specs.declared.stop.Stop.TheVariants.{Memory, Refused, Limit, ReadFault}
use Rattle.dm_io.specs.Files.{Files}
use Rattle.dm_search.specs.Loaded.{Loaded, number_of, is_held, is_absent, with_name, found_files}
use Rattle.dm_search.specs.Readable.{StopsReading}
use Rattle.dm_search.specs.Loading.{KeepsBytes}
use Rattle.dm_search.specs.Searching.{IsKnownAbsent, PassesOver, EndsAt, Finds, IsSettled}

-- bytes that cannot be read are not kept
pub kept-error : (bytes : List ℕ) (old new : Loaded) (file : ℕ) (stop : Stop) → StopsReading file bytes stop → new ≡ old → found_files old < most_files → KeepsBytes bytes old file (Err stop) new
kept-error bytes old new file Memory why same few = same
kept-error bytes old new file (Refused refusal) why same few = (few, why, same)
kept-error bytes old new file (Limit limit) why same few = absurd why
kept-error bytes old new file (ReadFault number) why same few = absurd why

-- a place lies inside, or at the end
pub position-le : {X : Type 0} (p : X → Bool) (xs : List X) → position_or_len p xs ≤ length xs
position-le p [] = omega arith
position-le p (x ∷ xs) = by (p x) (position-le p xs)
  where
    by : (b : Bool) → position_or_len p xs ≤ length xs → cond (not b) (1 + position_or_len p xs) 0 ≤ length (x ∷ xs)
    by true le = omega arith
    by false le = omega arith

position-lt : {X : Type 0} (p : X → Bool) (xs : List X) → list_any p xs ≡ true → position_or_len p xs < length xs
position-lt p [] h = absurd (true≢false (sym h))
position-lt p (x ∷ xs) h = by (p x) h (position-lt p xs)
  where
    by : (b : Bool) → (b || list_any p xs) ≡ true → (list_any p xs ≡ true → position_or_len p xs < length xs) → cond (not b) (1 + position_or_len p xs) 0 < length (x ∷ xs)
    by true h lt = omega arith
    by false h lt = let rest = lt h in omega (arith, rest)

-- a name that has a number has it among the names
pub number_of-inside : (loaded : Loaded) (name : List ℕ) → number_of loaded name < length (with_name loaded name).names
number_of-inside loaded name = by (list_any (bytes_eq name) loaded.names) (position-lt (bytes_eq name) loaded.names)
  where
    by : (b : Bool) → (b ≡ true → number_of loaded name < length loaded.names)
        → number_of loaded name < length (cond b loaded (let more : Loaded = record { names = loaded.names ++ name ∷ []; held = loaded.held ++ None ∷ []; absent = loaded.absent } in more)).names
    by true lt = lt refl
    by false lt = let le = position-le (bytes_eq name) loaded.names in let n = length-append loaded.names (name ∷ []) in omega (arith, le, n)

-- the search passes over a name
pub finds-over : (told : Option Files) (header : Option ℕ) (names : List (List ℕ)) (i : ℕ) (name : List ℕ) (old next : Loaded) (result : Result (Option ℕ) Stop) (new : Loaded)
    → i < length names → name ≡ get_or names i name → PassesOver told name old next → Finds told header (drop (i + 1) names) next result new → Finds told header (drop i names) old result new
unfolding Finds
finds-over told header names i name old next result new inside is over rest =
    let cut : drop i names ≡ name ∷ drop (i + 1) names = rw (add-one, drop-cons names i name inside) (ap (λ n. n ∷ drop (suc i) names) (sym is)) in
    subst (λ ns. Finds told header ns old result new) (sym cut) (inr (next, over, rest))

-- or ends at it
pub finds-here : (told : Option Files) (header : Option ℕ) (names : List (List ℕ)) (i : ℕ) (name : List ℕ) (old : Loaded) (result : Result (Option ℕ) Stop) (new : Loaded)
    → i < length names → name ≡ get_or names i name → EndsAt told name old result new → Finds told header (drop i names) old result new
unfolding Finds
finds-here told header names i name old result new inside is ends =
    let cut : drop i names ≡ name ∷ drop (i + 1) names = rw (add-one, drop-cons names i name inside) (ap (λ n. n ∷ drop (suc i) names) (sym is)) in
    subst (λ ns. Finds told header ns old result new) (sym cut) (inl ends)

-- or finds none
pub finds-none : (told : Option Files) (header : Option ℕ) (names : List (List ℕ)) (i : ℕ) (old : Loaded) → length names ≤ i → Finds told header (drop i names) old (Ok header) old
unfolding Finds
finds-none told header names i old past = subst (λ ns. Finds told header ns old (Ok header) old) (sym (drop_of_length-le names past)) (refl, refl)

-- to pass over a name leaves the numbers
pub passes-names : (told : Option Files) (name : List ℕ) (old next : Loaded) → PassesOver told name old next → next.names ≡ old.names
passes-names told name old next (inl known) = ap (λ (l : Loaded). l.names) known.1
passes-names told name old next (inr unknown) = ap (λ (l : Loaded). l.names) unknown.2

-- and needs none behind it
pub settled-over : (told : Option Files) (names : List (List ℕ)) (i : ℕ) (name : List ℕ) (old next : Loaded) → i < length names → name ≡ get_or names i name → IsSettled (drop i names) old
    → PassesOver told name old next → IsSettled (drop (i + 1) names) next × (is_absent old name ≡ true)
settled-over told names i name old next inside is settled over =
    let cut : drop i names ≡ name ∷ drop (i + 1) names = rw (add-one, drop-cons names i name inside) (ap (λ n. n ∷ drop (suc i) names) (sym is)) in
    by (subst (λ ns. IsSettled ns old) cut settled) over
  where
    by : (is_held old (number_of old name) ≡ true) ⊎ (IsKnownAbsent old name × IsSettled (drop (i + 1) names) old) → PassesOver told name old next → IsSettled (drop (i + 1) names) next × (is_absent old name ≡ true)
    by (inl held) (inl known) = absurd (true≢false (sym held ∙ known.0.0))
    by (inl held) (inr unknown) = absurd (true≢false (sym held ∙ unknown.0.0))
    by (inr settled) (inl known) = (subst (IsSettled (drop (i + 1) names)) (sym known.1) settled.1, known.0.1)
    by (inr settled) (inr unknown) = absurd (true≢false (sym settled.0.1 ∙ unknown.0.1))
