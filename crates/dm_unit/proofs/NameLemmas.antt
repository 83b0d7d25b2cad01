-- Names and their numbers.
use Rattle.std.proofs.Common.{◌≡◌, ℕ, zero, suc, ◌+◌, ◌<◌, ◌≤◌, Bool, true, false, cond, not, ◌||◌, List, [], ◌∷◌, ◌++◌, length, get_or, map, Option, None, is_some, refl, sym, ap, ◌∙◌, subst, arith, bytes_eq, true≢false}
use Rattle.std.specs.List.{list_any, position_or_len}
use Rattle.std.proofs.Math.ListN.{get_or-map}
use Rattle.std.proofs.lemmas.List.{map-append, get_or_past, length-append}
use Rattle.std.proofs.lemmas.Slice.Eq.{bytes_eq-Decides}
use Rattle.dm_search.specs.Loaded.{Loaded, number_of, name_of, held_at, is_held, with_name}
use Rattle.dm_unit.specs.States.{Catalogue}
use Rattle.dm_unit.specs.Loaders.{shown}
use Rattle.dm_unit.specs.Includes.{numbered, is_found}
use Rattle.dm_unit.proofs.ListLemmas.{position-here, position-later}

-- a name tests as equal to itself
pub same-name : (name : List ℕ) → bytes_eq name name ≡ true
same-name name = (bytes_eq-Decides name name).1 refl

-- a name among names stands at its place
pub name-at : (name : List ℕ) (names : List (List ℕ)) → list_any (bytes_eq name) names ≡ true → get_or names (position_or_len (bytes_eq name) names) [] ≡ name
name-at name [] h = absurd (true≢false (sym h))
name-at name (x ∷ xs) h = by (bytes_eq name x) refl h (name-at name xs)
  where
    by : (b : Bool) → bytes_eq name x ≡ b → (b || list_any (bytes_eq name) xs) ≡ true
        → (list_any (bytes_eq name) xs ≡ true → get_or xs (position_or_len (bytes_eq name) xs) [] ≡ name)
        → get_or (x ∷ xs) (position_or_len (bytes_eq name) (x ∷ xs)) [] ≡ name
    by true e h next = subst (λ n. get_or (x ∷ xs) n [] ≡ name) (sym (position-here (bytes_eq name) x xs e)) (sym ((bytes_eq-Decides name x).0 e))
    by false e h next = subst (λ n. get_or (x ∷ xs) n [] ≡ name) (sym (position-later (bytes_eq name) x xs e)) (next h)

-- it stands inside
pub name-inside : (name : List ℕ) (names : List (List ℕ)) → list_any (bytes_eq name) names ≡ true → position_or_len (bytes_eq name) names < length names
name-inside name [] h = absurd (true≢false (sym h))
name-inside name (x ∷ xs) h = by (bytes_eq name x) h (name-inside name xs)
  where
    by : (b : Bool) → (b || list_any (bytes_eq name) xs) ≡ true → (list_any (bytes_eq name) xs ≡ true → position_or_len (bytes_eq name) xs < length xs)
        → cond (not b) (1 + position_or_len (bytes_eq name) xs) 0 < length (x ∷ xs)
    by true h lt = omega arith
    by false h lt = let rest = lt h in omega (arith, rest)

-- one that isn't among them would stand behind them
pub name-behind : (name : List ℕ) (names : List (List ℕ)) → list_any (bytes_eq name) names ≡ false → position_or_len (bytes_eq name) names ≡ length names
name-behind name [] h = refl
name-behind name (x ∷ xs) h = by (bytes_eq name x) h (name-behind name xs)
  where
    by : (b : Bool) → (b || list_any (bytes_eq name) xs) ≡ false → (list_any (bytes_eq name) xs ≡ false → position_or_len (bytes_eq name) xs ≡ length xs)
        → cond (not b) (1 + position_or_len (bytes_eq name) xs) 0 ≡ length (x ∷ xs)
    by true h next = absurd (true≢false h)
    by false h next = let rest = next h in omega (arith, rest)

-- names behind don't change the place of one that is there
pub name-kept : (name : List ℕ) (names more : List (List ℕ)) → list_any (bytes_eq name) names ≡ true → position_or_len (bytes_eq name) (names ++ more) ≡ position_or_len (bytes_eq name) names
name-kept name [] more h = absurd (true≢false (sym h))
name-kept name (x ∷ xs) more h = by (bytes_eq name x) h (name-kept name xs more)
  where
    by : (b : Bool) → (b || list_any (bytes_eq name) xs) ≡ true → (list_any (bytes_eq name) xs ≡ true → position_or_len (bytes_eq name) (xs ++ more) ≡ position_or_len (bytes_eq name) xs)
        → cond (not b) (1 + position_or_len (bytes_eq name) (xs ++ more)) 0 ≡ cond (not b) (1 + position_or_len (bytes_eq name) xs) 0
    by true h next = refl
    by false h next = ap (λ n. 1 + n) (next h)

-- a new name goes last
pub name-last : (name : List ℕ) (names : List (List ℕ)) → list_any (bytes_eq name) names ≡ false → position_or_len (bytes_eq name) (names ++ name ∷ []) ≡ length names
name-last name [] h = position-here (bytes_eq name) name [] (same-name name)
name-last name (x ∷ xs) h = by (bytes_eq name x) h (name-last name xs)
  where
    by : (b : Bool) → (b || list_any (bytes_eq name) xs) ≡ false → (list_any (bytes_eq name) xs ≡ false → position_or_len (bytes_eq name) (xs ++ name ∷ []) ≡ length xs)
        → cond (not b) (1 + position_or_len (bytes_eq name) (xs ++ name ∷ [])) 0 ≡ length (x ∷ xs)
    by true h next = absurd (true≢false h)
    by false h next = let rest = next h in omega (arith, rest)

-- THE LOADER WITH A NAME MORE

-- a loader whose last name is new
pub with_last : Loaded → List ℕ → Loaded
with_last old name = record { names = old.names ++ name ∷ []; held = old.held ++ None ∷ []; absent = old.absent }

pub with_name-known : (old : Loaded) (name : List ℕ) → list_any (bytes_eq name) old.names ≡ true → with_name old name ≡ old
unfolding with_last
with_name-known old name h = ap (λ b. cond b old (with_last old name)) h

-- a list of slots has one for each name
abbrev pub HasSlots : Loaded → Type 0
HasSlots loaded = length loaded.held ≡ length loaded.names

pub with_name-slots : (old : Loaded) (name : List ℕ) → HasSlots old → HasSlots (with_name old name)
unfolding with_last
with_name-slots old name slots = by (list_any (bytes_eq name) old.names)
  where
    by : (b : Bool) → HasSlots (cond b old (with_last old name))
    by true = slots
    by false = let h = length-append old.held (None ∷ []) in let n = length-append old.names (name ∷ []) in omega (arith, h, n, slots)

-- what is shown of it
pub shown-with_name : (old : Loaded) (name : List ℕ) → shown (with_name old name) ≡ numbered name (shown old)
unfolding with_last
shown-with_name old name = by (list_any (bytes_eq name) old.names)
  where
    more : Catalogue
    more = record { names = old.names ++ name ∷ []; found = map is_some old.held ++ false ∷ [] }

    by : (b : Bool) → shown (cond b old (with_last old name)) ≡ cond b (shown old) more
    by true = refl
    by false = ap (λ found. record { names = old.names ++ name ∷ []; found = found }) (map-append is_some old.held (None ∷ []))

-- its number stays
pub number-with_name : (old : Loaded) (name : List ℕ) → number_of (with_name old name) name ≡ number_of old name
unfolding with_last
number-with_name old name = by (list_any (bytes_eq name) old.names) refl
  where
    by : (b : Bool) → list_any (bytes_eq name) old.names ≡ b → number_of (cond b old (with_last old name)) name ≡ number_of old name
    by true h = refl
    by false h = name-last name old.names h ∙ sym (name-behind name old.names h)

-- it is the name of its number
pub name-with_name : (old : Loaded) (name : List ℕ) → name_of (with_name old name) (number_of old name) ≡ name
unfolding with_last
name-with_name old name = by (list_any (bytes_eq name) old.names) refl
  where
    last : (names : List (List ℕ)) → get_or (names ++ name ∷ []) (length names) [] ≡ name
    last [] = refl
    last (x ∷ xs) = last xs

    by : (b : Bool) → list_any (bytes_eq name) old.names ≡ b → name_of (cond b old (with_last old name)) (number_of old name) ≡ name
    by true h = name-at name old.names h
    by false h = subst (λ n. get_or (old.names ++ name ∷ []) n [] ≡ name) (sym (name-behind name old.names h)) (last old.names)

-- its number is that of a name
pub number-inside : (old : Loaded) (name : List ℕ) → number_of old name < length (with_name old name).names
unfolding with_last
number-inside old name = by (list_any (bytes_eq name) old.names) refl
  where
    by : (b : Bool) → list_any (bytes_eq name) old.names ≡ b → number_of old name < length (cond b old (with_last old name)).names
    by true h = name-inside name old.names h
    by false h = let behind = name-behind name old.names h in let n = length-append old.names (name ∷ []) in omega (arith, behind, n)

-- a name more holds nothing
pub held-with_name : (old : Loaded) (name : List ℕ) (file : ℕ) → held_at (with_name old name) file ≡ held_at old file
unfolding with_last
held-with_name old name file = by (list_any (bytes_eq name) old.names)
  where
    pushed : (held : List (Option (List ℕ))) (n : ℕ) → get_or (held ++ None ∷ []) n None ≡ get_or held n None
    pushed [] zero = refl
    pushed [] (suc n) = refl
    pushed (x ∷ xs) zero = refl
    pushed (x ∷ xs) (suc n) = pushed xs n

    by : (b : Bool) → held_at (cond b old (with_last old name)) file ≡ held_at old file
    by true = refl
    by false = pushed old.held file

pub absent-with_name : (old : Loaded) (name : List ℕ) → (with_name old name).absent ≡ old.absent
unfolding with_last
absent-with_name old name = by (list_any (bytes_eq name) old.names)
  where
    by : (b : Bool) → (cond b old (with_last old name)).absent ≡ old.absent
    by true = refl
    by false = refl

-- the names with one more
pub names-with_name : (old : Loaded) (name : List ℕ) → (more : List (List ℕ)) × ((with_name old name).names ≡ old.names ++ more) × (length more ≤ 1)
unfolding with_last
names-with_name old name = by (list_any (bytes_eq name) old.names)
  where
    none : (names : List (List ℕ)) → names ≡ names ++ []
    none [] = refl
    none (x ∷ xs) = ap (λ ys. x ∷ ys) (none xs)

    by : (b : Bool) → (more : List (List ℕ)) × ((cond b old (with_last old name)).names ≡ old.names ++ more) × (length more ≤ 1)
    by true = ([], none old.names, omega arith)
    by false = (name ∷ [], refl, omega arith)

-- a file that is held is found, and no other
pub found-is : (loaded : Loaded) (file : ℕ) → is_found (shown loaded) file ≡ is_held loaded file
found-is loaded file = get_or-map is_some loaded.held file None

-- a name whose file is held is among the names
pub held-among : (loaded : Loaded) (name : List ℕ) → HasSlots loaded → is_held loaded (number_of loaded name) ≡ true → list_any (bytes_eq name) loaded.names ≡ true
held-among loaded name slots held = by (list_any (bytes_eq name) loaded.names) refl
  where
    by : (b : Bool) → list_any (bytes_eq name) loaded.names ≡ b → b ≡ true
    by true h = refl
    by false h =
        let behind : length loaded.held ≤ number_of loaded name = omega (arith, name-behind name loaded.names h, slots) in
        absurd (true≢false (sym held ∙ ap is_some (get_or_past loaded.held (number_of loaded name) None behind)))
