-- Walks along parts, and parts joined by slashes.
use Rattle.std.proofs.Common.{◌≡◌, ℕ, zero, suc, ◌+◌, ◌-◌, ◌<◌, ◌≤◌, Bool, true, false, cond, List, [], ◌∷◌, ◌++◌, length, take, drop, get_or, map, Option, None, Some, is_some, IsSome, option_and_then, option_to_list, refl, sym, ap, ◌∙◌, arith, bytes_eq, codes, subst, true≢false, append-nil, add-one, drop-cons, if◌then◌else◌}
use Rattle.std.proofs.lemmas.Grind.{common_steps}
use Rattle.std.specs.List.{join_with_byte, flat_map, filter_map}
use Rattle.std.proofs.Math.ListN.{drop_of_length-le}
use Rattle.std.proofs.lemmas.List.{length-map}
use Rattle.std.proofs.lemmas.List.Elements.{filter_map-append}
use Rattle.dm_search.specs.Joining.{HasWalked, parent_of, parts_of, named, entered, walked, joined, folder_of, places, candidates}

-- parts behind a first one
pub join-cons : (x : List ℕ) (xs : List (List ℕ)) → join_with_byte 47 (x ∷ xs) ≡ x ++ flat_map (λ part. 47 ∷ part) xs
join-cons x [] = sym (append-nil x)
join-cons x (y ∷ xs) = ap (λ rest. x ++ (47 ∷ rest)) (join-cons y xs)

-- one more part
pub entered-dot : (parts : List (List ℕ)) (part dot : List ℕ) (b : Bool) → dot ≡ codes "." → b ≡ bytes_eq part dot → b ≡ true → entered parts part ≡ Some parts
unfolding entered
entered-dot parts part dot b d e t =
    let is : bytes_eq part (codes ".") ≡ true = ap (bytes_eq part) (sym d) ∙ sym e ∙ t in
    ap (λ a. cond a (Some parts) (cond (bytes_eq part (codes "..")) (parent_of parts) (Some (parts ++ part ∷ [])))) is

not-dot : (parts : List (List ℕ)) (part dot : List ℕ) (b : Bool) → dot ≡ codes "." → b ≡ bytes_eq part dot → b ≡ false → entered parts part ≡ cond (bytes_eq part (codes "..")) (parent_of parts) (Some (parts ++ part ∷ []))
unfolding entered
not-dot parts part dot b d e t =
    let is : bytes_eq part (codes ".") ≡ false = ap (bytes_eq part) (sym d) ∙ sym e ∙ t in
    ap (λ a. cond a (Some parts) (cond (bytes_eq part (codes "..")) (parent_of parts) (Some (parts ++ part ∷ [])))) is

pub entered-up : (parts : List (List ℕ)) (part dot dots : List ℕ) (a b : Bool) → dot ≡ codes "." → a ≡ bytes_eq part dot → a ≡ false → dots ≡ codes ".." → b ≡ bytes_eq part dots → b ≡ true → entered parts part ≡ parent_of parts
entered-up parts part dot dots a b d e f d' e' t =
    let is : bytes_eq part (codes "..") ≡ true = ap (bytes_eq part) (sym d') ∙ sym e' ∙ t in
    not-dot parts part dot a d e f ∙ ap (λ c. cond c (parent_of parts) (Some (parts ++ part ∷ []))) is

pub entered-plain : (parts : List (List ℕ)) (part dot dots : List ℕ) (a b : Bool) → dot ≡ codes "." → a ≡ bytes_eq part dot → a ≡ false → dots ≡ codes ".." → b ≡ bytes_eq part dots → b ≡ false → entered parts part ≡ Some (parts ++ part ∷ [])
entered-plain parts part dot dots a b d e f d' e' t =
    let is : bytes_eq part (codes "..") ≡ false = ap (bytes_eq part) (sym d') ∙ sym e' ∙ t in
    not-dot parts part dot a d e f ∙ ap (λ c. cond c (parent_of parts) (Some (parts ++ part ∷ []))) is

map-take : {A : Type 0} (f : A → List ℕ) (n : ℕ) (xs : List A) → take n (map f xs) ≡ map f (take n xs)
map-take f n [] = grind (arith, common_steps)
map-take f zero (x ∷ xs) = refl
map-take f (suc n) (x ∷ xs) = ap (λ rest. f x ∷ rest) (map-take f n xs)

-- what a pop leaves are the parts without the last
popped_whole : {A : Type 0} (f : A → List ℕ) (old new : List A) (r : Option A) → new ≡ take (length old - 1) old → (IsSome r → 0 < length old) → (0 < length old → IsSome r) → HasWalked (is_some r) (map f new) (parent_of (map f old))
unfolding parent_of
popped_whole f [] new None e there some = refl
popped_whole f [] new (Some x) e there some = absurd (omega (arith, there refl))
popped_whole f (x ∷ xs) new None e there some = absurd (true≢false (sym (some (omega arith))))
popped_whole f (x ∷ xs) new (Some y) e there some =
    let cut : take (length (map f xs)) (f x ∷ map f xs) ≡ map f (take (length xs) (x ∷ xs)) = ap (λ n. take n (f x ∷ map f xs)) (length-map xs f) ∙ map-take f (length xs) (x ∷ xs) in
    let n : length (x ∷ xs) - 1 ≡ length xs = omega arith in
    ap Some (cut ∙ ap (λ m. map f (take m (x ∷ xs))) (sym n) ∙ ap (map f) (sym e))

pub popped : {A : Type 0} (f : A → List ℕ) (old new : List A) (r : Option A) (n : ℕ) → n ≡ length old → new ≡ take (n - 1) old → (IsSome r → 0 < n) → (0 < n → IsSome r) → HasWalked (is_some r) (map f new) (parent_of (map f old))
popped f old new r n e rest there some =
    popped_whole f old new r (rest ∙ ap (λ m. take (m - 1) old) e) (λ h. subst (λ m. 0 < m) e (there h)) (λ h. some (subst (λ m. 0 < m) (sym e) h))

-- a walk along some parts and then along more
pub walked-append : (front rest : List (List ℕ)) (parts : List (List ℕ)) → walked (front ++ rest) parts ≡ option_and_then (walked rest) (walked front parts)
unfolding walked
walked-append [] rest parts = refl
walked-append (part ∷ front) rest parts = by (entered parts part) (walked-append front rest)
  where
    by : (now : Option (List (List ℕ))) → ((parts : List (List ℕ)) → walked (front ++ rest) parts ≡ option_and_then (walked rest) (walked front parts)) → option_and_then (walked (front ++ rest)) now ≡ option_and_then (walked rest) (option_and_then (walked front) now)
    by None same = refl
    by (Some kept) same = same kept

-- the next step of a walk
pub walked-step : {A : Type 0} (f : A → List ℕ) (steps : List A) (i : ℕ) (d : A) (parts : List (List ℕ)) → i < length steps → walked (map f (drop i steps)) parts ≡ option_and_then (walked (map f (drop (i + 1) steps))) (entered parts (f (get_or steps i d)))
unfolding walked
walked-step f steps i d parts h = rw (add-one, drop-cons steps i d) refl

-- the end of a walk
pub walked-end : {A : Type 0} (f : A → List ℕ) (steps : List A) (i : ℕ) (parts : List (List ℕ)) → length steps ≤ i → walked (map f (drop i steps)) parts ≡ Some parts
unfolding walked
walked-end f steps i parts h = ap (λ rest. walked (map f rest) parts) (drop_of_length-le steps h)

-- a step that has no place ends a walk
pub walk-fails : {A : Type 0} (f : A → List ℕ) (steps : List A) (i : ℕ) (d : A) (first parts new : List (List ℕ)) (b : Bool)
    → walked (map f steps) first ≡ walked (map f (drop i steps)) parts → i < length steps → HasWalked b new (entered parts (f (get_or steps i d))) → b ≡ false
    → walked (map f steps) first ≡ None
walk-fails f steps i d first parts new b so_far inside step is_false =
    let none : entered parts (f (get_or steps i d)) ≡ None = subst (λ c. HasWalked c new (entered parts (f (get_or steps i d)))) is_false step in
    so_far ∙ walked-step f steps i d parts inside ∙ ap (option_and_then (walked (map f (drop (i + 1) steps)))) none

-- one that has its place leaves the rest
pub walk-goes : {A : Type 0} (f : A → List ℕ) (steps : List A) (i : ℕ) (d : A) (first parts new : List (List ℕ)) (b : Bool)
    → walked (map f steps) first ≡ walked (map f (drop i steps)) parts → i < length steps → HasWalked b new (entered parts (f (get_or steps i d))) → b ≡ true
    → walked (map f steps) first ≡ walked (map f (drop (i + 1) steps)) new
walk-goes f steps i d first parts new b so_far inside step is_true =
    let some : entered parts (f (get_or steps i d)) ≡ Some new = subst (λ c. HasWalked c new (entered parts (f (get_or steps i d)))) is_true step in
    so_far ∙ walked-step f steps i d parts inside ∙ ap (option_and_then (walked (map f (drop (i + 1) steps)))) some

-- a folder that lies outside
pub joined-outside : (folder name : List ℕ) (start parts : List (List ℕ)) (b : Bool) → start ≡ [] → HasWalked b parts (walked (parts_of folder) start) → b ≡ false → joined folder name ≡ None
unfolding joined
joined-outside folder name start parts b none walk is_false =
    let outside : walked (parts_of folder) [] ≡ None = subst (λ s. HasWalked false parts (walked (parts_of folder) s)) none (subst (λ c. HasWalked c parts (walked (parts_of folder) start)) is_false walk) in
    ap (option_and_then named) (walked-append (parts_of folder) (parts_of name) [] ∙ ap (option_and_then (walked (parts_of name))) outside)

-- a name that is walked from a folder inside
joined-by : (folder name : List ℕ) (start middle : List (List ℕ)) (a : Bool) → start ≡ [] → HasWalked a middle (walked (parts_of folder) start) → a ≡ true → joined folder name ≡ option_and_then named (walked (parts_of name) middle)
unfolding joined
joined-by folder name start middle a none walk is_true =
    let inside : walked (parts_of folder) [] ≡ Some middle = subst (λ s. HasWalked true middle (walked (parts_of folder) s)) none (subst (λ c. HasWalked c middle (walked (parts_of folder) start)) is_true walk) in
    ap (option_and_then named) (walked-append (parts_of folder) (parts_of name) [] ∙ ap (option_and_then (walked (parts_of name))) inside)

-- it leads outside
pub joined-outside_later : (folder name : List ℕ) (start middle end : List (List ℕ)) (a b : Bool) → start ≡ [] → HasWalked a middle (walked (parts_of folder) start) → a ≡ true
    → HasWalked b end (walked (parts_of name) middle) → b ≡ false → joined folder name ≡ None
joined-outside_later folder name start middle end a b none walk is_true later is_false =
    joined-by folder name start middle a none walk is_true ∙ ap (option_and_then named) (subst (λ c. HasWalked c end (walked (parts_of name) middle)) is_false later)

-- or inside
pub joined-inside : (folder name : List ℕ) (start middle end : List (List ℕ)) (a b : Bool) → start ≡ [] → HasWalked a middle (walked (parts_of folder) start) → a ≡ true
    → HasWalked b end (walked (parts_of name) middle) → b ≡ true → joined folder name ≡ named end
joined-inside folder name start middle end a b none walk is_true later inside =
    joined-by folder name start middle a none walk is_true ∙ ap (option_and_then named) (subst (λ c. HasWalked c end (walked (parts_of name) middle)) inside later)

one-candidate : (found : Option (List ℕ)) → filter_map (λ f. f) (found ∷ []) ≡ option_to_list found
one-candidate None = refl
one-candidate (Some x) = refl

-- one more folder to look in
pub candidates-push : (name from : List ℕ) (quoted : Bool) (folders : List (List ℕ)) (folder : List ℕ) → candidates name (places from quoted (folders ++ folder ∷ [])) ≡ candidates name (places from quoted folders) ++ option_to_list (joined folder name)
candidates-push name from true folders folder =
    filter_map-append (λ f. joined f name) (folder_of from ∷ folders) (folder ∷ []) ∙ ap (λ rest. candidates name (folder_of from ∷ folders) ++ rest) (one-candidate (joined folder name))
candidates-push name from false folders folder =
    filter_map-append (λ f. joined f name) folders (folder ∷ []) ∙ ap (λ rest. candidates name folders ++ rest) (one-candidate (joined folder name))
