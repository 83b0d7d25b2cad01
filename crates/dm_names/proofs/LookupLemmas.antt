-- What the indexes tell.
use Rattle.std.specs.Prelude.{find, option_and_then, nat_lt, slice_get, unwrap_or}
use Rattle.std.specs.List.{list_any}
use Rattle.std.proofs.Common.{◌≡◌, ◌<◌, ◌≤◌, ◌+◌, ◌==◌, ◌||◌, if◌then◌else◌, ℕ, zero, suc, Bool, true, false, List, [], ◌∷◌, ◌++◌, length, take, get_or, Option, Some, None, arith, refl, sym, ap, ◌∙◌, append_assoc, append-nil, length-append}
use Rattle.std.proofs.Math.Seq.{take-append_seam}
use Rattle.std.proofs.lemmas.List.Folds.{list_any-append}
use Rattle.std.proofs.lemmas.Option.{slice_get-get_or, slice_get_past}
use Rattle.dm_scope.specs.Scopes.{or_else}
use Rattle.dm_tree.specs.Units.{TypedUnit}
use Rattle.dm_names.specs.declared.identifier.Entered.{Entered}
use Rattle.dm_names.specs.declared.identifier.Identifier.{Identifier}
use Rattle.dm_names.specs.declared.seen.Shown.{Shown}
use Rattle.dm_names.specs.Declarations.{structs_shown, structs_in}
use Rattle.dm_names.specs.Indexes.{ends_from}
use Rattle.dm_names.specs.Meanings.{is_at, has_number, entered_in}
use Rattle.dm_names.specs.Positions.{noted, no_positions, identifiers_noted, entered_noted, shown_noted}

-- ---- identifiers

kept : (before : ℕ → Option ℕ) (n v at : ℕ) (all : List Identifier) → before at ≡ Some v → identifiers_noted before n all at ≡ Some v
kept before n v at [] is = is
kept before n v at (one ∷ others) is =
    kept (noted before one.at n) (n + 1) v at others (ap (λ b. or_else b (if one.at == at then Some n else None)) is)

at-seam : {A : Type 0} (front behind : List A) (x : A) → slice_get (front ++ x ∷ behind) (length front) ≡ Some x
at-seam [] behind x = refl
at-seam (y ∷ front) behind x = at-seam front behind x

found-by : (before : ℕ → Option ℕ) (front : List Identifier) (one : Identifier) (others : List Identifier) (at : ℕ) → before at ≡ None
    → (noted before one.at (length front) at ≡ None
    → option_and_then (slice_get ((front ++ one ∷ []) ++ others)) (identifiers_noted (noted before one.at (length front)) (length (front ++ one ∷ [])) others at) ≡ find (is_at at) others)
    → (here : Bool) → (one.at == at) ≡ here
    → option_and_then (slice_get (front ++ one ∷ others)) (identifiers_noted before (length front) (one ∷ others) at) ≡ find (is_at at) (one ∷ others)
found-by before front one others at none rest true here =
    ap (option_and_then (slice_get (front ++ one ∷ others)))
    (kept (noted before one.at (length front)) (length front + 1) (length front) at others
    (ap (λ b. or_else b (if one.at == at then Some (length front) else None)) none ∙ ap (λ b. if b then Some (length front) else None) here))
    ∙ at-seam front others one
    ∙ sym (ap (λ b. if b then Some one else find (is_at at) others) here)
found-by before front one others at none rest false here =
    ap (λ all. option_and_then (slice_get all) (identifiers_noted (noted before one.at (length front)) (length front + 1) others at)) (sym (append_assoc front (one ∷ []) others))
    ∙ ap (λ n. option_and_then (slice_get ((front ++ one ∷ []) ++ others)) (identifiers_noted (noted before one.at (length front)) n others at)) (sym (length-append front (one ∷ [])))
    ∙ rest (ap (λ b. or_else b (if one.at == at then Some (length front) else None)) none ∙ ap (λ b. if b then Some (length front) else None) here)
    ∙ sym (ap (λ b. if b then Some one else find (is_at at) others) here)

found-behind : (before : ℕ → Option ℕ) (front all : List Identifier) (at : ℕ) → before at ≡ None
    → option_and_then (slice_get (front ++ all)) (identifiers_noted before (length front) all at) ≡ find (is_at at) all
found-behind before front [] at none = ap (option_and_then (slice_get (front ++ []))) none
found-behind before front (one ∷ others) at none =
    found-by before front one others at none (found-behind (noted before one.at (length front)) (front ++ one ∷ []) others at) (one.at == at) refl

-- the first identifier at a token is found by its position
pub meaning-found : (all : List Identifier) (at : ℕ) → option_and_then (slice_get all) (identifiers_noted no_positions 0 all at) ≡ find (is_at at) all
meaning-found all at = found-behind no_positions [] all at refl

-- ---- entries in file scope

entered-kept : (before : ℕ → Option ℕ) (k v d : ℕ) (all : List Entered) → before d ≡ Some v → entered_noted before k all d ≡ Some v
entered-kept before k v d [] is = is
entered-kept before k v d (one ∷ others) is =
    entered-kept (noted before one.number k) k v d others (ap (λ b. or_else b (if one.number == d then Some k else None)) is)

shown-kept : (before : ℕ → Option ℕ) (k v d : ℕ) (all : List Shown) → before d ≡ Some v → shown_noted before k all d ≡ Some v
shown-kept before k v d [] is = is
shown-kept before k v d (one ∷ others) is =
    shown-kept (entered_noted before k one.entered) (k + 1) v d others (entered-kept before k v d one.entered is)

entered-by : (before : ℕ → Option ℕ) (k d : ℕ) (one : Entered) (others : List Entered) → before d ≡ None
    → (noted before one.number k d ≡ None → entered_noted (noted before one.number k) k others d ≡ (if list_any (has_number d) others then Some k else None))
    → (here : Bool) → (one.number == d) ≡ here
    → entered_noted before k (one ∷ others) d ≡ (if list_any (has_number d) (one ∷ others) then Some k else None)
entered-by before k d one others none rest true here =
    entered-kept (noted before one.number k) k k d others
    (ap (λ b. or_else b (if one.number == d then Some k else None)) none ∙ ap (λ b. if b then Some k else None) here)
    ∙ sym (ap (λ b. if b || list_any (has_number d) others then Some k else None) here)
entered-by before k d one others none rest false here =
    rest (ap (λ b. or_else b (if one.number == d then Some k else None)) none ∙ ap (λ b. if b then Some k else None) here)
    ∙ sym (ap (λ b. if b || list_any (has_number d) others then Some k else None) here)

entered-tells : (before : ℕ → Option ℕ) (k d : ℕ) (all : List Entered) → before d ≡ None → entered_noted before k all d ≡ (if list_any (has_number d) all then Some k else None)
entered-tells before k d [] none = none
entered-tells before k d (one ∷ others) none = entered-by before k d one others none (entered-tells (noted before one.number k) k d others) (one.number == d) refl

-- one of the first external declarations
abbrev pub is_below : ℕ → Option ℕ → Bool
is_below k None = false
is_below k (Some n) = nat_lt n k

not-below : (n m : ℕ) → m ≤ n → nat_lt n m ≡ false
not-below n m least = search (arith, least)

below : (n k : ℕ) → nat_lt n (n + suc k) ≡ true
below n k = search (arith)

earlier-by : (before : ℕ → Option ℕ) (n m d : ℕ) (one : Shown) (others : List Shown) → before d ≡ None → m ≤ n
    → (entered_noted before n one.entered d ≡ None → is_below m (shown_noted (entered_noted before n one.entered) (n + 1) others d) ≡ false)
    → (here : Bool) → list_any (has_number d) one.entered ≡ here
    → is_below m (shown_noted before n (one ∷ others) d) ≡ false
earlier-by before n m d one others none least rest true here =
    ap (is_below m) (shown-kept (entered_noted before n one.entered) (n + 1) n d others
    (entered-tells before n d one.entered none ∙ ap (λ b. if b then Some n else None) here))
    ∙ not-below n m least
earlier-by before n m d one others none least rest false here =
    rest (entered-tells before n d one.entered none ∙ ap (λ b. if b then Some n else None) here)

none-earlier : (before : ℕ → Option ℕ) (n m d : ℕ) (all : List Shown) → before d ≡ None → m ≤ n → is_below m (shown_noted before n all d) ≡ false
none-earlier before n m d [] none least = ap (is_below m) none
none-earlier before n m d (one ∷ others) none least =
    earlier-by before n m d one others none least (λ unset. none-earlier (entered_noted before n one.entered) (n + 1) m d others unset (omega (arith, least)))
    (list_any (has_number d) one.entered) refl

scope-by : (before : ℕ → Option ℕ) (n k d : ℕ) (one : Shown) (others : List Shown) → before d ≡ None
    → (entered_noted before n one.entered d ≡ None
    → is_below ((n + 1) + k) (shown_noted (entered_noted before n one.entered) (n + 1) others d) ≡ list_any (has_number d) (entered_in (take k others)))
    → (here : Bool) → list_any (has_number d) one.entered ≡ here
    → is_below (n + suc k) (shown_noted before n (one ∷ others) d) ≡ list_any (has_number d) (one.entered ++ entered_in (take k others))
scope-by before n k d one others none rest true here =
    ap (is_below (n + suc k)) (shown-kept (entered_noted before n one.entered) (n + 1) n d others
    (entered-tells before n d one.entered none ∙ ap (λ b. if b then Some n else None) here))
    ∙ below n k
    ∙ sym (list_any-append (has_number d) one.entered (entered_in (take k others)) ∙ ap (λ b. b || list_any (has_number d) (entered_in (take k others))) here)
scope-by before n k d one others none rest false here =
    let next : n + suc k ≡ (n + 1) + k = omega (arith) in
    ap (λ m. is_below m (shown_noted (entered_noted before n one.entered) (n + 1) others d)) next
    ∙ rest (entered-tells before n d one.entered none ∙ ap (λ b. if b then Some n else None) here)
    ∙ sym (list_any-append (has_number d) one.entered (entered_in (take k others)) ∙ ap (λ b. b || list_any (has_number d) (entered_in (take k others))) here)

scope-behind : (before : ℕ → Option ℕ) (n k d : ℕ) (all : List Shown) → before d ≡ None
    → is_below (n + k) (shown_noted before n all d) ≡ list_any (has_number d) (entered_in (take k all))
scope-behind before n zero d all none = none-earlier before n (n + 0) d all none (omega (arith))
scope-behind before n (suc k) d [] none = ap (is_below (n + suc k)) none
scope-behind before n (suc k) d (one ∷ others) none =
    scope-by before n k d one others none (scope-behind (entered_noted before n one.entered) (n + 1) k d others) (list_any (has_number d) one.entered) refl

-- an entry stands in file scope where its first external declaration is among these
pub scope-told : (k d : ℕ) (all : List Shown) → is_below k (shown_noted no_positions 0 all d) ≡ list_any (has_number d) (entered_in (take k all))
scope-told k d all =
    let same : 0 + k ≡ k = omega (arith) in
    ap (λ m. is_below m (shown_noted no_positions 0 all d)) (sym same) ∙ scope-behind no_positions 0 k d all refl

-- ---- structs

module _ (one : TypedUnit) where
  pub ends-behind : (front : List ℕ) (all : List Shown) (k e : ℕ) → slice_get (ends_from one (length front) all) k ≡ Some e → take e (front ++ structs_in one all) ≡ front ++ structs_in one (take k all)
  ends-behind front [] zero e is =
      ap (λ n. take n (front ++ [])) (sym (ap (λ found. unwrap_or found 0) is)) ∙ take-append_seam front [] ∙ sym (append-nil front)
  ends-behind front (first ∷ others) zero e is =
      ap (λ n. take n (front ++ structs_in one (first ∷ others))) (sym (ap (λ found. unwrap_or found 0) is)) ∙ take-append_seam front (structs_in one (first ∷ others)) ∙ sym (append-nil front)
  ends-behind front [] (suc k) e is = absurd (cc)
  ends-behind front (first ∷ others) (suc k) e is =
      let here = structs_shown one first in
      ap (take e) (sym (append_assoc front here (structs_in one others)))
      ∙ ends-behind (front ++ here) others k e (ap (λ n. slice_get (ends_from one n others) k) (length-append front here) ∙ is)
      ∙ append_assoc front here (structs_in one (take k others))

  pub all-behind : (n : ℕ) (all : List Shown) (k : ℕ) → slice_get (ends_from one n all) k ≡ None → structs_in one all ≡ structs_in one (take k all)
  all-behind n [] zero is = refl
  all-behind n [] (suc k) is = refl
  all-behind n (first ∷ others) zero is = absurd (cc)
  all-behind n (first ∷ others) (suc k) is = ap (λ rest. structs_shown one first ++ rest) (all-behind (n + length (structs_shown one first)) others k is)

-- The structs that can be named behind the first external declarations are the first of all.
pub visible-some : (one : TypedUnit) (all : List Shown) (structs ends : List ℕ) (k e : ℕ) → ends ≡ ends_from one 0 all → structs ≡ structs_in one all → k < length ends → e ≡ get_or ends k e
    → take e structs ≡ structs_in one (take k all)
visible-some one all structs ends k e are made inside is =
    ap (take e) made
    ∙ ends-behind one [] all k e (ap (λ xs. slice_get xs k) (sym are) ∙ slice_get-get_or ends k e inside ∙ ap (λ n. Some n) (sym is))

pub visible-none : (one : TypedUnit) (all : List Shown) (ends : List ℕ) (k : ℕ) → ends ≡ ends_from one 0 all → length ends ≤ k → structs_in one all ≡ structs_in one (take k all)
visible-none one all ends k are past = all-behind one 0 all k (ap (λ xs. slice_get xs k) (sym are) ∙ slice_get_past ends k past)
