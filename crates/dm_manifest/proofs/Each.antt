-- Reading the items of a list, one after another.
use Rattle.std.proofs.Common.{◌≡◌, ℕ, ◌+◌, ◌<◌, ◌≤◌, List, [], ◌∷◌, ◌++◌, length, drop, get_or, Result, Ok, refl, sym, ap, ◌∙◌, arith, drop-cons, add-one, length-append, subst, zero, suc}
use Rattle.serde_json.specs.Data.{Data, no_items}
use Rattle.serde_json.specs.Events.{items_len}
use Rattle.serde_json.specs.View.{view, items_view}
use Rattle.serde_json.specs.declared.value.Value.{Value}
use Rattle.dm_manifest.specs.declared.fault.ManifestFault.{ManifestFault}
use Rattle.dm_manifest.specs.declared.fault.ManifestFault.TheVariants.{Memory, Json, Shape, Name, Define, Twice, TooMany}
use Rattle.dm_manifest.specs.Faults.{and_then, IsMeant}
use Rattle.dm_manifest.specs.Values.{each_of}

each_of-none : {A : Type 0} (read : List A → Data → Result A ManifestFault) (before : List A) → each_of read before no_items ≡ Ok before
unfolding each_of
each_of-none read before = refl

-- The rest of the items, read behind those before them, gives what all items give.
abbrev pub GoesOn : {A : Type 0} → (List A → Data → Result A ManifestFault) → List Value → ℕ → List A → Type 0
GoesOn read values index before = (each_of read before (items_view (drop index values)) ≡ each_of read [] (items_view values)) × (length before ≡ index)

drop_all : {A : Type 0} (xs : List A) (n : ℕ) → length xs ≤ n → drop n xs ≡ []
drop_all [] zero h = refl
drop_all [] (suc n) h = refl
drop_all (x ∷ xs) zero h = absurd (omega arith)
drop_all (x ∷ xs) (suc n) h = drop_all xs n (omega arith)

-- the next item is read first
next_item : {A : Type 0} (read : List A → Data → Result A ManifestFault) (values : List Value) (index : ℕ) (value : Value) (before : List A) → index < length values → value ≡ get_or values index value →
    each_of read before (items_view (drop index values)) ≡ and_then (read before (view value)) (λ x. each_of read (before ++ x ∷ []) (items_view (drop (index + 1) values)))
unfolding each_of
next_item read values index value before inside is =
    let cut : drop index values ≡ value ∷ drop (index + 1) values = drop-cons values index value inside ∙ ap (λ v. v ∷ drop (suc index) values) (sym is) ∙ ap (λ n. value ∷ drop n values) (sym (add-one index)) in
    ap (λ vs. each_of read before (items_view vs)) cut

-- a fault stays when nothing comes behind it
pub IsMeant-and_then : {A B : Type 0} (fault : ManifestFault) (meant : Result A ManifestFault) (next : A → Result B ManifestFault) → IsMeant fault meant → IsMeant fault (and_then meant next)
IsMeant-and_then Memory meant next is = tt
IsMeant-and_then Json meant next is = is
IsMeant-and_then (Shape path) meant next is = ap (λ r. and_then r next) is
IsMeant-and_then (Name path) meant next is = ap (λ r. and_then r next) is
IsMeant-and_then (Define path) meant next is = ap (λ r. and_then r next) is
IsMeant-and_then (Twice path) meant next is = ap (λ r. and_then r next) is
IsMeant-and_then TooMany meant next is = ap (λ r. and_then r next) is

-- the same along an equation
pub IsMeant-along : {B : Type 0} (fault : ManifestFault) (meant same : Result B ManifestFault) → same ≡ meant → IsMeant fault meant → IsMeant fault same
IsMeant-along {B} fault meant same e is = subst (λ (r : Result B ManifestFault). IsMeant fault r) (sym e) is

-- an item is read
pub item_read : {A : Type 0} (read : List A → Data → Result A ManifestFault) (values : List Value) (index : ℕ) (value : Value) (before : List A) (x : A) → index < length values → value ≡ get_or values index value →
    GoesOn read values index before → read before (view value) ≡ Ok x → GoesOn read values (index + 1) (before ++ x ∷ [])
item_read read values index value before x inside is goes reads = (
  ap (λ r. and_then r (λ y. each_of read (before ++ y ∷ []) (items_view (drop (index + 1) values)))) (sym reads) ∙ sym (next_item read values index value before inside is) ∙ goes.0,
  length-append before (x ∷ []) ∙ ap (λ n. n + 1) goes.1,
)

-- an item is at fault
pub item_at_fault : {A : Type 0} (read : List A → Data → Result A ManifestFault) (values : List Value) (index : ℕ) (value : Value) (before : List A) (fault : ManifestFault) → index < length values → value ≡ get_or values index value →
    GoesOn read values index before → IsMeant fault (read before (view value)) → IsMeant fault (each_of read [] (items_view values))
item_at_fault read values index value before fault inside is goes meant =
    IsMeant-along fault _ _ (sym goes.0 ∙ next_item read values index value before inside is) (IsMeant-and_then fault (read before (view value)) _ meant)

-- all items are read
pub all_read : {A : Type 0} (read : List A → Data → Result A ManifestFault) (values : List Value) (index : ℕ) (before : List A) → length values ≤ index →
    GoesOn read values index before → each_of read [] (items_view values) ≡ Ok before
all_read read values index before past goes = sym goes.0 ∙ ap (λ vs. each_of read before (items_view vs)) (drop_all values index past) ∙ each_of-none read before

-- how many items there are
pub items_len-items_view : (values : List Value) → items_len (items_view values) ≡ length values
items_len-items_view [] = refl
items_len-items_view (value ∷ values) = ap suc (items_len-items_view values)
