-- Values that are taken apart on the way to a part.
use Rattle.std.proofs.Common.{◌≡◌, ℕ, zero, suc, ◌<◌, ◌≤◌, List, [], ◌∷◌, ◌++◌, length, map, get_or, slice_set, refl, sym, ap, ◌∙◌, arith}
use Rattle.std.proofs.lemmas.List.{map-set}
use Rattle.dm_meaning.specs.Values as values
use Rattle.dm_meaning.specs.Values.{with_part, changed_value, parts_in}
use Rattle.dm_value.specs.declared.parts.Opened.{Opened}
use Rattle.dm_value.specs.declared.path.Part.{Part}
use Rattle.dm_value.specs.declared.value.Value.{Value}
use Rattle.dm_value.specs.Closed.{closed, closed_one}
use Rattle.dm_value.specs.Parts.{view_of_part}
use Rattle.dm_value.specs.Views.{view_of_value}

-- one more is the innermost
pub closed-push : (outer : List Opened) (opened : Opened) (inner : values.Value) → closed (outer ++ opened ∷ []) inner ≡ closed outer (closed_one opened inner)
closed-push [] opened inner = refl
closed-push (first ∷ outer) opened inner = ap (closed_one first) (closed-push outer opened inner)

-- a change of one value
changed-set : (all : List values.Value) (number : ℕ) (change : values.Value → values.Value) (before hidden : values.Value) → number < length all → before ≡ get_or all number before
    → changed_value number change all ≡ slice_set (slice_set all number hidden) number (change before)
changed-set [] number change before hidden within is = elim within [ ]
changed-set (first ∷ rest) zero change before hidden within is = ap (λ value. change value ∷ rest) (sym is)
changed-set (first ∷ rest) (suc number) change before hidden within is = ap (λ others. first ∷ others) (changed-set rest number change before hidden (omega (arith, within)) is)

changed-past : (all : List values.Value) (number : ℕ) (change : values.Value → values.Value) → length all ≤ number → changed_value number change all ≡ all
changed-past [] number change past = refl
changed-past (first ∷ rest) zero change past = elim past [ ]
changed-past (first ∷ rest) (suc number) change past = ap (λ others. first ∷ others) (changed-past rest number change (omega (arith, past)))

got-map : (parts : List Value) (number : ℕ) (before : Value) → number < length parts → before ≡ get_or parts number before
    → view_of_value before ≡ get_or (map view_of_value parts) number (view_of_value before)
got-map [] number before within is = elim within [ ]
got-map (first ∷ rest) zero before within is = ap view_of_value is
got-map (first ∷ rest) (suc number) before within is = got-map rest number before (omega (arith, within)) is

length-map-value : (parts : List Value) → length (map view_of_value parts) ≡ length parts
length-map-value [] = refl
length-map-value (first ∷ rest) = ap suc (length-map-value rest)

-- the whole with a change in one of its parts, which was taken out
pub closed-part : (parts : List Value) (number : ℕ) (before hidden : Value) (path : values.Path) (new whole : values.Value) (opened : Opened)
    → number < length parts → before ≡ get_or parts number before → map view_of_value parts ≡ parts_in whole
    → opened.parts.items ≡ slice_set parts number hidden → opened.number ≡ number
    → closed_one opened (with_part path new (view_of_value before)) ≡ with_part (values.part number ∷ path) new whole
closed-part parts number before hidden path new whole opened within is seen rest at =
    ap (λ all. values.parts (values.values (slice_set all opened.number (with_part path new (view_of_value before))))) (ap (map view_of_value) rest ∙ map-set view_of_value parts number hidden)
    ∙ (ap (λ n. values.parts (values.values (slice_set (slice_set (map view_of_value parts) number (view_of_value hidden)) n (with_part path new (view_of_value before))))) at
    ∙ (ap (λ all. values.parts (values.values all))
    (sym (changed-set (map view_of_value parts) number (with_part path new) (view_of_value before) (view_of_value hidden)
    (omega (arith, within, length-map-value parts)) (got-map parts number before within is)))
    ∙ ap (λ all. values.parts (values.values (changed_value number (with_part path new) all))) seen))

-- there is no such part
pub unchanged-part : (parts : List Value) (number : ℕ) (path : values.Path) (new whole : values.Value) → length parts ≤ number → map view_of_value parts ≡ parts_in whole
    → values.parts (values.values (map view_of_value parts)) ≡ with_part (values.part number ∷ path) new whole
unchanged-part parts number path new whole past seen =
    ap (λ all. values.parts (values.values all))
    (sym (changed-past (map view_of_value parts) number (with_part path new) (omega (arith, past, length-map-value parts)))
    ∙ ap (changed_value number (with_part path new)) seen)

-- one step further in
pub pushed-part : (outer more : List Opened) (opened : Opened) (parts : List Value) (number : ℕ) (before hidden : Value) (path : values.Path) (new whole : values.Value)
    → more ≡ outer ++ opened ∷ [] → number < length parts → before ≡ get_or parts number before → map view_of_value parts ≡ parts_in whole
    → opened.parts.items ≡ slice_set parts number hidden → opened.number ≡ number
    → closed more (with_part path new (view_of_value before)) ≡ closed outer (with_part (values.part number ∷ path) new whole)
pushed-part outer more opened parts number before hidden path new whole is within got seen rest at =
    ap (λ all. closed all (with_part path new (view_of_value before))) is
    ∙ (closed-push outer opened (with_part path new (view_of_value before))
    ∙ ap (closed outer) (closed-part parts number before hidden path new whole opened within got seen rest at))

-- no steps
pub no-steps : (steps : List Part) → length steps ≡ 0 → map view_of_part steps ≡ []
no-steps [] none = refl
no-steps (first ∷ rest) none = grind arith
