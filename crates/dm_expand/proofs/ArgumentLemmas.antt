-- Invocations, a token at a time.
use Rattle.std.proofs.Common.{◌≡◌, ℕ, zero, suc, ◌+◌, ◌-◌, ◌<◌, ◌≤◌, Bool, true, false, cond, ◌&&◌, eqb, nat_lt, List, [], ◌∷◌, ◌++◌, length, take, drop, get_or, refl, sym, ap, ◌∙◌, Option, Some, None, append_assoc}
use Rattle.std.specs.Option.{MatchOption}
use Rattle.std.proofs.lemmas.Bool.{cond-true, cond-false, false≢true, and_parts, eqb-true}
use Rattle.std.proofs.lemmas.List.{append-nil, at_drop_more, drop_all, take_all, take_more}
use Rattle.dm_expand.specs.Items.{Item}
use Rattle.dm_expand.specs.Arguments.{Enclosed, enclosed_in, inside_too, depth_behind, closes, separates, in_first, separated, exact_arguments}
use Rattle.dm_expand.specs.Views.{all_inside, in_front, is_one_empty}

pub enclosed_in-closes : (depth : ℕ) (item : Item) (others : List Item) → (closes item && eqb depth 0) ≡ true → enclosed_in depth (item ∷ others) ≡ Some (record { inside = []; closing = item; rest = others })
unfolding enclosed_in
enclosed_in-closes depth item others is = cond-true _ _ _ is

pub enclosed_in-goes_on : (depth : ℕ) (item : Item) (others : List Item) → (closes item && eqb depth 0) ≡ false → enclosed_in depth (item ∷ others) ≡ inside_too item (enclosed_in (depth_behind depth item) others)
unfolding enclosed_in
enclosed_in-goes_on depth item others is = cond-false _ _ _ is

pub enclosed_in-nothing : (depth : ℕ) → enclosed_in depth [] ≡ None
unfolding enclosed_in
enclosed_in-nothing depth = refl

pub all_inside-more : (items : List Item) (item : Item) (found : Option Enclosed) → all_inside items (inside_too item found) ≡ all_inside (items ++ item ∷ []) found
unfolding inside_too
all_inside-more items item None = refl
all_inside-more items item (Some enclosed) = ap (λ (inside : List Item). Some (record enclosed { inside = inside })) (sym (append_assoc items (item ∷ []) enclosed.inside))

-- the first token of a list, where there is one
pub next-is : (next : Option Item) (item : Item) (before after : List Item) → MatchOption next ((before ≡ []) × (after ≡ [])) (λ first. before ≡ first ∷ after) → next ≡ Some item → before ≡ item ∷ after
next-is None item before after is some = absurd (cc)
next-is (Some first) item before after is some = let same : first ≡ item = cc in is ∙ ap (λ x. x ∷ after) same

pub next-nothing : (next : Option Item) (before after : List Item) → MatchOption next ((before ≡ []) × (after ≡ [])) (λ first. before ≡ first ∷ after) → next ≡ None → (before ≡ []) × (after ≡ [])
next-nothing None before after is none = is
next-nothing (Some first) before after is none = absurd (cc)

-- one token more, which doesn't close the invocation
pub inside-goes_on : (all : Option Enclosed) (inside : List Item) (depth : ℕ) (item : Item) (others : List Item)
    → all ≡ all_inside inside (enclosed_in depth (item ∷ others)) → (closes item && eqb depth 0) ≡ false
    → all ≡ all_inside (inside ++ item ∷ []) (enclosed_in (depth_behind depth item) others)
inside-goes_on all inside depth item others before is =
    before ∙ ap (all_inside inside) (enclosed_in-goes_on depth item others is) ∙ all_inside-more inside item (enclosed_in (depth_behind depth item) others)

pub inside-closes : (all : Option Enclosed) (inside : List Item) (depth : ℕ) (item : Item) (others : List Item)
    → all ≡ all_inside inside (enclosed_in depth (item ∷ others)) → (closes item && eqb depth 0) ≡ true → all ≡ Some (record { inside = inside; closing = item; rest = others })
inside-closes all inside depth item others before is =
    before ∙ ap (all_inside inside) (enclosed_in-closes depth item others is) ∙ ap (λ (xs : List Item). Some (record { inside = xs; closing = item; rest = others })) (append-nil inside)

pub inside-nothing : (all : Option Enclosed) (inside : List Item) (depth : ℕ) → all ≡ all_inside inside (enclosed_in depth []) → all ≡ None
inside-nothing all inside depth before = before ∙ ap (all_inside inside) (enclosed_in-nothing depth)

pub separated-comma : (commas depth : ℕ) (item : Item) (others : List Item) → ((separates item && eqb depth 0) && nat_lt 0 commas) ≡ true → separated commas depth (item ∷ others) ≡ [] ∷ separated (commas - 1) depth others
unfolding separated
separated-comma commas depth item others is = cond-true _ _ _ is

pub separated-goes_on : (commas depth : ℕ) (item : Item) (others : List Item) → ((separates item && eqb depth 0) && nat_lt 0 commas) ≡ false → separated commas depth (item ∷ others) ≡ in_first item (separated commas (depth_behind depth item) others)
unfolding separated
separated-goes_on commas depth item others is = cond-false _ _ _ is

pub separated-nothing : (commas depth : ℕ) → separated commas depth [] ≡ [] ∷ []
unfolding separated
separated-nothing commas depth = refl

in_front-more : (items : List Item) (item : Item) (given : List (List Item)) → in_front items (in_first item given) ≡ in_front (items ++ item ∷ []) given
unfolding in_first
in_front-more items item [] = refl
in_front-more items item (argument ∷ arguments) = ap (λ (xs : List Item). xs ∷ arguments) (sym (append_assoc items (item ∷ []) argument))

in_front-first : (item : Item) (given : List (List Item)) → in_front [] (in_first item given) ≡ in_first item given
unfolding in_first
in_front-first item [] = refl
in_front-first item (argument ∷ arguments) = refl

-- there is always a first argument
pub in_front-nothing : (commas depth : ℕ) (items : List Item) → in_front [] (separated commas depth items) ≡ separated commas depth items
unfolding separated
in_front-nothing commas depth [] = refl
in_front-nothing commas depth (item ∷ others) =
    by_test ((separates item && eqb depth 0) && nat_lt 0 commas)
  where
    by_test : (b : Bool) → in_front [] (cond b ([] ∷ separated (commas - 1) depth others) (in_first item (separated commas (depth_behind depth item) others))) ≡ cond b ([] ∷ separated (commas - 1) depth others) (in_first item (separated commas (depth_behind depth item) others))
    by_test true = refl
    by_test false = in_front-first item (separated commas (depth_behind depth item) others)

-- one token more of a list without a comma so far
pub unseparated-more : (all : List (List Item)) (items : List Item) (commas depth i : ℕ) (item : Item) → i < length items → item ≡ get_or items i item
    → all ≡ in_front (take i items) (separated commas depth (drop i items)) → ((separates item && eqb depth 0) && nat_lt 0 commas) ≡ false
    → all ≡ in_front (take (i + 1) items) (separated commas (depth_behind depth item) (drop (i + 1) items))
unseparated-more all items commas depth i item lt at before is =
    let rest : List Item = drop (i + 1) items in
    before
    ∙ at_drop_more (λ (xs : List Item). in_front (take i items) (separated commas depth xs)) items i item lt
    ∙ ap (λ (x : Item). in_front (take i items) (separated commas depth (x ∷ rest))) (sym at)
    ∙ ap (in_front (take i items)) (separated-goes_on commas depth item rest is)
    ∙ in_front-more (take i items) item (separated commas (depth_behind depth item) rest)
    ∙ ap (λ (xs : List Item). in_front xs (separated commas (depth_behind depth item) rest)) (sym (take_more items i item lt ∙ ap (λ (x : Item). take i items ++ x ∷ []) (sym at)))

-- the first comma of a list
pub separated-at : (all : List (List Item)) (items : List Item) (commas depth i : ℕ) (item : Item) → i < length items → item ≡ get_or items i item
    → all ≡ in_front (take i items) (separated commas depth (drop i items)) → ((separates item && eqb depth 0) && nat_lt 0 commas) ≡ true
    → all ≡ take i items ∷ separated (commas - 1) 0 (drop (i + 1) items)
separated-at all items commas depth i item lt at before is =
    let rest : List Item = drop (i + 1) items in
    before
    ∙ at_drop_more (λ (xs : List Item). in_front (take i items) (separated commas depth xs)) items i item lt
    ∙ ap (λ (x : Item). in_front (take i items) (separated commas depth (x ∷ rest))) (sym at)
    ∙ ap (in_front (take i items)) (separated-comma commas depth item rest is)
    ∙ ap (λ (xs : List Item). xs ∷ separated (commas - 1) depth rest) (append-nil (take i items))
    ∙ ap (λ d. take i items ∷ separated (commas - 1) d rest) (eqb-true depth 0 (and_parts _ _ (and_parts _ _ is).0).1)

-- a list without a comma
pub unseparated-last : (all : List (List Item)) (items : List Item) (commas depth i : ℕ) → length items ≤ i
    → all ≡ in_front (take i items) (separated commas depth (drop i items)) → all ≡ items ∷ []
unseparated-last all items commas depth i past before =
    before
    ∙ ap (λ (xs : List Item). in_front (take i items) (separated commas depth xs)) (drop_all i items past)
    ∙ ap (in_front (take i items)) (separated-nothing commas depth)
    ∙ ap (λ (xs : List Item). xs ∷ []) (append-nil (take i items) ∙ take_all i items past)

pub exact-nothing : (given : List (List Item)) → exact_arguments 0 given ≡ cond (is_one_empty given) (Some []) None
unfolding exact_arguments
exact-nothing [] = refl
exact-nothing ([] ∷ []) = refl
exact-nothing ([] ∷ other ∷ given) = refl
exact-nothing ((item ∷ items) ∷ given) = refl

pub exact-some : (parameters : ℕ) (given : List (List Item)) → nat_lt 0 parameters ≡ true → exact_arguments parameters given ≡ cond (eqb (length given) parameters) (Some given) None
unfolding exact_arguments
exact-some zero given some = absurd (false≢true some)
exact-some (suc others) given some = refl

pub exact-is_nothing : (parameters : ℕ) (given : List (List Item)) (b : Bool) → parameters ≡ 0 → is_one_empty given ≡ b → exact_arguments parameters given ≡ cond b (Some []) None
exact-is_nothing parameters given b without is = ap (λ n. exact_arguments n given) without ∙ exact-nothing given ∙ ap (λ x. cond x (Some []) None) is
