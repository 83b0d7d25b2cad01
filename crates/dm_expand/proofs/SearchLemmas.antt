-- Loops that look through a list for an item that passes a test.
use Rattle.std.proofs.Common.{◌≡◌, ℕ, ◌+◌, ◌<◌, ◌≤◌, Bool, true, false, not, ◌&&◌, ◌||◌, List, [], ◌∷◌, ◌++◌, length, get_or, drop, refl, sym, ap, ◌∙◌}
use Rattle.std.proofs.lemmas.List.{at_drop_all}
use Rattle.dm_token.specs.declared.expansion.Mark.{Mark}
use Rattle.dm_macro.proofs.BodyLemmas.{next_is}
use Rattle.dm_expand.specs.Items.{Item}
use Rattle.dm_expand.specs.Trails.{come_otherwise, begins_with}
use Rattle.dm_expand.proofs.TrailLemmas.{begins-nothing}

pub found_at : {A : Type 0} (whole : List A → Bool) (test : A → Bool) (items : List A) (i : ℕ) (item : A) → ((others : List A) → whole (item ∷ others) ≡ (test item || whole others))
    → i < length items → item ≡ get_or items i item → whole (drop i items) ≡ whole items → true ≡ test item → true ≡ whole items
found_at whole test items i item step lt is before holds =
    ap (λ b. b || whole (drop (i + 1) items)) holds ∙ sym (step (drop (i + 1) items)) ∙ next_is whole items i item (whole items) lt is before

pub passed_at : {A : Type 0} (whole : List A → Bool) (test : A → Bool) (items : List A) (i : ℕ) (item : A) → ((others : List A) → whole (item ∷ others) ≡ (test item || whole others))
    → i < length items → item ≡ get_or items i item → whole (drop i items) ≡ whole items → false ≡ test item → whole (drop (i + 1) items) ≡ whole items
passed_at whole test items i item step lt is before fails =
    ap (λ b. b || whole (drop (i + 1) items)) fails ∙ sym (step (drop (i + 1) items)) ∙ next_is whole items i item (whole items) lt is before

pub passed_all : {A : Type 0} (whole : List A → Bool) (items : List A) (i : ℕ) → whole [] ≡ false → length items ≤ i → whole (drop i items) ≡ whole items → false ≡ whole items
passed_all whole items i nothing past before = sym (at_drop_all whole items i past ∙ nothing) ∙ before

not_both : (a b : Bool) → not (a && b) ≡ (not a || not b)
not_both true b = refl
not_both false b = refl

pub otherwise-step : (name : List Mark) (item : Item) (others : List Item) → come_otherwise name (item ∷ others) ≡ (not (begins_with name item.trail) || come_otherwise name others)
unfolding come_otherwise
otherwise-step name item others = not_both (begins_with name item.trail) _

pub otherwise-nothing : (name : List Mark) → come_otherwise name [] ≡ false
unfolding come_otherwise
otherwise-nothing name = refl

-- INVOCATIONS

or_assoc : (a b d : Bool) → ((a || b) || d) ≡ (a || (b || d))
or_assoc true b d = refl
or_assoc false b d = refl

or-false : (a : Bool) → (a || false) ≡ a
or-false true = refl
or-false false = refl

pub otherwise-append : (name : List Mark) (xs ys : List Item) → come_otherwise name (xs ++ ys) ≡ (come_otherwise name xs || come_otherwise name ys)
otherwise-append name [] ys = ap (λ b. b || come_otherwise name ys) (sym (otherwise-nothing name))
otherwise-append name (x ∷ xs) ys =
    otherwise-step name x (xs ++ ys)
    ∙ ap (λ b. not (begins_with name x.trail) || b) (otherwise-append name xs ys)
    ∙ sym (or_assoc (not (begins_with name x.trail)) (come_otherwise name xs) (come_otherwise name ys))
    ∙ ap (λ b. b || come_otherwise name ys) (sym (otherwise-step name x xs))

otherwise-passed : (name : List Mark) (item : Item) (others : List Item) → true ≡ begins_with name item.trail → come_otherwise name (item ∷ others) ≡ come_otherwise name others
otherwise-passed name item others begins = otherwise-step name item others ∙ ap (λ b. not b || come_otherwise name others) (sym begins)

-- each token comes by the way of a name without marks
pub otherwise-no_way : (name : List Mark) (items : List Item) → length name ≡ 0 → false ≡ come_otherwise name items
otherwise-no_way name [] none = sym (otherwise-nothing name)
otherwise-no_way name (item ∷ items) none = otherwise-no_way name items none ∙ sym (otherwise-passed name item items (begins-nothing name item.trail none))

-- whether some token of an invocation came otherwise: its `(`, one inside, or its `)`
pub foreign-opening : (name : List Mark) (opening closing : Item) (inside : List Item) → false ≡ begins_with name opening.trail → true ≡ come_otherwise name (opening ∷ (inside ++ closing ∷ []))
foreign-opening name opening closing inside fails =
    ap (λ b. not b || come_otherwise name (inside ++ closing ∷ [])) fails ∙ sym (otherwise-step name opening (inside ++ closing ∷ []))

or-true : (a b : Bool) → true ≡ b → true ≡ (a || b)
or-true true b is = refl
or-true false b is = is

-- a `)` alone
otherwise-one : (name : List Mark) (item : Item) → come_otherwise name (item ∷ []) ≡ not (begins_with name item.trail)
otherwise-one name item = otherwise-step name item [] ∙ ap (λ b. not (begins_with name item.trail) || b) (otherwise-nothing name) ∙ or-false (not (begins_with name item.trail))

-- all but the `(`
otherwise-behind : (name : List Mark) (opening closing : Item) (inside : List Item) → true ≡ begins_with name opening.trail
    → come_otherwise name (opening ∷ (inside ++ closing ∷ [])) ≡ (come_otherwise name inside || not (begins_with name closing.trail))
otherwise-behind name opening closing inside begins =
    otherwise-passed name opening (inside ++ closing ∷ []) begins
    ∙ otherwise-append name inside (closing ∷ [])
    ∙ ap (λ b. come_otherwise name inside || b) (otherwise-one name closing)

pub foreign-closing : (name : List Mark) (opening closing : Item) (inside : List Item) → true ≡ begins_with name opening.trail → false ≡ begins_with name closing.trail → true ≡ come_otherwise name (opening ∷ (inside ++ closing ∷ []))
foreign-closing name opening closing inside begins fails =
    or-true (come_otherwise name inside) (not (begins_with name closing.trail)) (ap not fails) ∙ sym (otherwise-behind name opening closing inside begins)

pub foreign-inside : (name : List Mark) (opening closing : Item) (inside : List Item) → true ≡ begins_with name opening.trail → true ≡ begins_with name closing.trail → come_otherwise name inside ≡ come_otherwise name (opening ∷ (inside ++ closing ∷ []))
foreign-inside name opening closing inside begins ends =
    sym (or-false (come_otherwise name inside)) ∙ ap (λ b. come_otherwise name inside || b) (ap not ends) ∙ sym (otherwise-behind name opening closing inside begins)
