-- Lists that a loop adds to, one piece for each item.
use Rattle.std.proofs.Common.{◌≡◌, ℕ, ◌+◌, ◌<◌, ◌≤◌, List, [], ◌∷◌, ◌++◌, length, get_or, drop, refl, sym, ap, ◌∙◌, append_assoc}
use Rattle.std.proofs.lemmas.List.{at_drop_more, at_drop_all, append-nil}
use Rattle.dm_expand.specs.Items.{Item}
use Rattle.dm_expand.specs.Strings.{escaped, escaped_byte, spelled_behind, spelled_next}

-- one piece more
pub added : {A : Type 0} (whole : List A → List ℕ) (piece : A → List ℕ) (to more all : List ℕ) (items : List A) (i : ℕ) (item : A)
    → ((others : List A) → whole (item ∷ others) ≡ piece item ++ whole others)
    → i < length items → item ≡ get_or items i item → more ≡ to ++ piece item → to ++ whole (drop i items) ≡ all → more ++ whole (drop (i + 1) items) ≡ all
added whole piece to more all items i item step lt is grows before =
    ap (λ x. x ++ whole (drop (i + 1) items)) grows
    ∙ append_assoc to (piece item) (whole (drop (i + 1) items))
    ∙ ap (λ x. to ++ x) (sym (step (drop (i + 1) items)) ∙ ap (λ x. whole (x ∷ drop (i + 1) items)) is ∙ sym (at_drop_more whole items i item lt))
    ∙ before

pub escaped-step : (byte : ℕ) (others : List ℕ) → escaped (byte ∷ others) ≡ escaped_byte byte ++ escaped others
unfolding escaped
escaped-step byte others = refl

pub escaped-nothing : escaped [] ≡ []
unfolding escaped
escaped-nothing = refl

pub spelled_behind-step : (item : Item) (others : List Item) → spelled_behind (item ∷ others) ≡ spelled_next item.pp ++ spelled_behind others
unfolding spelled_behind
spelled_behind-step item others = refl

pub spelled_behind-nothing : spelled_behind [] ≡ []
unfolding spelled_behind
spelled_behind-nothing = refl

-- nothing is left
pub added_all : {A : Type 0} (whole : List A → List ℕ) (to all : List ℕ) (items : List A) (i : ℕ) → whole [] ≡ [] → length items ≤ i → to ++ whole (drop i items) ≡ all → to ≡ all
added_all whole to all items i nothing past before = sym (append-nil to) ∙ ap (λ x. to ++ x) (sym (at_drop_all whole items i past ∙ nothing)) ∙ before
