-- Parts of lists that share their tokens.
use Rattle.std.proofs.Common.{◌≡◌, ℕ, ◌+◌, ◌-◌, ◌<◌, ◌≤◌, Bool, true, false, not, ◌||◌, nat_lt, if◌then◌else◌, List, [], ◌∷◌, length, take, drop, refl, sym, ap, ◌∙◌, Option, Some, None, arith, length-take, length-drop, take-append-drop, drop-drop}
use Rattle.std.proofs.lemmas.List.{take-take, drop-take, take-map, drop-map}
use Rattle.dm_token.specs.declared.expansion.Mark.{Mark}
use Rattle.dm_token.specs.Prefixes.{IsPrefix}
use Rattle.dm_parentheses.specs.declared.sign.Sign.{Sign}
use Rattle.dm_parentheses.specs.Parentheses as signs
use Rattle.dm_parentheses.proofs.ParenthesesLemmas.{index_below, before_closing-take, before_end-take}
use Rattle.dm_expand.specs.Items.{Item}
use Rattle.dm_expand.specs.Trails.{come_otherwise}
use Rattle.dm_expand.specs.Shares.{signs_of, stretch_of, AreSigns, IsStretch}
use Rattle.dm_expand.proofs.SearchLemmas.{otherwise-append, otherwise-step, otherwise-nothing, otherwise-no_way}
use Rattle.dm_expand.proofs.TrailLemmas.{begins-longer}

pub length-stretch : (items : List Item) (first after : ℕ) → after ≤ length items → length (stretch_of items first after) ≡ after - first
length-stretch items first after within = omega (arith, length-take (after - first) (drop first items), length-drop first items)

-- the first tokens of a part
pub stretch-front : (items : List Item) (first after count : ℕ) → count ≤ after - first → stretch_of items first (first + count) ≡ take count (stretch_of items first after)
stretch-front items first after count within =
    let n : first + count - first ≡ count = omega arith in
    ap (λ k. take k (drop first items)) n ∙ sym (take-take count (after - first) (drop first items) within)

-- and what is behind them
pub stretch-behind : (items : List Item) (first after count : ℕ) → count ≤ after - first → stretch_of items (first + count) after ≡ drop count (stretch_of items first after)
stretch-behind items first after count within =
    let all : after - first ≡ count + (after - (first + count)) = omega (arith, within) in
    ap (take (after - (first + count))) (sym (drop-drop count first items))
    ∙ sym (drop-take count (after - (first + count)) (drop first items))
    ∙ ap (λ k. drop count (take k (drop first items))) (sym all)

or-parts : (a b : Bool) → (a || b) ≡ false → (a ≡ false) × (b ≡ false)
or-parts true b is = absurd (cc)
or-parts false b is = (refl, is)

-- what holds of the way of all tokens holds of the first ones, and of those behind them
pub otherwise-front : (way : List Mark) (items : List Item) (count : ℕ) → come_otherwise way items ≡ false → come_otherwise way (take count items) ≡ false
otherwise-front way items count is =
    (or-parts _ _ (sym (otherwise-append way (take count items) (drop count items)) ∙ ap (come_otherwise way) (take-append-drop count items) ∙ is)).0

pub otherwise-behind : (way : List Mark) (items : List Item) (count : ℕ) → come_otherwise way items ≡ false → come_otherwise way (drop count items) ≡ false
otherwise-behind way items count is =
    (or-parts _ _ (sym (otherwise-append way (take count items) (drop count items)) ∙ ap (come_otherwise way) (take-append-drop count items) ∙ is)).1

not-false : (b : Bool) → not b ≡ false → b ≡ true
not-false true is = refl
not-false false is = absurd (cc)

-- tokens that came by a way came by each with which it begins
pub otherwise-shorter : (way longer : List Mark) (items : List Item) → IsPrefix way longer → come_otherwise longer items ≡ false → come_otherwise way items ≡ false
otherwise-shorter way longer [] begins is = otherwise-nothing way
otherwise-shorter way longer (item ∷ items) begins is =
    let parts = or-parts _ _ (sym (otherwise-step longer item items) ∙ is) in
    otherwise-step way item items
    ∙ ap (λ b. not b || come_otherwise way items) (begins-longer way longer item.trail begins (not-false _ parts.0))
    ∙ otherwise-shorter way longer items begins parts.1

-- what is looked up for all tokens, among those of a part
abbrev pub within : ℕ → ℕ → Option ℕ → Option ℕ
within first after None = None
within first after (Some i) = if nat_lt i after then Some (i - first) else None

within-below : (first after : ℕ) (found : Option ℕ) → first ≤ after → within first after (signs.index_from first found) ≡ index_below (after - first) found
within-below first after None ordered = refl
within-below first after (Some i) ordered = grind arith

pub closing-within : (items : List Item) (first after : ℕ) → first ≤ after
    → signs.before_closing 0 (signs_of (stretch_of items first after)) ≡ within first after (signs.index_from first (signs.before_closing 0 (drop first (signs_of items))))
closing-within items first after ordered =
    ap (signs.before_closing 0) (sym (take-map _ (after - first) (drop first items)) ∙ ap (take (after - first)) (sym (drop-map _ first items)))
    ∙ before_closing-take 0 (after - first) (drop first (signs_of items))
    ∙ sym (within-below first after (signs.before_closing 0 (drop first (signs_of items))) ordered)

pub end-within : (items : List Item) (first after : ℕ) → first ≤ after
    → signs.before_end 0 (signs_of (stretch_of items first after)) ≡ within first after (signs.index_from first (signs.before_end 0 (drop first (signs_of items))))
end-within items first after ordered =
    ap (signs.before_end 0) (sym (take-map _ (after - first) (drop first items)) ∙ ap (take (after - first)) (sym (drop-map _ first items)))
    ∙ before_end-take 0 (after - first) (drop first (signs_of items))
    ∙ sym (within-below first after (signs.before_end 0 (drop first (signs_of items))) ordered)

pub within-past : (first after i : ℕ) → after ≤ i → within first after (Some i) ≡ None
within-past first after i past = grind arith

pub within-inside : (first after i : ℕ) → i < after → within first after (Some i) ≡ Some (i - first)
within-inside first after i inside = grind arith

signs-are : (items : List Item) (ends : Option (List Sign)) (mine : List Sign) → AreSigns items ends → ends ≡ Some mine → mine ≡ signs_of items
signs-are items None mine are is = absurd (cc)
signs-are items (Some signs) mine are is = let same : signs ≡ mine = cc in sym same ∙ are

-- where the invocation is closed, by the table
pub closing-looked_up : (items : List Item) (ends : Option (List Sign)) (mine : List Sign) (first after : ℕ) (found : Option ℕ) → first ≤ after → AreSigns items ends → ends ≡ Some mine
    → found ≡ signs.index_from first (signs.before_closing 0 (drop first mine)) → signs.before_closing 0 (signs_of (stretch_of items first after)) ≡ within first after found
closing-looked_up items ends mine first after found ordered are is looked =
    closing-within items first after ordered
    ∙ ap (λ xs. within first after (signs.index_from first (signs.before_closing 0 (drop first xs)))) (sym (signs-are items ends mine are is))
    ∙ ap (within first after) (sym looked)

-- where an argument ends, by the table
pub end-looked_up : (items : List Item) (ends : Option (List Sign)) (mine : List Sign) (first after : ℕ) (found : Option ℕ) → first ≤ after → AreSigns items ends → ends ≡ Some mine
    → found ≡ signs.index_from first (signs.before_end 0 (drop first mine)) → signs.before_end 0 (signs_of (stretch_of items first after)) ≡ within first after found
end-looked_up items ends mine first after found ordered are is looked =
    end-within items first after ordered
    ∙ ap (λ xs. within first after (signs.index_from first (signs.before_end 0 (drop first xs)))) (sym (signs-are items ends mine are is))
    ∙ ap (within first after) (sym looked)

-- all of a list
pub stretch-all : (items : List Item) (ends : Option (List Sign)) (came : List Mark) → AreSigns items ends → came ≡ [] → IsStretch items ends 0 (length items) came
stretch-all items ends came are nothing = record {
  ordered = omega arith;
  within = omega arith;
  signs = are;
  came_so = sym (otherwise-no_way came (stretch_of items 0 (length items)) (ap length nothing));
}

-- the first tokens of a part
pub front-is : (items : List Item) (ends : Option (List Sign)) (first after count : ℕ) (came : List Mark) → IsStretch items ends first after came → count ≤ after - first → IsStretch items ends first (first + count) came
front-is items ends first after count came is within = record {
  ordered = omega arith;
  within = omega (arith, within, is.ordered, is.within);
  signs = is.signs;
  came_so = ap (come_otherwise came) (stretch-front items first after count within) ∙ otherwise-front came (stretch_of items first after) count is.came_so;
}

-- and what is behind them
pub behind-is : (items : List Item) (ends : Option (List Sign)) (first after count : ℕ) (came : List Mark) → IsStretch items ends first after came → count ≤ after - first → IsStretch items ends (first + count) after came
behind-is items ends first after count came is within = record {
  ordered = omega (arith, within, is.ordered);
  within = is.within;
  signs = is.signs;
  came_so = ap (come_otherwise came) (stretch-behind items first after count within) ∙ otherwise-behind came (stretch_of items first after) count is.came_so;
}
