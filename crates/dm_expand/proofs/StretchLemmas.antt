-- Invocations, by what each token is to their arguments.
use Rattle.std.proofs.Common.{◌≡◌, ℕ, suc, ◌+◌, ◌-◌, ◌<◌, ◌≤◌, Bool, true, false, cond, ◌&&◌, eqb, nat_lt, List, [], ◌∷◌, length, take, drop, get_or, refl, sym, ap, ◌∙◌, inl, inr, Option, Some, None, option_map, arith}
use Rattle.std.proofs.lemmas.Bool.{cases_Bool, cond-true, cond-false, eqb-true, and_parts, and_from}
use Rattle.std.proofs.lemmas.List.{at_drop_more, drop_all}
use Rattle.dm_token.specs.declared.token.PpKind.{PpKind}
use Rattle.dm_token.specs.declared.token.PpKind.TheVariants.{Identifier, Number, Character, Literal, Punctuator, Header, Stray}
use Rattle.dm_spell.specs.Punctuators.{left_parenthesis, right_parenthesis, comma}
use Rattle.dm_macro.specs.Signs.{is_row}
use Rattle.dm_parentheses.specs.declared.sign.Sign.{Sign}
use Rattle.dm_parentheses.specs.declared.sign.Sign.TheVariants.{Opening, Closing, Comma, Other}
use Rattle.dm_parentheses.specs.Parentheses as signs
use Rattle.dm_expand.specs.Items.{Item}
use Rattle.dm_expand.specs.Arguments as arguments
use Rattle.dm_expand.specs.Arguments.{Enclosed}
use Rattle.dm_expand.specs.Shares.{sign_of, signs_of}
use Rattle.dm_expand.proofs.ArgumentLemmas.{separated-comma, separated-goes_on, separated-nothing}

-- WHAT A TOKEN IS

-- no token is two punctuators
rows-apart : (one other : ℕ) (kind : PpKind) → eqb one other ≡ false → is_row one kind ≡ true → is_row other kind ≡ false
rows-apart one other Identifier apart is = refl
rows-apart one other Number apart is = refl
rows-apart one other Character apart is = refl
rows-apart one other Literal apart is = refl
rows-apart one other (Punctuator row) apart is = ap (λ n. eqb n other) (eqb-true row one is) ∙ apart
rows-apart one other Header apart is = refl
rows-apart one other Stray apart is = refl

closes-by : (opens closes separates : Bool) → (opens ≡ true → closes ≡ false) → signs.closes (cond opens Opening (cond closes Closing (cond separates Comma Other))) ≡ closes
unfolding signs.closes
closes-by true closes separates apart = sym (apart refl)
closes-by false true separates apart = refl
closes-by false false true apart = refl
closes-by false false false apart = refl

pub closes-sign : (item : Item) → signs.closes (sign_of item) ≡ arguments.closes item
unfolding sign_of arguments.opens arguments.closes
closes-sign item = closes-by (arguments.opens item) (arguments.closes item) (arguments.separates item) (rows-apart left_parenthesis right_parenthesis item.pp.kind refl)

ends-by : (opens closes separates : Bool) → (separates ≡ true → opens ≡ false) → separates ≡ true → signs.ends (cond opens Opening (cond closes Closing (cond separates Comma Other))) ≡ true
unfolding signs.ends
ends-by true closes separates apart is = sym (apart is)
ends-by false true separates apart is = refl
ends-by false false true apart is = refl
ends-by false false false apart is = is

-- a comma ends an argument
ends-sign : (item : Item) → arguments.separates item ≡ true → signs.ends (sign_of item) ≡ true
unfolding sign_of arguments.opens arguments.separates
ends-sign item is = ends-by (arguments.opens item) (arguments.closes item) (arguments.separates item) (rows-apart comma left_parenthesis item.pp.kind refl) is

depth-by : (depth : ℕ) (opens closes separates : Bool) → signs.depth_behind depth (cond opens Opening (cond closes Closing (cond separates Comma Other))) ≡ cond opens (suc depth) (cond closes (depth - 1) depth)
unfolding signs.depth_behind
depth-by depth true closes separates = refl
depth-by depth false true separates = refl
depth-by depth false false true = refl
depth-by depth false false false = refl

depth-sign : (depth : ℕ) (item : Item) → signs.depth_behind depth (sign_of item) ≡ arguments.depth_behind depth item
unfolding sign_of arguments.depth_behind
depth-sign depth item = depth-by depth (arguments.opens item) (arguments.closes item) (arguments.separates item)

-- WHERE THE INVOCATION IS CLOSED

closing-here : (depth : ℕ) (item : Item) (others : List Item) → (arguments.closes item && eqb depth 0) ≡ true → signs.before_closing depth (signs_of (item ∷ others)) ≡ Some 0
unfolding signs.before_closing
closing-here depth item others is = cond-true _ _ _ (ap (λ b. b && eqb depth 0) (closes-sign item) ∙ is)

closing-further : (depth : ℕ) (item : Item) (others : List Item) → (arguments.closes item && eqb depth 0) ≡ false
    → signs.before_closing depth (signs_of (item ∷ others)) ≡ option_map (λ count. suc count) (signs.before_closing (arguments.depth_behind depth item) (signs_of others))
unfolding signs.before_closing
closing-further depth item others is =
    cond-false _ _ _ (ap (λ b. b && eqb depth 0) (closes-sign item) ∙ is)
    ∙ ap (λ d. option_map (λ count. suc count) (signs.before_closing d (signs_of others))) (depth-sign depth item)

nothing-closes : (depth : ℕ) → signs.before_closing depth (signs_of []) ≡ None
unfolding signs.before_closing
nothing-closes depth = refl

not-some : (i : ℕ) → ◌≡◌ {A = Option ℕ} (Some i) None → ⊥
not-some i e = cc

not-empty : (item : Item) (others : List Item) → ◌≡◌ {A = List Item} (item ∷ others) [] → ⊥
not-empty item others e = cc

some-further : (rest : Option ℕ) (i : ℕ) → option_map (λ count. suc count) rest ≡ Some i → (j : ℕ) × (rest ≡ Some j) × (i ≡ suc j)
some-further None i is = absurd (cc)
some-further (Some j) i is = let e : suc j ≡ i = cc in (j, refl, sym e)

none-further : (rest : Option ℕ) → option_map (λ count. suc count) rest ≡ None → rest ≡ None
none-further None is = refl
none-further (Some j) is = absurd (cc)

inside-more : (first : Item) (inside : List Item) (last : Item) (left : List Item) → arguments.inside_too first (Some (record { inside = inside; closing = last; rest = left })) ≡ Some (record { inside = first ∷ inside; closing = last; rest = left })
unfolding arguments.inside_too
inside-more first inside last left = refl

nothing-more : (first : Item) → arguments.inside_too first None ≡ None
unfolding arguments.inside_too
nothing-more first = refl

heads : {A : Type 0} {x y : A} {xs ys : List A} → x ∷ xs ≡ y ∷ ys → x ≡ y
heads is = cc

tails : {A : Type 0} {x y : A} {xs ys : List A} → x ∷ xs ≡ y ∷ ys → xs ≡ ys
tails is = cc

first-place : (i : ℕ) → Some 0 ≡ Some i → 0 ≡ i
first-place i is = cc

closed-here : (depth : ℕ) (item : Item) (others : List Item) (i : ℕ) (closing : Item) (rest : List Item) → (arguments.closes item && eqb depth 0) ≡ true → signs.before_closing depth (signs_of (item ∷ others)) ≡ Some i → drop i (item ∷ others) ≡ closing ∷ rest
    → arguments.enclosed_in depth (item ∷ others) ≡ Some (record { inside = take i (item ∷ others); closing = closing; rest = rest })
unfolding arguments.enclosed_in
closed-here depth item others i closing rest is found behind =
    let first : 0 ≡ i = first-place i (sym (closing-here depth item others is) ∙ found) in
    let same : item ∷ others ≡ closing ∷ rest = ap (λ n. drop n (item ∷ others)) first ∙ behind in
    let nothing : List Item = [] in
    cond-true _ _ _ is
    ∙ ap (λ x. Some (record { inside = nothing; closing = x; rest = others })) (heads same)
    ∙ ap (λ xs. Some (record { inside = nothing; closing = closing; rest = xs })) (tails same)
    ∙ ap (λ n. Some (record { inside = take n (item ∷ others); closing = closing; rest = rest })) first

closed-further : (depth : ℕ) (item : Item) (others : List Item) (i j : ℕ) (closing : Item) (rest : List Item) → (arguments.closes item && eqb depth 0) ≡ false → i ≡ suc j
    → arguments.enclosed_in (arguments.depth_behind depth item) others ≡ Some (record { inside = take j others; closing = closing; rest = rest })
    → arguments.enclosed_in depth (item ∷ others) ≡ Some (record { inside = take i (item ∷ others); closing = closing; rest = rest })
unfolding arguments.enclosed_in
closed-further depth item others i j closing rest is next inside =
    cond-false _ _ _ is
    ∙ ap (arguments.inside_too item) inside
    ∙ inside-more item (take j others) closing rest
    ∙ ap (λ n. Some (record { inside = take n (item ∷ others); closing = closing; rest = rest })) (sym next)

-- what is enclosed, where the `)` is found
pub enclosed-found : (depth : ℕ) (items : List Item) (i : ℕ) (closing : Item) (rest : List Item) → signs.before_closing depth (signs_of items) ≡ Some i → drop i items ≡ closing ∷ rest
    → arguments.enclosed_in depth items ≡ Some (record { inside = take i items; closing = closing; rest = rest })
enclosed-found depth [] i closing rest found behind = absurd (not-some i (sym found ∙ nothing-closes depth))
enclosed-found depth (item ∷ others) i closing rest found behind =
    elim (cases_Bool (arguments.closes item && eqb depth 0)) [
      | inl is ↦ closed-here depth item others i closing rest is found behind
      | inr is ↦ (let next = some-further _ i (sym (closing-further depth item others is) ∙ found) in
          closed-further depth item others i next.0 closing rest is next.2
          (enclosed-found (arguments.depth_behind depth item) others next.0 closing rest next.1 (sym (ap (λ n. drop n (item ∷ others)) next.2) ∙ behind)))
    ]

-- a `)` that is found stands in the list
pub enclosed-inside : (depth : ℕ) (items : List Item) (i : ℕ) → signs.before_closing depth (signs_of items) ≡ Some i → drop i items ≡ [] → ⊥
enclosed-inside depth [] i found behind = not-some i (sym found ∙ nothing-closes depth)
enclosed-inside depth (item ∷ others) i found behind =
    elim (cases_Bool (arguments.closes item && eqb depth 0)) [
      | inl is ↦ not-empty item others (ap (λ n. drop n (item ∷ others)) (first-place i (sym (closing-here depth item others is) ∙ found)) ∙ behind)
      | inr is ↦ (let next = some-further _ i (sym (closing-further depth item others is) ∙ found) in
          enclosed-inside (arguments.depth_behind depth item) others next.0 next.1 (sym (ap (λ n. drop n (item ∷ others)) next.2) ∙ behind))
    ]

-- nothing is enclosed where it isn't found
pub enclosed-nowhere : (depth : ℕ) (items : List Item) → signs.before_closing depth (signs_of items) ≡ None → arguments.enclosed_in depth items ≡ None
unfolding arguments.enclosed_in
enclosed-nowhere depth [] none = refl
enclosed-nowhere depth (item ∷ others) none =
    elim (cases_Bool (arguments.closes item && eqb depth 0)) [
      | inl is ↦ absurd (not-some 0 (sym (closing-here depth item others is) ∙ none))
      | inr is ↦ cond-false _ _ _ is
          ∙ ap (arguments.inside_too item) (enclosed-nowhere (arguments.depth_behind depth item) others (none-further _ (sym (closing-further depth item others is) ∙ none)))
          ∙ nothing-more item
    ]

-- WHERE ARGUMENTS ARE SEPARATED

end-here : (depth : ℕ) (sign : Sign) (others : List Sign) → (signs.ends sign && eqb depth 0) ≡ true → signs.before_end depth (sign ∷ others) ≡ Some 0
unfolding signs.before_end
end-here depth sign others is = cond-true _ _ _ is

end-further : (depth : ℕ) (item : Item) (others : List Item) → (signs.ends (sign_of item) && eqb depth 0) ≡ false
    → signs.before_end depth (signs_of (item ∷ others)) ≡ option_map (λ count. suc count) (signs.before_end (arguments.depth_behind depth item) (signs_of others))
unfolding signs.before_end
end-further depth item others is = cond-false _ _ _ is ∙ ap (λ d. option_map (λ count. suc count) (signs.before_end d (signs_of others))) (depth-sign depth item)

nothing-ends : (depth : ℕ) → signs.before_end depth (signs_of []) ≡ None
unfolding signs.before_end
nothing-ends depth = refl

-- what doesn't end an argument doesn't separate two
no-comma : (depth left : ℕ) (item : Item) → (signs.ends (sign_of item) && eqb depth 0) ≡ false → ((arguments.separates item && eqb depth 0) && nat_lt 0 left) ≡ false
no-comma depth left item is =
    elim (cases_Bool (arguments.separates item)) [
      | inl tells ↦ ap (λ b. (b && eqb depth 0) && nat_lt 0 left) (tells ∙ sym (ends-sign item tells)) ∙ ap (λ b. b && nat_lt 0 left) is
      | inr other ↦ ap (λ b. (b && eqb depth 0) && nat_lt 0 left) other
    ]

in_first-more : (item : Item) (argument : List Item) (others : List (List Item)) → arguments.in_first item (argument ∷ others) ≡ (item ∷ argument) ∷ others
unfolding arguments.in_first
in_first-more item argument others = refl

comma-here : (left depth : ℕ) (first : Item) (others : List Item) (i : ℕ) (item : Item) → (signs.ends (sign_of first) && eqb depth 0) ≡ true → signs.before_end depth (signs_of (first ∷ others)) ≡ Some i
    → item ≡ get_or (first ∷ others) i item → arguments.separates item ≡ true → nat_lt 0 left ≡ true
    → arguments.separated left depth (first ∷ others) ≡ take i (first ∷ others) ∷ arguments.separated (left - 1) 0 (drop (i + 1) (first ∷ others))
comma-here left depth first others i item is found at tells some =
    let at-first : 0 ≡ i = first-place i (sym (end-here depth (sign_of first) (signs_of others) is) ∙ found) in
    let outside : depth ≡ 0 = eqb-true depth 0 (and_parts _ _ is).1 in
    let same : item ≡ first = at ∙ ap (λ n. get_or (first ∷ others) n item) (sym at-first) in
    separated-comma left depth first others (and_from _ _ (and_from _ _ (ap arguments.separates (sym same) ∙ tells) (and_parts _ _ is).1) some)
    ∙ ap (λ d. [] ∷ arguments.separated (left - 1) d others) outside
    ∙ ap (λ n. take n (first ∷ others) ∷ arguments.separated (left - 1) 0 (drop (n + 1) (first ∷ others))) at-first

comma-further : (left depth : ℕ) (first : Item) (others : List Item) (i j : ℕ) → (signs.ends (sign_of first) && eqb depth 0) ≡ false → i ≡ suc j
    → arguments.separated left (arguments.depth_behind depth first) others ≡ take j others ∷ arguments.separated (left - 1) 0 (drop (j + 1) others)
    → arguments.separated left depth (first ∷ others) ≡ take i (first ∷ others) ∷ arguments.separated (left - 1) 0 (drop (i + 1) (first ∷ others))
comma-further left depth first others i j is next inside =
    separated-goes_on left depth first others (no-comma depth left first is)
    ∙ ap (arguments.in_first first) inside
    ∙ in_first-more first (take j others) (arguments.separated (left - 1) 0 (drop (j + 1) others))
    ∙ ap (λ k. (first ∷ take j others) ∷ arguments.separated (left - 1) 0 (drop k (first ∷ others))) (let one-more : suc (j + 1) ≡ suc j + 1 = omega arith in one-more)
    ∙ ap (λ n. take n (first ∷ others) ∷ arguments.separated (left - 1) 0 (drop (n + 1) (first ∷ others))) (sym next)

-- the first argument and the others, where the comma between them is found
pub separated-found : (left depth : ℕ) (items : List Item) (i : ℕ) (item : Item) → signs.before_end depth (signs_of items) ≡ Some i → item ≡ get_or items i item
    → arguments.separates item ≡ true → nat_lt 0 left ≡ true → arguments.separated left depth items ≡ take i items ∷ arguments.separated (left - 1) 0 (drop (i + 1) items)
separated-found left depth [] i item found at tells some = absurd (not-some i (sym found ∙ nothing-ends depth))
separated-found left depth (first ∷ others) i item found at tells some =
    elim (cases_Bool (signs.ends (sign_of first) && eqb depth 0)) [
      | inl is ↦ comma-here left depth first others i item is found at tells some
      | inr is ↦ (let next = some-further _ i (sym (end-further depth first others is) ∙ found) in
          comma-further left depth first others i next.0 is next.2
          (separated-found left (arguments.depth_behind depth first) others next.0 item next.1 (at ∙ ap (λ n. get_or (first ∷ others) n item) next.2) tells some))
    ]

-- all tokens are one argument, where no end of one is found
pub separated-nowhere : (left depth : ℕ) (items : List Item) → signs.before_end depth (signs_of items) ≡ None → arguments.separated left depth items ≡ items ∷ []
separated-nowhere left depth [] none = separated-nothing left depth
separated-nowhere left depth (item ∷ others) none =
    elim (cases_Bool (signs.ends (sign_of item) && eqb depth 0)) [
      | inl is ↦ absurd (not-some 0 (sym (end-here depth (sign_of item) (signs_of others) is) ∙ none))
      | inr is ↦ separated-goes_on left depth item others (no-comma depth left item is)
          ∙ ap (arguments.in_first item) (separated-nowhere left (arguments.depth_behind depth item) others (none-further _ (sym (end-further depth item others is) ∙ none)))
          ∙ in_first-more item others []
    ]

no-left : (b : Bool) → (b && false) ≡ false
no-left true = refl
no-left false = refl

-- the same where no comma is left
pub separated-no_left : (depth : ℕ) (items : List Item) → arguments.separated 0 depth items ≡ items ∷ []
separated-no_left depth [] = separated-nothing 0 depth
separated-no_left depth (item ∷ others) =
    separated-goes_on 0 depth item others (no-left (arguments.separates item && eqb depth 0))
    ∙ ap (arguments.in_first item) (separated-no_left (arguments.depth_behind depth item) others)
    ∙ in_first-more item others []

-- LOOPS

-- one token more, which doesn't close
pub closing-more : (all : Option ℕ) (items : List Item) (depth i : ℕ) (item : Item) → i < length items → item ≡ get_or items i item
    → all ≡ signs.index_from i (signs.before_closing depth (signs_of (drop i items))) → (arguments.closes item && eqb depth 0) ≡ false
    → all ≡ signs.index_from (i + 1) (signs.before_closing (arguments.depth_behind depth item) (signs_of (drop (i + 1) items)))
closing-more all items depth i item lt at before is =
    before
    ∙ at_drop_more (λ (xs : List Item). signs.index_from i (signs.before_closing depth (signs_of xs))) items i item lt
    ∙ ap (λ (x : Item). signs.index_from i (signs.before_closing depth (signs_of (x ∷ drop (i + 1) items)))) (sym at)
    ∙ ap (signs.index_from i) (closing-further depth item (drop (i + 1) items) is)
    ∙ one-more (signs.before_closing (arguments.depth_behind depth item) (signs_of (drop (i + 1) items)))
  where
    one-more : (rest : Option ℕ) → signs.index_from i (option_map (λ count. suc count) rest) ≡ signs.index_from (i + 1) rest
    one-more None = refl
    one-more (Some count) = ap Some (omega arith)

-- the token that closes
pub closing-found : (all : Option ℕ) (items : List Item) (depth i : ℕ) (item : Item) → i < length items → item ≡ get_or items i item
    → all ≡ signs.index_from i (signs.before_closing depth (signs_of (drop i items))) → (arguments.closes item && eqb depth 0) ≡ true → all ≡ Some i
closing-found all items depth i item lt at before is =
    before
    ∙ at_drop_more (λ (xs : List Item). signs.index_from i (signs.before_closing depth (signs_of xs))) items i item lt
    ∙ ap (λ (x : Item). signs.index_from i (signs.before_closing depth (signs_of (x ∷ drop (i + 1) items)))) (sym at)
    ∙ ap (signs.index_from i) (closing-here depth item (drop (i + 1) items) is)
    ∙ ap Some (omega arith)

-- no token closes
pub closing-nowhere : (all : Option ℕ) (items : List Item) (depth i : ℕ) → length items ≤ i
    → all ≡ signs.index_from i (signs.before_closing depth (signs_of (drop i items))) → all ≡ None
closing-nowhere all items depth i past before =
    before ∙ ap (λ (xs : List Item). signs.index_from i (signs.before_closing depth (signs_of xs))) (drop_all i items past) ∙ ap (signs.index_from i) (nothing-closes depth)

pub closing-start : (items : List Item) → signs.before_closing 0 (signs_of items) ≡ signs.index_from 0 (signs.before_closing 0 (signs_of (drop 0 items)))
closing-start items = same (signs.before_closing 0 (signs_of items))
  where
    same : (rest : Option ℕ) → rest ≡ signs.index_from 0 rest
    same None = refl
    same (Some count) = ap Some (omega arith)
