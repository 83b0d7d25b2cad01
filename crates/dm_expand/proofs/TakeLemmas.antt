-- Expansions that are taken where a mark tells which they are.
use Rattle.std.proofs.Common.{◌≡◌, ◌≢◌, ℕ, zero, suc, ◌+◌, ◌<◌, ◌≤◌, Bool, true, false, cond, ◌||◌, ◌==◌, List, [], ◌∷◌, ◌++◌, length, map, set, get_or, refl, sym, ap, ◌∙◌, arith}
use Rattle.std.specs.List.{list_any}
use Rattle.std.proofs.lemmas.Bool.{eq-eqb, ne_eqb}
use Rattle.std.proofs.lemmas.List.Folds.{list_any-append}
use Rattle.dm_token.specs.declared.expansion.Expansion.{Expansion}
use Rattle.dm_token.specs.declared.expansion.Mark.{Mark}
use Rattle.dm_token.specs.declared.expansion.Mark.TheVariants as mark
use Rattle.dm_token.specs.declared.place.Place.{Place}
use Rattle.dm_expand.specs.Items.{Item}
use Rattle.dm_expand.specs.Trails.{marks_instance, carry}
use Rattle.dm_expand.specs.Steps.{taken_by}
use Rattle.dm_expand.specs.Predefined.{name_of}
use Rattle.dm_expand.specs.Laws.{AreNumbered}
use Rattle.dm_expand.specs.Views.{taken_along}

or_false : (b : Bool) → (b || false) ≡ b
or_false true = refl
or_false false = refl

or_true : (b : Bool) → (b || true) ≡ true
or_true true = refl
or_true false = refl

regroup : (a b c : Bool) → (a || (b || c)) ≡ ((a || (c || false)) || b)
regroup true b c = refl
regroup false true true = refl
regroup false true false = refl
regroup false false true = refl
regroup false false false = refl

or_assoc : (a b c : Bool) → (a || (b || c)) ≡ ((a || b) || c)
or_assoc true b c = refl
or_assoc false b c = refl

-- NO MARK

pub along-nothing : (made : List Expansion) → map (taken_along []) made ≡ made
along-nothing [] = refl
along-nothing (one ∷ others) =
    ap (λ (b : Bool). record one { taken = b } ∷ map (taken_along []) others) (or_false one.taken) ∙ ap (λ (xs : List Expansion). one ∷ xs) (along-nothing others)

pub along-argument : (parameter occurrence : ℕ) (made : List Expansion) → map (taken_along (mark.Argument parameter occurrence ∷ [])) made ≡ made
unfolding marks_instance
along-argument parameter occurrence [] = refl
along-argument parameter occurrence (one ∷ others) =
    ap (λ (b : Bool). record one { taken = b } ∷ map (taken_along (mark.Argument parameter occurrence ∷ [])) others) (or_false one.taken)
    ∙ ap (λ (xs : List Expansion). one ∷ xs) (along-argument parameter occurrence others)

pub taken-nothing : (made : List Expansion) → map (taken_by []) made ≡ made
unfolding taken_by carry
taken-nothing [] = refl
taken-nothing (one ∷ others) =
    ap (λ (b : Bool). record one { taken = b } ∷ map (taken_by []) others) (or_false one.taken) ∙ ap (λ (xs : List Expansion). one ∷ xs) (taken-nothing others)

-- ONE MARK

differs : (taken : Bool) (number instance : ℕ) → number ≢ instance → (taken || ((number == instance) || false)) ≡ taken
differs taken number instance apart = ap (λ (b : Bool). taken || (b || false)) (ne_eqb number instance apart) ∙ or_false taken

equals : (taken : Bool) (number instance : ℕ) → number ≡ instance → (taken || ((number == instance) || false)) ≡ true
equals taken number instance same = ap (λ (b : Bool). taken || (b || false)) (eq-eqb number instance same) ∙ or_true taken

-- the numbers begin behind it
pub along-below : (definition number first next : ℕ) (made : List Expansion) → AreNumbered first made next → number < first → map (taken_along (mark.Expansion definition number ∷ [])) made ≡ made
unfolding marks_instance
along-below definition number first next [] numbered lt = refl
along-below definition number first next (one ∷ others) numbered lt =
    ap (λ (b : Bool). record one { taken = b } ∷ map (taken_along (mark.Expansion definition number ∷ [])) others) (differs one.taken number one.instance (λ same. absurd (omega (arith, same, numbered.0))))
    ∙ ap (λ (xs : List Expansion). one ∷ xs) (along-below definition number (suc first) next others numbered.1 (omega arith))

-- they end before it
pub along-beyond : (definition number first next : ℕ) (made : List Expansion) → AreNumbered first made next → first + length made ≤ number → map (taken_along (mark.Expansion definition number ∷ [])) made ≡ made
unfolding marks_instance
along-beyond definition number first next [] numbered le = refl
along-beyond definition number first next (one ∷ others) numbered le =
    ap (λ (b : Bool). record one { taken = b } ∷ map (taken_along (mark.Expansion definition number ∷ [])) others) (differs one.taken number one.instance (λ same. absurd (omega (arith, same, numbered.0))))
    ∙ ap (λ (xs : List Expansion). one ∷ xs) (along-beyond definition number (suc first) next others numbered.1 (omega arith))

-- it is the one that many behind the first
pub along-at : (definition number first next index : ℕ) (made : List Expansion) (other : Expansion) → AreNumbered first made next → number ≡ first + index → index < length made
    → set made index (record (get_or made index other) { taken = true }) ≡ map (taken_along (mark.Expansion definition number ∷ [])) made
unfolding marks_instance
along-at definition number first next index [] other numbered is lt = absurd (omega arith)
along-at definition number first next zero (one ∷ others) other numbered is lt =
    ap (λ (xs : List Expansion). record one { taken = true } ∷ xs) (sym (along-below definition number (suc first) next others numbered.1 (omega arith)))
    ∙ ap (λ (b : Bool). record one { taken = b } ∷ map (taken_along (mark.Expansion definition number ∷ [])) others) (sym (equals one.taken number one.instance (omega (arith, is, numbered.0))))
along-at definition number first next (suc index) (one ∷ others) other numbered is lt =
    ap (λ (xs : List Expansion). one ∷ xs) (along-at definition number (suc first) next index others other numbered.1 (omega arith) (omega arith))
    ∙ ap (λ (b : Bool). record one { taken = b } ∷ map (taken_along (mark.Expansion definition number ∷ [])) others) (sym (differs one.taken number one.instance (λ same. absurd (omega (arith, is, same, numbered.0)))))

-- A TRAIL

pub along-numbered : (trail : List Mark) (first : ℕ) (made : List Expansion) (next : ℕ) → AreNumbered first made next → AreNumbered first (map (taken_along trail) made) next
along-numbered trail first [] next numbered = numbered
along-numbered trail first (one ∷ others) next numbered = (numbered.0, along-numbered trail (suc first) others next numbered.1)

pub along-grown : (outer : List Mark) (inner : Mark) (made : List Expansion) → map (taken_along (outer ++ inner ∷ [])) made ≡ map (taken_along outer) (map (taken_along (inner ∷ [])) made)
along-grown outer inner [] = refl
along-grown outer inner (one ∷ others) =
    ap (λ (b : Bool). record one { taken = one.taken || b } ∷ map (taken_along (outer ++ inner ∷ [])) others) (list_any-append (marks_instance one.instance) outer (inner ∷ []))
    ∙ ap (λ (b : Bool). record one { taken = b } ∷ map (taken_along (outer ++ inner ∷ [])) others) (ends (list_any (marks_instance one.instance) outer) (marks_instance one.instance inner))
    ∙ ap (λ (xs : List Expansion). taken_along outer (taken_along (inner ∷ []) one) ∷ xs) (along-grown outer inner others)
  where
    ends : (b c : Bool) → (one.taken || (b || (c || false))) ≡ ((one.taken || (c || false)) || b)
    ends b c = ap (λ (d : Bool). one.taken || (b || d)) (or_false c) ∙ regroup one.taken b c

pub along-behind : (front behind : List Mark) (made : List Expansion) → map (taken_along (front ++ behind)) made ≡ map (taken_along behind) (map (taken_along front) made)
along-behind front behind [] = refl
along-behind front behind (one ∷ others) =
    ap (λ (b : Bool). record one { taken = one.taken || b } ∷ map (taken_along (front ++ behind)) others) (list_any-append (marks_instance one.instance) front behind)
    ∙ ap (λ (b : Bool). record one { taken = b } ∷ map (taken_along (front ++ behind)) others) (or_assoc one.taken (list_any (marks_instance one.instance) front) (list_any (marks_instance one.instance) behind))
    ∙ ap (λ (xs : List Expansion). taken_along behind (taken_along front one) ∷ xs) (along-behind front behind others)

-- TOKENS

pub taken-more : (item : Item) (items : List Item) (made : List Expansion) → map (taken_by (item ∷ items)) made ≡ map (taken_by items) (map (taken_along item.trail) made)
unfolding taken_by carry
taken-more item items [] = refl
taken-more item items (one ∷ others) =
    ap (λ (b : Bool). record one { taken = b } ∷ map (taken_by (item ∷ items)) others) (or_assoc one.taken (list_any (marks_instance one.instance) item.trail) (list_any (λ (x : Item). list_any (marks_instance one.instance) x.trail) items))
    ∙ ap (λ (xs : List Expansion). taken_by items (taken_along item.trail one) ∷ xs) (taken-more item items others)

-- THE NAME

pub name_of-below : (number first next : ℕ) (made : List Expansion) (other : Place) → AreNumbered first made next → number < first → other ≡ name_of number made other
unfolding name_of
name_of-below number first next [] other numbered lt = refl
name_of-below number first next (one ∷ others) other numbered lt =
    name_of-below number (suc first) next others other numbered.1 (omega arith)
    ∙ sym (ap (λ (b : Bool). cond b one.name (name_of number others other)) (ne_eqb one.instance number (λ same. absurd (omega (arith, same, numbered.0)))))

pub name_of-beyond : (number first next : ℕ) (made : List Expansion) (other : Place) → AreNumbered first made next → first + length made ≤ number → other ≡ name_of number made other
unfolding name_of
name_of-beyond number first next [] other numbered le = refl
name_of-beyond number first next (one ∷ others) other numbered le =
    name_of-beyond number (suc first) next others other numbered.1 (omega arith)
    ∙ sym (ap (λ (b : Bool). cond b one.name (name_of number others other)) (ne_eqb one.instance number (λ same. absurd (omega (arith, same, numbered.0)))))

pub name_of-at : (number first next index : ℕ) (made : List Expansion) (default : Expansion) (other : Place) → AreNumbered first made next → number ≡ first + index → index < length made
    → (get_or made index default).name ≡ name_of number made other
unfolding name_of
name_of-at number first next index [] default other numbered is lt = absurd (omega arith)
name_of-at number first next zero (one ∷ others) default other numbered is lt =
    sym (ap (λ (b : Bool). cond b one.name (name_of number others other)) (eq-eqb one.instance number (omega (arith, is, numbered.0))))
name_of-at number first next (suc index) (one ∷ others) default other numbered is lt =
    name_of-at number (suc first) next index others default other numbered.1 (omega arith) (omega arith)
    ∙ sym (ap (λ (b : Bool). cond b one.name (name_of number others other)) (ne_eqb one.instance number (λ same. absurd (omega (arith, is, same, numbered.0)))))
