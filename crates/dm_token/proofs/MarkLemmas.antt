-- Equal marks, and equal lists of them.
use Rattle.std.proofs.Common.{◌≡◌, ◌≢◌, Bool, true, false, ◌&&◌, List, [], ◌∷◌, ◌++◌, length, refl, sym, ◌∙◌, ap, subst, arith}
use Rattle.std.proofs.lemmas.Bool.{and_parts, and_from, eqb-true, eq-eqb, false≢true}
use Rattle.std.proofs.Math.Bool.{and-true, and_assoc}
use Rattle.std.specs.Bool.{◌==◌}
use Rattle.std.specs.Cmp.Lexicographic.{pointwise, pointwise_decides}
use Rattle.dm_token.specs.declared.expansion.Mark.{Mark}
use Rattle.dm_token.specs.declared.expansion.Mark.TheVariants.{Expansion, Argument}
use Rattle.dm_token.specs.contracts.expansion.MarkPartialEq.TheImpl as mark_eq
use Rattle.dm_token.specs.Equal.{equal}

pub same_mark : (a b : Mark) → (mark_eq.ghosts).eq a b ≡ true → a ≡ b
same_mark (Expansion a b) (Expansion c d) e =
    let both = and_parts (a == c) (b == d) e in
    let first : a ≡ c = eqb-true a c both.0 in
    let second : b ≡ d = eqb-true b d both.1 in
    cc
same_mark (Expansion a b) (Argument c d) e = absurd (false≢true e)
same_mark (Argument a b) (Expansion c d) e = absurd (false≢true e)
same_mark (Argument a b) (Argument c d) e =
    let both = and_parts (a == c) (b == d) e in
    let first : a ≡ c = eqb-true a c both.0 in
    let second : b ≡ d = eqb-true b d both.1 in
    cc

pub mark_itself : (a : Mark) → (mark_eq.ghosts).eq a a ≡ true
mark_itself (Expansion a b) = and_from (a == a) (b == b) (eq-eqb a a refl) (eq-eqb b b refl)
mark_itself (Argument a b) = and_from (a == a) (b == b) (eq-eqb a a refl) (eq-eqb b b refl)

pub marks_apart : (a b : Mark) → (mark_eq.ghosts).eq a b ≡ false → a ≢ b
marks_apart a b e same = false≢true (sym e ∙ (ap ((mark_eq.ghosts).eq a) (sym same) ∙ mark_itself a))

-- two lists of one length, each with one item more
pointwise-push : {A : Type 0} (same : A → A → Bool) (xs ys : List A) (x y : A) → length xs ≡ length ys → pointwise same (xs ++ x ∷ []) (ys ++ y ∷ []) ≡ (pointwise same xs ys && same x y)
pointwise-push same [] [] x y h = and-true (same x y)
pointwise-push same [] (b ∷ ys) x y h = absurd (omega arith)
pointwise-push same (a ∷ xs) [] x y h = absurd (omega arith)
pointwise-push same (a ∷ xs) (b ∷ ys) x y h =
    ap (λ rest. same a b && rest) (pointwise-push same xs ys x y (omega arith)) ∙ sym (and_assoc (same a b) (pointwise same xs ys) (same x y))

pub equal-push : (xs ys : List Mark) (x y : Mark) → length xs ≡ length ys → equal (xs ++ x ∷ []) (ys ++ y ∷ []) ≡ (equal xs ys && (mark_eq.ghosts).eq x y)
equal-push = pointwise-push (mark_eq.ghosts).eq

pub equal-same : (xs ys : List Mark) → equal xs ys ≡ true → xs ≡ ys
equal-same xs ys = (pointwise_decides (λ a b. (same_mark a b, λ e. subst (λ c. (mark_eq.ghosts).eq a c ≡ true) e (mark_itself a))) xs ys).0

pub same-equal : (xs ys : List Mark) → xs ≡ ys → equal xs ys ≡ true
same-equal xs ys = (pointwise_decides (λ a b. (same_mark a b, λ e. subst (λ c. (mark_eq.ghosts).eq a c ≡ true) e (mark_itself a))) xs ys).1
