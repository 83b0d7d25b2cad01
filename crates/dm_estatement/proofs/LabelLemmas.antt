-- The labels of a switch: the definition has the last of them first, and the set has it last.
use Rattle.std.specs.Prelude.{◌≡◌, ℤ, Bool, true, false, ◌||◌, if◌then◌else◌, List, [], ◌∷◌, ◌++◌, reverse, Option, Some, None, refl}
use Rattle.std.specs.List.{list_any}
use Rattle.std.specs.Option.{option_eq}
use Rattle.std.specs.Ordering.{int_eq}
use Rattle.std.proofs.Common.{sym, ap, ap₂, ◌∙◌, arith, rules}
use Rattle.std.proofs.lemmas.List.{reverse-append}
use Rattle.std.proofs.lemmas.List.Folds.{list_any-append}
use Rattle.dm_int.specs.Operators.{int_eq as same_int}
use Rattle.dm_tree.specs.Typing.{is_same_label}
use Rattle.dm_edecl.specs.Statements.{is_label_among}

same-int : (a b : ℤ) → int_eq a b ≡ same_int a b
same-int a b = search (rules, arith)

same-label : (a b : Option ℤ) → option_eq int_eq a b ≡ is_same_label a b
same-label None None = refl
same-label (Some a) (Some b) = same-int a b
same-label None (Some b) = refl
same-label (Some a) None = refl

any-among : (one : Option ℤ) (labels : List (Option ℤ)) → list_any (option_eq int_eq one) labels ≡ is_label_among one labels
any-among one [] = refl
any-among one (first ∷ others) = ap₂ (λ a b. a || b) (same-label one first) (any-among one others)

swapped : (a b : Bool) → (a || (b || false)) ≡ (b || a)
swapped false false = refl
swapped false true = refl
swapped true false = refl
swapped true true = refl

any-reverse : (test : Option ℤ → Bool) (labels : List (Option ℤ)) → list_any test (reverse labels) ≡ list_any test labels
any-reverse test [] = refl
any-reverse test (first ∷ others) =
    ap (list_any test) (reverse-append (first ∷ []) others)
    ∙ list_any-append test (reverse others) (first ∷ [])
    ∙ swapped (list_any test (reverse others)) (test first)
    ∙ ap (λ b. test first || b) (any-reverse test others)

-- whether a label is among those of the set
pub have-is : (one : Option ℤ) (keys : List (Option ℤ)) → list_any (option_eq int_eq one) keys ≡ is_label_among one (reverse keys)
have-is one keys = sym (any-reverse (option_eq int_eq one) keys) ∙ any-among one (reverse keys)

-- a label that is new goes last in the set
pub with-is : (one : Option ℤ) (keys new : List (Option ℤ)) → is_label_among one (reverse keys) ≡ false
    → new ≡ (if list_any (option_eq int_eq one) keys then keys else keys ++ one ∷ []) → reverse new ≡ one ∷ reverse keys
with-is one keys new fresh is =
    ap reverse (is ∙ ap (λ b. if b then keys else keys ++ one ∷ []) (have-is one keys ∙ fresh)) ∙ reverse-append keys (one ∷ [])
