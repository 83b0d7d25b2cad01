use Rattle.std.proofs.Common.{◌≡◌, ◌+◌, ◌-◌, ◌++◌, ◌∷◌, [], ℕ, List, length, take, drop, sym, ap, ◌∙◌, arith, append_assoc, length-drop, drop-drop}
use Rattle.dm_expand.specs.Items.{Item}
use Rattle.dm_expand.specs.Arguments as arguments
use Rattle.dm_expand.proofs.arguments.separated.Goals as goal

pub arguments-smaller : goal.arguments-smaller
arguments-smaller c =
    omega (arith, ap length c.skip-in-Some.ensures, length-drop 1 c.skip.new.self, ap length c.skip.ensures, length-drop c.in-Some.count c.arguments.rest, c.in-Some.ensures.0)

pub arguments-preserved : goal.arguments-preserved
arguments-preserved c =
    let rest : List Item = c.arguments.rest in
    let count : ℕ = c.in-Some.count in
    let left : ℕ = c.arguments.left in
    let behind : c.skip-in-Some.new.self ≡ drop (count + 1) rest = c.skip-in-Some.ensures ∙ ap (drop 1) c.skip.ensures ∙ drop-drop 1 count rest in
    c.arguments.invariant
    ∙ ap (λ (xs : List (List Item)). c.arguments.given ++ xs) c.in-Some.ensures.1
    ∙ sym (append_assoc c.arguments.given (take count rest ∷ []) (arguments.separated (left - 1) 0 (drop (count + 1) rest)))
    ∙ ap (λ (xs : List Item). (c.arguments.given ++ xs ∷ []) ++ arguments.separated (left - 1) 0 (drop (count + 1) rest)) (sym c.in_ok-front.ensures)
    ∙ ap (λ (xs : List (List Item)). xs ++ arguments.separated (left - 1) 0 (drop (count + 1) rest)) (sym c.in_ok-push.ensures.ok)
    ∙ ap (λ n. c.push.new.self ++ arguments.separated n 0 (drop (count + 1) rest)) (sym c.saturating_sub-left.ensures)
    ∙ ap (λ (xs : List Item). c.push.new.self ++ arguments.separated c.saturating_sub-left.result 0 xs) (sym behind)
