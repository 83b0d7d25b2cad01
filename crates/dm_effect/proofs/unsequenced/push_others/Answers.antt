-- One operand is passed over or found.
use Rattle.std.proofs.Common.{◌≡◌, ℕ, true, false, ◌==◌, List, [], ◌∷◌, ◌++◌, Option, Some, ap, sym, ◌∙◌, rules, arith}
use Rattle.std.proofs.lemmas.Grind.{common_steps}
use Rattle.std.specs.Prelude.{reverse}
use Rattle.dm_tree.specs.Paths.{Path}
use Rattle.dm_effect.specs.Operands.{others_by, previous}
use Rattle.dm_effect.proofs.BesideLemmas.{onto, one-more, none-more}
use Rattle.dm_effect.proofs.unsequenced.push_others.Goals.{then-operand-number+in_ok-way+in_ok-push, else-operand-number}
use Rattle.dm_effect.proofs.unsequenced.push_others.Goals as goal

pub loop-left-preserved : goal.loop-left-preserved
loop-left-preserved c =
    let n : ℕ = c.args.number in
    let front : Path = c.args.front.now in
    let operand : ℕ = c.in-Some.operand in
    let found : List Path = c.loop-left.found.items in
    let more : c.if-operand-number.found.items ++ reverse (onto front (others_by n (previous operand))) ≡ found ++ reverse (onto front (others_by n (Some operand))) =
    elim c.if-operand-number.branch [
      | then-operand-number+in_ok-way+in_ok-push w ↦
          (let pushed : c.if-operand-number.found.items ≡ found ++ (front ++ operand ∷ []) ∷ [] = first_of (search rules, grind (arith, common_steps)) in
          let other : (operand == n) ≡ false = search rules in
          ap (λ (them : List Path). them ++ reverse (onto front (others_by n (previous operand)))) pushed ∙ one-more found front n operand other)
      | else-operand-number w ↦
          (let kept : c.if-operand-number.found.items ≡ found = first_of (search rules, grind (arith, common_steps)) in
          let same : (operand == n) ≡ true = search rules in
          ap (λ (them : List Path). them ++ reverse (onto front (others_by n (previous operand)))) kept ∙ none-more found front n operand same)
    ] in
    ap (λ (left : Option ℕ). c.if-operand-number.found.items ++ reverse (onto front (others_by n left))) c.previous-left.ensures
    ∙ (more ∙ (ap (λ (left : Option ℕ). found ++ reverse (onto front (others_by n left))) (sym c.in-Some.is) ∙ c.loop-left.invariant))
