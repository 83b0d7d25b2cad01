use Rattle.std.proofs.Common.{◌≡◌, ◌+◌, ◌++◌, [], ◌∷◌, ℕ, List, take, length, sym, ap, ◌∙◌, subst, is_some, arith}
use Rattle.std.specs.FinMap as map
use Rattle.std.proofs.lemmas.List.{take_more, length-take-le}
use Rattle.dm_name_map.specs.Numbers.{Numbers}
use Rattle.dm_macro.specs.Roles.{HavePositions}
use Rattle.dm_macro.proofs.NamedLemmas.{not_some, positions-nothing, positions-old, positions-new}
use Rattle.dm_macro.proofs.named.positions_of.Goals as goal
use Rattle.dm_macro.proofs.named.positions_of.Goals.{then-is_none+in_ok-copy+in_ok-insert, else-is_none}

pub loop-position-init : goal.loop-position-init
loop-position-init c = positions-nothing c.new-positions.result c.new-positions.ensures

pub loop-position-preserved : goal.loop-position-preserved
loop-position-preserved c =
    let names : List (List ℕ) = c.args.names.now in
    let i : ℕ = c.loop-position.position in
    let name : List ℕ = c.index-names-position.result in
    let front : List (List ℕ) = take i names in
    let more : front ++ name ∷ [] ≡ take (i + 1) names = ap (λ (n : List ℕ). front ++ n ∷ []) c.index-names-position.is ∙ sym (take_more names i name c.loop-position-test.true) in
    let counted : i ≡ length front = sym (length-take-le i names (omega (arith, c.loop-position-test.true))) in
    let before : Numbers = c.loop-position.positions in
    subst (λ ns. HavePositions ns c.if-is_none.positions) more
    (elim c.if-is_none.branch [
      | then-is_none+in_ok-copy+in_ok-insert w ↦
          subst (HavePositions (front ++ name ∷ [])) (sym (w.positions-is ∙ w.in_ok-insert.ensures.ok ∙ (λ k. map.insert before (w.in_ok-copy.ensures k) (counted k))))
          (positions-new front name before c.loop-position.invariant (sym c.get.ensures ∙ not_some c.get.result w.if-is_none.ensures))
      | else-is_none w ↦
          subst (HavePositions (front ++ name ∷ [])) (sym w.positions-is) (positions-old front name before c.loop-position.invariant (ap is_some (sym c.get.ensures) ∙ w.if-is_none.ensures))
    ])
