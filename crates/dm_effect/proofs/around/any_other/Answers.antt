-- The answer is yes for the last operand that is left, or for one before it.
use Rattle.std.proofs.Common.{◌≡◌, ℕ, ◌&&◌, ◌==◌, not, Option, None, ap, sym, ◌∙◌, rules}
use Rattle.dm_tree.specs.Paths.{tree_in}
use Rattle.dm_tree.specs.Trees.{trees_of}
use Rattle.dm_tree.specs.Views.{view}
use Rattle.dm_effect.specs.Doubts.{is_doubted}
use Rattle.dm_effect.specs.Entities.{passes}
use Rattle.dm_effect.specs.Operands.{others_by, previous}
use Rattle.dm_effect.proofs.AroundLemmas.{any_at, others-asked}
use Rattle.dm_effect.proofs.WalkLemmas.{second-stops, second-skips}
use Rattle.dm_effect.proofs.around.any_other.Goals as goal

pub returns-then-doubts_other : goal.returns-then-doubts_other
returns-then-doubts_other c types =
    let test = is_doubted types c.args.doubt in
    let tree = view types c.args.tree.now in
    let n = c.args.number in
    let operand = c.in-Some.operand in
    sym (sym (c.loop-left.invariant types)
    ∙ (ap (λ (left : Option ℕ). any_at test tree (others_by n left)) c.in-Some.is
    ∙ (others-asked test tree n operand
    ∙ second-stops (any_at test tree (others_by n (previous operand))) (not (operand == n) && passes test (tree_in (trees_of tree) operand)) (sym (c.doubts_other.ensures types) ∙ c.if-doubts_other.true))))

pub loop-left-preserved : goal.loop-left-preserved
loop-left-preserved c types =
    let test = is_doubted types c.args.doubt in
    let tree = view types c.args.tree.now in
    let n = c.args.number in
    let operand = c.in-Some.operand in
    ap (λ (left : Option ℕ). any_at test tree (others_by n left)) c.previous-left.ensures
    ∙ (sym (ap (λ (left : Option ℕ). any_at test tree (others_by n left)) c.in-Some.is
    ∙ (others-asked test tree n operand
    ∙ second-skips (any_at test tree (others_by n (previous operand))) (not (operand == n) && passes test (tree_in (trees_of tree) operand)) (sym (c.doubts_other.ensures types) ∙ c.if-doubts_other.false)))
    ∙ c.loop-left.invariant types)

pub returns : goal.returns
returns c types =
    let none : c.loop-left.left ≡ None = search rules in
    sym (sym (c.loop-left.invariant types) ∙ ap (λ (left : Option ℕ). any_at (is_doubted types c.args.doubt) (view types c.args.tree.now) (others_by c.args.number left)) none)
