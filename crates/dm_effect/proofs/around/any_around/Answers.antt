-- The answer is yes beside the next part, or round the rest of the way.
use Rattle.std.proofs.Common.{◌≡◌, true, false, [], ◌∷◌, length, ap, refl, sym, ◌∙◌, rules, arith}
use Rattle.std.specs.List.{list_any}
use Rattle.dm_tree.specs.Paths.{Path}
use Rattle.dm_tree.specs.Views.{view}
use Rattle.dm_effect.specs.Doubts.{is_doubted}
use Rattle.dm_effect.specs.Sequencing.{around, others_of}
use Rattle.dm_effect.proofs.AroundLemmas.{any_at, around-here, around-none, around-below, around-other}
use Rattle.dm_effect.proofs.WalkLemmas.{second-skips}
use Rattle.dm_effect.proofs.around.any_around.Goals as goal

pub loop-number-init : goal.loop-number-init
loop-number-init c types = ap (λ (way : Path). list_any (is_doubted types c.args.doubt) (around way (view types c.args.full.now))) c.items-left.ensures

nothing : (way : Path) → length way ≡ 0 → way ≡ []
nothing [] h = refl
nothing (n ∷ way) h = absurd (omega arith)

pub returns-then-any_other : goal.returns-then-any_other
returns-then-any_other c types =
    let test = is_doubted types c.args.doubt in
    let tree = view types c.loop-number.tree.now in
    let n = c.in-Some.number.now in
    let other : any_at test tree (others_of n tree) ≡ true = ap (any_at test tree) (c.last_operand.ensures types n) ∙ (sym (c.any_other.ensures types) ∙ c.if-any_other.true) in
    sym (sym (c.loop-number.invariant types) ∙ around-other test tree n c.in-Some.rest.now c.loop-number.left.now c.in-Some.ensures.cases.0 other)

pub returns-in-None : goal.returns-in-None
returns-in-None c types =
    let test = is_doubted types c.args.doubt in
    let tree = view types c.loop-number.tree.now in
    let n = c.in-Some.number.now in
    let other : any_at test tree (others_of n tree) ≡ false = ap (any_at test tree) (c.last_operand.ensures types n) ∙ (sym (c.any_other.ensures types) ∙ c.if-any_other.false) in
    sym (sym (c.loop-number.invariant types) ∙ (around-none test tree n c.in-Some.rest.now c.loop-number.left.now c.in-Some.ensures.cases.0 (sym (c.in-None.ensures types)) ∙ other))

pub loop-number-preserved : goal.loop-number-preserved
loop-number-preserved c types =
    let test = is_doubted types c.args.doubt in
    let tree = view types c.loop-number.tree.now in
    let n = c.in-Some.number.now in
    let next = view types c.in-Some-part.next.now in
    let other : any_at test tree (others_of n tree) ≡ false = ap (any_at test tree) (c.last_operand.ensures types n) ∙ (sym (c.any_other.ensures types) ∙ c.if-any_other.false) in
    sym (around-below test tree n c.in-Some.rest.now c.loop-number.left.now c.in-Some.ensures.cases.0 next (sym (c.in-Some-part.ensures types))
    ∙ second-skips (list_any test (around c.in-Some.rest.now next)) (any_at test tree (others_of n tree)) other)
    ∙ c.loop-number.invariant types

pub returns : goal.returns
returns c types =
    let test = is_doubted types c.args.doubt in
    let tree = view types c.loop-number.tree.now in
    c.doubts.ensures types ∙ (sym (around-here test tree c.loop-number.left.now (nothing c.loop-number.left.now (search rules))) ∙ c.loop-number.invariant types)
