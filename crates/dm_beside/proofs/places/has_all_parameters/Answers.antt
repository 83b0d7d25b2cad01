-- One parameter after another.
use Rattle.std.proofs.Common.{◌≡◌, ℕ, suc, ◌+◌, ◌-◌, ◌<◌, ◌≤◌, Bool, true, false, ◌&&◌, List, get_or, ap, sym, ◌∙◌, arith}
use Rattle.std.specs.List.{list_all, range_with_len}
use Rattle.dm_beside.specs.Places.{occurs}
use Rattle.dm_beside.proofs.places.has_all_parameters.Goals as goal

step : (test : ℕ → Bool) (i count : ℕ) → i < count → list_all test (range_with_len i (count - i)) ≡ (test i && list_all test (range_with_len (i + 1) (count - (i + 1))))
step test i count lt = let more : count - i ≡ suc (count - (i + 1)) = omega arith in ap (λ (n : ℕ). list_all test (range_with_len i n)) more

none : (test : ℕ → Bool) (i count : ℕ) → count ≤ i → list_all test (range_with_len i (count - i)) ≡ true
none test i count le = let left : count - i ≡ 0 = omega arith in ap (λ (n : ℕ). list_all test (range_with_len i n)) left

known : (count i : ℕ) (marks seen : List Bool) (test : ℕ → Bool) → seen ≡ marks → ((n : ℕ) → n < count → get_or marks n false ≡ test n) → i < count → get_or seen i false ≡ test i
known count i marks seen test same h lt = ap (λ (them : List Bool). get_or them i false) same ∙ h i lt

pub returns-then-not-is_marked : goal.returns-then-not-is_marked
returns-then-not-is_marked c =
    let test : ℕ → Bool = occurs c.args.run.now in
    let i = c.loop-parameter.parameter in
    sym (sym c.loop-parameter.invariant
    ∙ (step test i c.args.count (omega arith) ∙ ap (λ b. b && list_all test (range_with_len (i + 1) (c.args.count - (i + 1)))) (sym (known c.args.count i c.in_ok-marks.marks.items c.as_slice.result.now (occurs c.args.run.now) c.as_slice.ensures.value c.in_ok-marks.ensures (omega arith)) ∙ (sym c.is_marked.ensures ∙ c.if-not-is_marked.true))))

pub loop-parameter-preserved : goal.loop-parameter-preserved
loop-parameter-preserved c =
    let test : ℕ → Bool = occurs c.args.run.now in
    let i = c.loop-parameter.parameter in
    sym (step test i c.args.count (omega arith) ∙ ap (λ b. b && list_all test (range_with_len (i + 1) (c.args.count - (i + 1)))) (sym (known c.args.count i c.in_ok-marks.marks.items c.as_slice.result.now (occurs c.args.run.now) c.as_slice.ensures.value c.in_ok-marks.ensures (omega arith)) ∙ (sym c.is_marked.ensures ∙ c.if-not-is_marked.false)))
    ∙ c.loop-parameter.invariant

pub returns : goal.returns
returns c =
    let test : ℕ → Bool = occurs c.args.run.now in
    sym (sym c.loop-parameter.invariant ∙ none test c.loop-parameter.parameter c.args.count (omega arith))
