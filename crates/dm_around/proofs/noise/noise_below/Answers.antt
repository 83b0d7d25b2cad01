-- By what isn't quiet round the expression above.
use Rattle.std.proofs.Common.{ℕ, Option, ap, sym, ◌∙◌}
use Rattle.dm_tree.specs.Views.{view, view_of_unit}
use Rattle.dm_around.specs.declared.noise.Noise.{Noise}
use Rattle.dm_around.specs.Noises.{is_noisy, is_beside, is_beside_operand}
use Rattle.dm_around.proofs.NoiseLemmas.{pure-operands}
use Rattle.dm_around.proofs.noise.noise_below.Goals as goal
use Rattle.dm_around.proofs.noise.noise_below.Goals.{then-pure, else-pure}

pub returns-in-Some-clause-beside : goal.returns-in-Some-clause-beside
returns-in-Some-clause-beside c types =
    let noisy = is_noisy (view_of_unit types c.args.quiet.now) (view types c.args.tree.now) in
    c.is_beside-beside.ensures types
    ∙ (ap (λ (above : Noise). is_beside_operand above noisy) c.noise_at.ensures ∙ sym (ap (λ (parent : Option ℕ). is_beside c.args.known.now noisy parent) c.in-Some.is))

pub returns-in-Some-clause-operands : goal.returns-in-Some-clause-operands
returns-in-Some-clause-operands c types below =
    elim c.if-pure.branch [
      | then-pure w ↦
          w.operands-is ∙ sym (pure-operands (view_of_unit types c.args.quiet.now) (view types c.args.tree.now) (c.is_pure_below-pure.ensures types below w.if-pure.true))
      | else-pure w ↦ w.operands-is ∙ w.noisy_operands-operands.ensures types
    ]

pub returns-in-None-clause-operands : goal.returns-in-None-clause-operands
returns-in-None-clause-operands c types below =
    elim c.if-pure.branch [
      | then-pure w ↦
          w.operands-is ∙ sym (pure-operands (view_of_unit types c.args.quiet.now) (view types c.args.tree.now) (c.is_pure_below-pure.ensures types below w.if-pure.true))
      | else-pure w ↦ w.operands-is ∙ w.noisy_operands-operands.ensures types
    ]
