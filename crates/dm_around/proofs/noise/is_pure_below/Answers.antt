-- By the expression above.
use Rattle.std.proofs.Common.{◌≡◌, ℕ, Option, true, ap, subst, sym, ◌∙◌}
use Rattle.dm_tree.specs.Views.{view}
use Rattle.dm_around.specs.declared.noise.Noise.{Noise}
use Rattle.dm_around.specs.Noises.{IsPureBelow}
use Rattle.dm_around.proofs.noise.is_pure_below.Goals as goal

pub returns-then-noise_at : goal.returns-then-noise_at
returns-then-noise_at c types below is =
    let known = subst (λ (parent : Option ℕ). IsPureBelow c.args.known.now parent (view types c.args.tree.now)) c.in-Some.is below in
    known (ap (λ (noise : Noise). noise.pure) (sym c.noise_at.ensures) ∙ c.if-noise_at.true)

pub returns : goal.returns
returns c types below is = sym (c.is_pure.ensures types) ∙ is
