use Rattle.std.specs.Prelude.{refl}
use Rattle.dm_meaning.specs.Steps.{scene_of}
use Rattle.dm_rewrite.specs.Computed.{computed}
use Rattle.dm_rewrite.proofs.ComputedLemmas.{computed_step}
use Rattle.dm_rewrite.proofs.SettleLemmas.{evaluated_at_once, evaluated_free, wrong_met}
use Rattle.dm_rewrite.proofs.laws.pure_steps.Goals as goal

pub returns : goal.returns
returns c = record {
  each = computed_step;
  at_once = evaluated_at_once;
  defined = evaluated_free;
  wrong = λ program place hole use_of rest state run there pure meets.
      wrong_met program place hole use_of rest state run there pure (computed (scene_of program state) state.world run) refl meets;
}
