use Rattle.std.proofs.Common.{ℕ, Option, sym, ap, subst}
use Rattle.dm_token.specs.declared.stop.Stop.TheVariants.{Memory}
use Rattle.dm_unit.specs.Loaders.{Grows}
use Rattle.dm_unit.specs.Views.{stop_of}
use Rattle.dm_unit.proofs.LeaveLemmas.{stop-is, stopped-named}
use Rattle.dm_unit.proofs.unit_tokens.Goals as goal

pub returns-clause-loader : goal.returns-clause-loader
returns-clause-loader g c = λ not.
    subst (λ (apart : Option ℕ). Grows apart c.args.loader.now c.read_unit.new.loader) (sym (stopped-named c.read_unit.result))
    (c.read_unit.ensures.leaves.grows (λ e. not (stop-is c.read_unit.result Memory e)))

pub returns-clause-failed : goal.returns-clause-failed
returns-clause-failed g c = λ file e. c.read_unit.ensures.leaves.failed file (ap stop_of e)

pub returns-clause-unknown : goal.returns-clause-unknown
returns-clause-unknown g c = λ file e. c.read_unit.ensures.leaves.unknown file (ap stop_of e)
