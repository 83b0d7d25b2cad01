-- What is left after the steps to come is what is left after all.
use Rattle.std.proofs.Common.{◌≡◌, ◌-◌, option_map}
use Rattle.dm_program.specs.Sources.{meant}
use Rattle.dm_exec.specs.Orders.{choices}
use Rattle.dm_exec.specs.Runs.{after_seen}
use Rattle.dm_exec.specs.Shown.{shown, StateFits}
use Rattle.dm_exec.proofs.RunLemmas.{left_after}
use Rattle.dm_exec.proofs.run.take_steps.Given as goal

abbrev pub invariant-loop : goal.invariant-loop
invariant-loop l = record {
  fits : StateFits l.program.table l.state;
  order : l.choices.order ≡ l.order;
  left : left_after (meant l.program) l.order l.choices.number (l.n - l.counter) (shown l.program.table l.state)
      ≡ option_map (after_seen (meant l.program) (choices l.order l.n)) (shown l.program.table l.fn.state);
}
