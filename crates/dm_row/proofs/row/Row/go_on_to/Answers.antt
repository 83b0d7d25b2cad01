-- One item further on there are still no more ready nodes in front of the place than the number.
use Rattle.std.proofs.Common.{◌≡◌, ◌∙◌, ◌&&◌, false, nat_eq, rules}
use Rattle.dm_row.specs.Counts.{ready_in, results_after, is_next_ready}
use Rattle.dm_row.proofs.SeekLemmas.{behind-same, on-few}
use Rattle.dm_row.proofs.row.Row.go_on_to.Goals as goal

pub loop-self-preserved : goal.loop-self-preserved
loop-self-preserved g c =
    let not_there : (is_next_ready (results_after 0 c.loop-self.self.0) c.loop-self.self.1 && nat_eq (ready_in 0 c.loop-self.self.0) c.args.number) ≡ false = search rules in (
      c.loop-self.invariant.0 ∙ behind-same c.loop-self.self c.go_on.new.self c.in_ok-go_on.ensures,
      on-few c.loop-self.self c.go_on.new.self c.args.number c.in_ok-go_on.ensures c.loop-self.invariant.1 not_there,
    )
