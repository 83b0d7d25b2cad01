-- The tokens in turn.
use Rattle.std.specs.Prelude.{◌||◌, ◌&&◌, not, bytes_eq, refl}
use Rattle.std.proofs.Common.{ap, ◌∙◌}
use Rattle.dm_typing.specs.Views.{source_of}
use Rattle.dm_eunit.specs.Lacking.{has}
use Rattle.dm_eunit.proofs.LackingLemmas.{known-now, begun, gone-on, all-done}
use Rattle.dm_eunit.proofs.lacking.others.Goals as goal

pub loop-token-init : goal.loop-token-init
loop-token-init c = record {
  set = c.in_ok-add_unless.ensures.set;
  names =
      begun c.args.defined.now c.args.typer.now.tokens.now c.in_ok-names.names c.add_unless.new.names c.in_ok-names.ensures
      (λ other. c.in_ok-add_unless.ensures.has other
      ∙ ap (λ empty. has c.in_ok-names.names other || (bytes_eq empty other && not (has c.args.defined.now other))) c.in_ok-empty.ensures);
  kept = c.in_ok-latest.ensures.kept;
  known = c.in_ok-latest.ensures.known;
}

pub loop-token-preserved : goal.loop-token-preserved
loop-token-preserved c = record {
  set = c.in_ok-take.ensures.set;
  names = λ other.
      gone-on c.args.defined.now c.args.typer.now.tokens.now c.loop-token.token-index c.token-item.result c.loop-token-test.true c.token-item.is c.loop-token.names c.take.new.names
      c.in_ok-take.ensures.has other ∙ c.loop-token.invariant.names other;
  kept = c.take.ensures.kept;
  known = c.in_ok-take.ensures.known;
}

pub returns : goal.returns
returns c = λ at. all-done c.args.defined.now c.args.typer.now.tokens.now c.loop-token.token-index c.loop-token-test.false c.loop-token.names (source_of c.args.typer.now) refl c.loop-token.invariant.names at

pub filled-requires : goal.filled-requires
filled-requires c = known-now c.in_ok-names.names c.add_unless.new.names c.args.defined.now c.in_ok-empty.empty c.in_ok-add_unless.ensures.has
