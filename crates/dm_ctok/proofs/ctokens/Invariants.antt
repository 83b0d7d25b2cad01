use Rattle.std.proofs.Common.{◌≡◌, drop}
use Rattle.dm_ctok.specs.Tokens.{ctokens_of, each}
use Rattle.dm_ctok.specs.Pending.{as_list, resumed_unless_refused}
use Rattle.dm_ctok.proofs.ctokens.Given as goal

abbrev pub invariant-loop-token : goal.invariant-loop-token
invariant-loop-token l =
    ctokens_of l.tokens ≡ resumed_unless_refused l.joiner.done (as_list l.joiner.pending) (each (drop l.token-index l.tokens))
