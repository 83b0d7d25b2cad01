use Rattle.std.proofs.Common.{◌≡◌, take}
use Rattle.dm_syn.proofs.tokens.yield_of.Given as goal

-- the tokens so far
abbrev pub invariant-loop-token : goal.invariant-loop-token
invariant-loop-token l = l.list ≡ take l.token-index l.tokens
