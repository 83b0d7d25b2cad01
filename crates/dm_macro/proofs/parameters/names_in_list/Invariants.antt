use Rattle.std.proofs.Common.{◌≡◌, take}
use Rattle.dm_macro.specs.Forms.{names_in}
use Rattle.dm_macro.proofs.parameters.names_in_list.Given as goal

abbrev pub invariant-loop-token : goal.invariant-loop-token
invariant-loop-token l = l.names.items ≡ names_in (take l.token-index l.tokens)
