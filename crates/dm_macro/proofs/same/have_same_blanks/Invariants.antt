use Rattle.std.proofs.Common.{◌≡◌, map, take}
use Rattle.dm_macro.proofs.same.have_same_blanks.Given as goal

abbrev pub invariant-loop-index : goal.invariant-loop-index
invariant-loop-index l = map (λ token. token.blank_before) (take l.index l.one) ≡ map (λ token. token.blank_before) (take l.index l.other)
