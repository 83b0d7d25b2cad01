use Rattle.std.proofs.Common.{List, ℕ, ap, ◌∙◌, sym, length, get_or, eqb, arith}
use Rattle.dm_expand.proofs.LawLemmas.{begins_otherwise, no_bytes}
use Rattle.dm_expand.proofs.predefined.may_be_predefined.Goals as goal

pub returns-in-empty : goal.returns-in-empty
returns-in-empty c = λ _. no_bytes c.args.token.now (omega (arith, c.in-empty.len_below, ap length c.bytes.ensures))

pub returns-in-len1-up : goal.returns-in-len1-up
returns-in-len1-up c = λ other.
    begins_otherwise c.args.token.now (omega (arith, c.in-len1-up.len_at_least, ap length c.bytes.ensures)) (ap (λ (bytes : List ℕ). eqb (get_or bytes 0 0) 95) (sym c.bytes.ensures) ∙ other)
