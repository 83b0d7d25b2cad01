use Rattle.std.proofs.Common.{◌≡◌, ◌∙◌, ◌-◌, length, sym, arith}
use Rattle.dm_phase.proofs.PlainLemmas.{ended_behind-last, ended_behind-none}
use Rattle.std.proofs.lemmas.Bool.{eqb-true, eqb-false}
use Rattle.dm_phase.proofs.reader.has_ended.Goals as goal

pub returns-then-is_empty : goal.returns-then-is_empty
returns-then-is_empty c = ended_behind-none c.args.before c.args.run.now (eqb-true _ _ (sym c.is_empty.ensures ∙ c.if-is_empty.true))

pub returns-else-is_empty : goal.returns-else-is_empty
returns-else-is_empty c =
    let none : length c.args.run.now ≡ 0 → ⊥ = eqb-false _ _ (sym c.is_empty.ensures ∙ c.if-is_empty.false) in
    sym (ended_behind-last c.args.before c.args.run.now (length c.args.run.now - 1) (omega (arith, none)))
