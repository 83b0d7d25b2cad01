use Rattle.std.proofs.Common.{length, arith, ◌∷◌, ℕ, get_or, ap}
use Rattle.dm_spell.proofs.RowLemmas.{rises-at, get_or-before}
use Rattle.dm_spell.proofs.spellings.place_of.Goals as goal
use Rattle.dm_spell.proofs.spellings.place_of.Goals.{then-number-eq0, else-number-eq0}

pub returns-clause-above : goal.returns-clause-above
returns-clause-above c =
    let ends = c.args.ends.now in
    let e = (rises-at 0 ends (length c.args.text.now) c.args.number c.requires.rising c.requires.number).above in
    elim c.if-number-eq0.branch [
      | then-number-eq0 w ↦ omega (arith, ap (λ (n : ℕ). get_or (0 ∷ ends) n 0) w.if-number-eq0.true)
      | else-number-eq0 w ↦ omega (arith, get_or-before ends 0 c.args.number w.if-number-eq0.false)
    ]

pub returns-clause-within : goal.returns-clause-within
returns-clause-within c =
    (rises-at 0 c.args.ends.now (length c.args.text.now) c.args.number c.requires.rising c.requires.number).within
