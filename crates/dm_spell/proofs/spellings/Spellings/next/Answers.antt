use Rattle.std.proofs.Common.{arith, get_or, subst, sym, ◌∙◌, ◌≡◌, ap, length, List, ℕ, true}
use Rattle.dm_spell.specs.Rows.{is_next}
use Rattle.dm_spell.proofs.RowLemmas.{next_further, none_between, length-rows_of}
use Rattle.dm_spell.proofs.spellings.Spellings.next.Goals as goal

pub overflow_add-result : goal.overflow_add-result
overflow_add-result g c =
    let rows = ap length c.self.view_is in
    omega (arith, length-rows_of 0 c.self.inside.text.now c.self.inside.ends.now, c.self.invariant.2, c.self.invariant.3)

pub returns-then-number-nexts-clause-none : goal.returns-then-number-nexts-clause-none
returns-then-number-nexts-clause-none g c =
    let is : is_next 0 c.self.inside.nexts.now c.args.self.now ≡ true = subst (λ (rows : List (List ℕ)). is_next 0 c.self.inside.nexts.now rows ≡ true) c.self.view_is c.self.invariant.5 in
    none_between c.self.inside.nexts.now c.args.self.now c.args.number c.args.byte is c.if-number-nexts.true c.requires
    (ap (λ (row : List ℕ). get_or row 0 0) (sym c.row-row.ensures.row) ∙ c.if-row-byte.true)

pub returns-then-number-nexts-clause-further : goal.returns-then-number-nexts-clause-further
returns-then-number-nexts-clause-further g c =
    let is : is_next 0 c.self.inside.nexts.now c.args.self.now ≡ true = subst (λ (rows : List (List ℕ)). is_next 0 c.self.inside.nexts.now rows ≡ true) c.self.view_is c.self.invariant.5 in
    next_further c.self.inside.nexts.now c.args.self.now c.args.number is c.if-number-nexts.true c.requires
