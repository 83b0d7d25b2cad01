-- The names are tried in the order of the table.
use Rattle.std.proofs.Common.{◌≡◌, Bool, true, false, cond, ap, sym, ◌∙◌}
use Rattle.dm_search.specs.Headers.{header_number}
use Rattle.dm_search.proofs.header.header_number_of.Goals as goal

hit : {X : Type 0} (b : Bool) (x y : X) (r : Bool) → r ≡ b → r ≡ true → cond b x y ≡ x
hit b x y r e t = ap (λ a. cond a x y) (sym e ∙ t)

miss : {X : Type 0} (b : Bool) (x y : X) (r : Bool) → r ≡ b → r ≡ false → cond b x y ≡ y
miss b x y r e t = ap (λ a. cond a x y) (sym e ∙ t)

pub returns-then-is_called-clause-number : goal.returns-then-is_called-clause-number
unfolding header_number
returns-then-is_called-clause-number c = sym (hit _ _ _ _ c.is_called.ensures c.if-is_called.true)

pub returns-then-is_called-2-clause-number : goal.returns-then-is_called-2-clause-number
unfolding header_number
returns-then-is_called-2-clause-number c = sym (miss _ _ _ _ c.is_called.ensures c.if-is_called.false ∙ hit _ _ _ _ c.is_called-else-is_called.ensures c.if-is_called-2.true)

pub returns-then-is_called-3-clause-number : goal.returns-then-is_called-3-clause-number
unfolding header_number
returns-then-is_called-3-clause-number c = sym (miss _ _ _ _ c.is_called.ensures c.if-is_called.false ∙ miss _ _ _ _ c.is_called-else-is_called.ensures c.if-is_called-2.false ∙ hit _ _ _ _ c.is_called-else-is_called-2.ensures c.if-is_called-3.true)

pub returns-then-is_called-4-clause-number : goal.returns-then-is_called-4-clause-number
unfolding header_number
returns-then-is_called-4-clause-number c = sym (miss _ _ _ _ c.is_called.ensures c.if-is_called.false ∙ miss _ _ _ _ c.is_called-else-is_called.ensures c.if-is_called-2.false ∙ miss _ _ _ _ c.is_called-else-is_called-2.ensures c.if-is_called-3.false ∙ hit _ _ _ _ c.is_called-else-is_called-3.ensures c.if-is_called-4.true)

pub returns-then-is_called-5-clause-number : goal.returns-then-is_called-5-clause-number
unfolding header_number
returns-then-is_called-5-clause-number c = sym (miss _ _ _ _ c.is_called.ensures c.if-is_called.false ∙ miss _ _ _ _ c.is_called-else-is_called.ensures c.if-is_called-2.false ∙ miss _ _ _ _ c.is_called-else-is_called-2.ensures c.if-is_called-3.false ∙ miss _ _ _ _ c.is_called-else-is_called-3.ensures c.if-is_called-4.false ∙ hit _ _ _ _ c.is_called-else-is_called-4.ensures c.if-is_called-5.true)

pub returns-then-is_called-6-clause-number : goal.returns-then-is_called-6-clause-number
unfolding header_number
returns-then-is_called-6-clause-number c = sym (miss _ _ _ _ c.is_called.ensures c.if-is_called.false ∙ miss _ _ _ _ c.is_called-else-is_called.ensures c.if-is_called-2.false ∙ miss _ _ _ _ c.is_called-else-is_called-2.ensures c.if-is_called-3.false ∙ miss _ _ _ _ c.is_called-else-is_called-3.ensures c.if-is_called-4.false ∙ miss _ _ _ _ c.is_called-else-is_called-4.ensures c.if-is_called-5.false ∙ hit _ _ _ _ c.is_called-else-is_called-5.ensures c.if-is_called-6.true)

pub returns-else-is_called-6-clause-number : goal.returns-else-is_called-6-clause-number
unfolding header_number
returns-else-is_called-6-clause-number c = sym (miss _ _ _ _ c.is_called.ensures c.if-is_called.false ∙ miss _ _ _ _ c.is_called-else-is_called.ensures c.if-is_called-2.false ∙ miss _ _ _ _ c.is_called-else-is_called-2.ensures c.if-is_called-3.false ∙ miss _ _ _ _ c.is_called-else-is_called-3.ensures c.if-is_called-4.false ∙ miss _ _ _ _ c.is_called-else-is_called-4.ensures c.if-is_called-5.false ∙ miss _ _ _ _ c.is_called-else-is_called-5.ensures c.if-is_called-6.false)
