use Rattle.std.proofs.Common.{arith, sym, ap, ◌∙◌, ◌≡◌, ◌^◌, ◌*ℤ◌, pos, ◌*◌, ◌%◌, true, to_z, of_z, unsigned_abs}
use Rattle.std.specs.Int.{w128}
use Rattle.std.proofs.lemmas.Int.{ints, to_z-of_z}
use Rattle.dm_int.specs.declared.Fault.TheVariants.{Shift}
use Rattle.dm_int.specs.Kinds as kinds
use Rattle.dm_int.specs.Operators as operators
use Rattle.dm_int.specs.Ranges.{value-in_range}
use Rattle.dm_int.proofs.Wide.{wide, along, wide_shl, shift_left_is, count_below}
use lib.Signed
use Rattle.dm_int.proofs.shift_left.Goals as goal

pub returns-then-a-ge0-clause-answer : goal.returns-then-a-ge0-clause-answer
returns-then-a-ge0-clause-answer c =
    let v = value-in_range c.args.kind c.args.a c.requires in
    let p : lib.Signed.le_z (pos 0) c.args.count ≡ true = grind (arith, ints) in
    let q : lib.Signed.lt_z c.args.count (pos (kinds.width c.args.kind)) ≡ true =
    ap (λ x. lib.Signed.lt_z x (pos (kinds.width c.args.kind))) (sym (to_z-of_z w128 c.args.count c.ranges.count))
    ∙ ap (λ y. lib.Signed.lt_z (wide c.args.count) y) (sym (to_z-of_z w128 c.from.result (record { sfits = c.from.type_inv }) ∙ c.from.ensures ∙ ap (λ n. pos n) c.width.ensures))
    ∙ c.if-count-from.true in
    let r : lib.Signed.le_z (pos 0) c.args.a ≡ true = grind (arith, ints) in
    along (operators.fit c.args.kind Shift) (to_z w128 (of_z w128 c.args.a * 2 ^ unsigned_abs (wide c.args.count) % 2 ^ 128)) (c.args.a *ℤ pos (2 ^ unsigned_abs c.args.count)) c.fit.result
    (wide_shl c.args.a c.args.count v (omega (arith, ints)) (omega (arith, ints)) (count_below c.args.kind c.args.count q)) c.fit.ensures.answer
    ∙ sym (shift_left_is c.args.kind c.args.a c.args.count p q r)
