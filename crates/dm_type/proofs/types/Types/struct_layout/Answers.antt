-- Members that don't fit so far never will.
use Rattle.std.proofs.Common.{◌≡◌, suc, None, drop, sym, ap, ◌∙◌, subst, arith}
use Rattle.std.specs.Option.{option_and_then}
use Rattle.std.proofs.Math.Nat.{le-max_left}
use Rattle.dm_type.specs.declared.layout.Layout.{Layout}
use Rattle.dm_type.specs.Layouts.{followed_by, padded, if_fits}
use Rattle.dm_type.specs.Sound.{IsSound}
use Rattle.dm_type.proofs.LayoutLemmas.{joined-over, joined-next, over-fits}
use Rattle.dm_type.proofs.types.Types.struct_layout.Goals as goal

pub returns-in_err-all-clause-layout : goal.returns-in_err-all-clause-layout
returns-in_err-all-clause-layout c =
    let before : Layout = c.loop-member.all in
    let behind : Layout = followed_by before c.in_ok-layout.layout in
    let none : if_fits behind ≡ None = ap if_fits (sym c.followed_by.ensures) ∙ sym c.in_err-all.ensures in
    let greater = le-max_left before.alignment c.in_ok-layout.layout.alignment in
    let aligned = c.loop-member.invariant.2 in
    let next = joined-next c.args.self.now c.args.members.now c.loop-member.member-index c.member-item.result before c.in_ok-layout.layout c.loop-member-test.true c.member-item.is c.in_ok-layout.ensures.layout in
    let over = joined-over c.args.self.now (drop (suc c.loop-member.member-index) c.args.members.now) behind (subst IsSound c.self.view_is c.self.invariant.0) (over-fits behind none) (omega (arith, aligned, greater)) in
    c.from_residual-in_err-all.ensures ∙ sym (ap (option_and_then (λ layout. if_fits (padded layout))) (c.loop-member.invariant.0 ∙ next) ∙ over)
