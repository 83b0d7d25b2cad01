use Rattle.std.proofs.Common.{◌+◌, ◌-◌, ◌≤◌, ℕ, List, length, sym, ap, subst, arith}
use Rattle.dm_token.specs.declared.expansion.Mark.{Mark}
use Rattle.dm_expand.specs.declared.stretch.Shared as code_shared
use Rattle.dm_expand.specs.Items.{Item}
use Rattle.dm_expand.specs.Shares.{IsStretch}
use Rattle.dm_expand.proofs.ShareLemmas.{length-stretch, front-is}
use Rattle.dm_expand.proofs.stretch.Stretch.front.Goals as goal

pub invariant_of-result : goal.invariant_of-result
invariant_of-result c =
    let items : List Item = c.self.inside.shared.value.items.items in
    let first : ℕ = c.self.inside.first in
    let after : ℕ = c.self.inside.after in
    let is = c.self.invariant in
    let within : c.args.count ≤ after - first = omega (arith, c.requires, ap length c.self.view_is, length-stretch items first after is.within) in
    subst (λ (shared : code_shared.Shared). IsStretch shared.items.items shared.ends first (first + c.args.count) c.in_ok-copy.field-0) (sym c.in_ok-clone.ensures.cases)
    (subst (λ (came : List Mark). IsStretch items c.self.inside.shared.value.ends first (first + c.args.count) came) (sym c.in_ok-copy.ensures) (front-is items c.self.inside.shared.value.ends first after c.args.count c.self.inside.came is within))
