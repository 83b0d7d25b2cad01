use Rattle.std.proofs.Common.{◌-◌, ◌≤◌, ℕ, List, length, drop, ap, ◌∙◌, arith}
use Rattle.dm_expand.specs.Items.{Item}
use Rattle.dm_expand.proofs.ShareLemmas.{length-stretch, stretch-behind, behind-is}
use Rattle.dm_expand.proofs.stretch.Stretch.skip.Goals as goal

pub invariant_of-self : goal.invariant_of-self
invariant_of-self c =
    let items : List Item = c.self.inside.shared.value.items.items in
    let first : ℕ = c.self.inside.first in
    let after : ℕ = c.self.inside.after in
    let within : c.args.count ≤ after - first = omega (arith, c.requires, ap length c.self.view_is, length-stretch items first after c.self.invariant.within) in
    behind-is items c.self.inside.shared.value.ends first after c.args.count c.self.inside.came c.self.invariant within

pub returns : goal.returns
returns c =
    let items : List Item = c.self.inside.shared.value.items.items in
    let first : ℕ = c.self.inside.first in
    let after : ℕ = c.self.inside.after in
    let within : c.args.count ≤ after - first = omega (arith, c.requires, ap length c.self.view_is, length-stretch items first after c.self.invariant.within) in
    stretch-behind items first after c.args.count within ∙ ap (drop c.args.count) c.self.view_is
