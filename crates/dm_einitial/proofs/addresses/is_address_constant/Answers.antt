-- What is reached is the same whatever numbers come.
use Rattle.std.specs.Prelude.{length}
use Rattle.std.proofs.Common.{ap, sym, ◌∙◌}
use Rattle.dm_tree.specs.Views.{view}
use Rattle.dm_tree.proofs.ViewLemmas.{known-form}
use Rattle.dm_typing.specs.Views.{seen}
use Rattle.dm_edecl.specs.Initialising.{is_place, is_start}
use Rattle.dm_einitial.proofs.LaterValues.{address-later, address-of, no-address}
use Rattle.dm_einitial.proofs.addresses.is_address_constant.Goals as goal

pub reach_by-requires : goal.reach_by-requires
reach_by-requires c =
    let n = length c.args.known.now.types.shapes in c.in-Some.ensures.numbered n (known-form n c.args.core.now c.requires)

pub returns-in-Some : goal.returns-in-Some
returns-in-Some c = λ later begins.
    let held = c.args.known.now in
    c.is_place.ensures ∙ ap is_place c.reach_by.ensures
    ∙ sym (address-later held later begins c.args.core.now c.requires
    ∙ address-of (seen held) held.types c.args.core.now (view held.types c.in-Some.operand.now) (c.in-Some.ensures.operand held.types))

pub returns-in-None : goal.returns-in-None
returns-in-None c = λ later begins.
    let held = c.args.known.now in
    c.is_start.ensures ∙ ap is_start c.reach_by-in-None.ensures
    ∙ sym (address-later held later begins c.args.core.now c.requires
    ∙ no-address (seen held) held.types c.args.core.now (c.in-None.ensures.other held.types))
