-- A member is an lvalue where the whole is.
use Rattle.std.proofs.Common.{ap, sym, ◌∙◌}
use Rattle.dm_tree.specs.Scenes.{is_lvalue}
use Rattle.dm_tree.specs.Views.{view}
use Rattle.dm_beside.proofs.PlaceLemmas.{lvalue-member}
use Rattle.dm_beside.proofs.places.+is_lvalue.Goals as goal

pub returns-in-Member : goal.returns-in-Member
returns-in-Member t c = λ types.
    c.is_lvalue.ensures types ∙ (ap (λ x. is_lvalue (view types x)) c.get.ensures ∙ sym (lvalue-member types c.args.tree.now c.in-Member.whole c.in-Member.field-1 c.in-Member.is))
