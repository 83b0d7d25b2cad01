use Rattle.std.proofs.Common.{nat_eq, ap, ◌∙◌, sym}
use Rattle.std.specs.List.{list_any}
use Rattle.dm_expand.proofs.HiddenLemmas.{of_list, among-is, push-is, insert_present}
use Rattle.dm_expand.proofs.hidden.add_to.Goals as goal

pub returns-in_ok-push : goal.returns-in_ok-push
returns-in_ok-push c = ap of_list c.in_ok-push.ensures.items ∙ push-is _ _

pub returns-else-not-is_among : goal.returns-else-not-is_among
returns-else-not-is_among c =
    insert_present _ _ (sym (among-is _ _) ∙ ap (λ numbers. list_any (λ other. nat_eq other c.args.number) numbers) (sym c.as_slice.ensures.value) ∙ sym c.if-not-is_among.ensures)
