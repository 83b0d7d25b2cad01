use Rattle.std.proofs.Common.{sym, ◌∙◌}
use Rattle.dm_edit.proofs.OrderLemmas.{with_change-only}
use Rattle.dm_edit.proofs.laws.one_edit.Goals as goal

pub returns : goal.returns
returns c = λ bytes change edited other is_edited is_other.
    is_edited.2 ∙ (with_change-only bytes change is_edited.0 is_other.0 is_edited.1 is_other.1 ∙ sym is_other.2)
