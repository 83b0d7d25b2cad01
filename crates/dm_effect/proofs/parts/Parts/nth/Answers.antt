-- The single parts are searched one after the other, and then the lists.
use Rattle.std.proofs.Common.{sym, ◌∙◌}
use Rattle.dm_effect.proofs.parts.Parts.nth.Goals as goal

pub returns-in-Found : goal.returns-in-Found
returns-in-Found c types = sym (c.in-Found.ensures types _)

pub returns-in-Found-in_single : goal.returns-in-Found-in_single
returns-in-Found-in_single c types = sym (c.in-Left.ensures types _ ∙ c.in-Found-in_single.ensures types _)

pub returns-in-Found-in_single-2 : goal.returns-in-Found-in_single-2
returns-in-Found-in_single-2 c types = sym (c.in-Left.ensures types _ ∙ (c.in-Left-in_single.ensures types _ ∙ c.in-Found-in_single-2.ensures types _))

pub returns-in-Found-in_single-3 : goal.returns-in-Found-in_single-3
returns-in-Found-in_single-3 c types =
    sym (c.in-Left.ensures types _ ∙ (c.in-Left-in_single.ensures types _ ∙ (c.in-Left-in_single-2.ensures types _ ∙ c.in-Found-in_single-3.ensures types _)))

pub returns-in-Left-in_single-3 : goal.returns-in-Left-in_single-3
returns-in-Left-in_single-3 c types =
    c.in_lists.ensures types
    ∙ sym (c.in-Left.ensures types _ ∙ (c.in-Left-in_single.ensures types _ ∙ (c.in-Left-in_single-2.ensures types _ ∙ c.in-Left-in_single-3.ensures types _)))
