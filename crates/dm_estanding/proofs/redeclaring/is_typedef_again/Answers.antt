-- Each of three parts is asked for in turn.
use Rattle.std.proofs.Common.{sym, ◌∙◌}
use Rattle.dm_estanding.proofs.SeenLemmas.{first-fails, second-fails, third-says, same-later}
use Rattle.dm_estanding.proofs.redeclaring.is_typedef_again.Goals as goal

pub returns-then-not-is_typedef : goal.returns-then-not-is_typedef
returns-then-not-is_typedef c = λ later begins. first-fails _ _ _ (sym c.is_typedef.ensures ∙ c.if-not-is_typedef.true)

pub returns-then-not-is_typedef-2 : goal.returns-then-not-is_typedef-2
returns-then-not-is_typedef-2 c = λ later begins.
    second-fails _ _ _ (sym c.is_typedef.ensures ∙ c.if-not-is_typedef.false) (sym c.is_typedef-2.ensures ∙ c.if-not-is_typedef-2.true)

pub returns : goal.returns
returns c = λ later begins.
    third-says _ _ _ c.is_same.result (sym c.is_typedef.ensures ∙ c.if-not-is_typedef.false) (sym c.is_typedef-2.ensures ∙ c.if-not-is_typedef-2.false)
    (c.is_same.ensures ∙ sym (same-later c.args.types.now later c.args.old.now.kind c.args.entry.now.kind begins c.requires.old c.requires.entry))
