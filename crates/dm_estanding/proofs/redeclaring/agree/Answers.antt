-- Each of three parts is asked for in turn.
use Rattle.std.proofs.Common.{sym, ◌∙◌}
use Rattle.dm_estanding.proofs.SeenLemmas.{first-fails, second-fails, third-says}
use Rattle.dm_estanding.proofs.SummaryLemmas.{compatible-later}
use Rattle.dm_estanding.proofs.redeclaring.agree.Goals as goal

pub returns-then-not-is_same_sort : goal.returns-then-not-is_same_sort
returns-then-not-is_same_sort c = λ later begins. first-fails _ _ _ (sym c.is_same_sort.ensures ∙ c.if-not-is_same_sort.true)

pub returns-then-not-is_same_linkage : goal.returns-then-not-is_same_linkage
returns-then-not-is_same_linkage c = λ later begins.
    second-fails _ _ _ (sym c.is_same_sort.ensures ∙ c.if-not-is_same_sort.false) (sym c.is_same_linkage.ensures ∙ c.if-not-is_same_linkage.true)

pub returns : goal.returns
returns c = λ later begins.
    third-says _ _ _ c.compatible.result (sym c.is_same_sort.ensures ∙ c.if-not-is_same_sort.false) (sym c.is_same_linkage.ensures ∙ c.if-not-is_same_linkage.false)
    (c.compatible.ensures ∙ sym (compatible-later c.args.types.now later c.args.kind c.args.entry.now.kind begins c.requires.old c.requires.entry))
