-- The declarators decide, where there are as many lengths.
use Rattle.std.proofs.Common.{◌≡◌, ◌↔◌, List, ◌∙◌, sym, subst}
use Rattle.dm_tree.specs.declared.tree.Local.{Local}
use Rattle.dm_tree.specs.Views.{opened_form}
use Rattle.dm_meaning.specs.Replaced.{relabelled}
use Rattle.dm_agree.specs.Heads.{declaring}
use Rattle.dm_agree.specs.Moves.{moved_past}
use Rattle.dm_agree.proofs.HeadLemmas.{declarators-decide, counts-differ}
use Rattle.dm_agree.proofs.StepLemmas.{never, through, SameDeclarators}
use Rattle.dm_agree.proofs.head.is_same_declaration.Goals as goal

pub returns-then-len : goal.returns-then-len
returns-then-len c a b =
    let here = c.in-Declare-Declare in
    never (counts-differ a b c.args.block c.args.new.now c.args.old.now here.lengths here.others here.locals here.declarators here.is-0 here.is-1
    (λ e. c.if-len.true (c.len.ensures ∙ (e ∙ sym c.len-in-Declare-Declare.ensures))))

pub returns : goal.returns
returns c a b =
    let here = c.in-Declare-Declare in
    let labels : Type 0 = declaring (opened_form a c.args.new.now).label ≡ relabelled (moved_past c.args.block) (declaring (opened_form b c.args.old.now).label) in
    through (c.are_same_declarators.ensures a b)
    (subst (λ (locals : List Local). SameDeclarators a b c.args.block locals c.items-in-Declare-Declare.result.now ↔ labels) (sym c.items.ensures)
    (subst (λ (declarators : List Local). SameDeclarators a b c.args.block here.locals declarators ↔ labels) (sym c.items-in-Declare-Declare.ensures)
    (declarators-decide a b c.args.block c.args.new.now c.args.old.now here.lengths here.others here.locals here.declarators here.is-0 here.is-1 (sym c.len.ensures ∙ (c.if-len.false ∙ c.len-in-Declare-Declare.ensures)))))
