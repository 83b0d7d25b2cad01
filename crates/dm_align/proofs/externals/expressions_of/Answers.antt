-- Nothing stands before them.
use Rattle.std.proofs.Common.{◌++◌, List, map, ap, ◌∙◌, sym}
use Rattle.std.specs.Borrow.{Bor}
use Rattle.dm_tree.specs.declared.tree.Core.{Core}
use Rattle.dm_tree.specs.TypeNumbers.{are_known_in_local}
use Rattle.dm_tree.specs.Views.{expressions_of_locals, view, view_of_local}
use Rattle.dm_agree.specs.Parts.{nows, are_all_known}
use Rattle.dm_align.proofs.StepLemmas.{pass-each}
use Rattle.dm_align.proofs.externals.expressions_of.Goals as goal

pub returns-clause-same : goal.returns-clause-same
returns-clause-same c types =
    c.in_ok-push_locals.ensures.same types
    ∙ ap (λ (items : List (Bor Core)). map (view types) (nows items) ++ expressions_of_locals (map (view_of_local types) c.args.locals.now)) c.new-found.ensures.items

pub returns-clause-known : goal.returns-clause-known
returns-clause-known c n known =
    c.in_ok-push_locals.ensures.known n (ap (λ (items : List (Bor Core)). are_all_known n (nows items)) c.new-found.ensures.items)
    (sym (pass-each (are_known_in_local n) c.args.locals.now) ∙ known)
