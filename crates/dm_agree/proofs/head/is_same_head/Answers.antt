-- Two declarations.
use Rattle.std.proofs.Common.{◌≡◌, ◌↔◌, IsTrue, sym, subst}
use Rattle.dm_meaning.specs.Replaced.{relabelled}
use Rattle.dm_agree.specs.declared.head.Head.{Head}
use Rattle.dm_agree.specs.declared.head.Head.TheVariants.{Declare}
use Rattle.dm_agree.specs.Heads.{label_of_head}
use Rattle.dm_agree.specs.Moves.{moved_past}
use Rattle.dm_agree.proofs.head.is_same_head.Goals as goal

pub returns-in-Declare-Declare : goal.returns-in-Declare-Declare
returns-in-Declare-Declare c =
    let new_types = c.args.new_types.now in
    let old_types = c.args.old_types.now in
    subst (λ (head : Head). IsTrue c.is_same_declaration.result ↔ (label_of_head new_types head ≡ relabelled (moved_past c.args.block) (label_of_head old_types c.args.old.now))) (sym c.in-Declare-Declare.is-0)
    (subst (λ (head : Head). IsTrue c.is_same_declaration.result ↔ (label_of_head new_types (Declare c.in-Declare-Declare.a) ≡ relabelled (moved_past c.args.block) (label_of_head old_types head))) (sym c.in-Declare-Declare.is-1)
    (c.is_same_declaration.ensures new_types old_types))
