-- It has an object, or none.
use Rattle.std.proofs.Common.{◌≡◌, false, ◌||◌, ◌==◌, ap, sym, ◌∙◌}
use Rattle.dm_tree.specs.Views.{view}
use Rattle.dm_effect.specs.Entities.{addresses_here, is_this}
use Rattle.dm_stable.specs.Marks.{mark_at}
use Rattle.dm_stable.proofs.MarkLemmas.{adds-this, or-none, tells-by}
use Rattle.dm_stable.proofs.marks.note_address.Goals as goal

pub returns-in-Some : goal.returns-in-Some
returns-in-Some c types d token old h =
    let tree = view types c.args.node.now in
    let object = c.in-Some.object in
    let same : (object == d) ≡ addresses_here d tree = sym (c.in-Some.ensures types d) in
    tells-by (mark_at c.note.new.marks.items d) token (old || (object == d)) (old || addresses_here d tree) (ap (λ x. old || x) same) (c.note.ensures d token old (object == d) h (adds-this object d token))

pub returns-in_default : goal.returns-in_default
returns-in_default c types d token old h =
    let tree = view types c.args.node.now in
    let none : addresses_here d tree ≡ false = c.object_addressed.ensures types d ∙ ap (is_this d) c.in_default.is in
    tells-by (mark_at c.args.addressed.now.items d) token old (old || addresses_here d tree) (sym (ap (λ x. old || x) none ∙ or-none old)) h
