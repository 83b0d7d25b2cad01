-- One after another.
use Rattle.std.proofs.Common.{ℕ, ◌==◌, List, sym, subst, rules}
use Rattle.std.specs.List.{list_any}
use Rattle.dm_stable.specs.declared.marks.Mark.{Mark}
use Rattle.dm_stable.specs.Marks.{Follows}
use Rattle.dm_stable.proofs.MarkLemmas.{adds-this, follows-both, follows-none, nothing}
use Rattle.dm_stable.proofs.marks.note_parameters.Goals as goal

abbrev noted : List Mark → List Mark → List ℕ → Type 0
noted old new objects = Follows (λ d token. list_any (λ number. number == d) objects) old new

pub loop-object-preserved : goal.loop-object-preserved
loop-object-preserved c = λ final h.
    let object = c.in-Some.object.now in
    c.loop-object.invariant final
    (subst (noted c.loop-object.received.items final) (sym c.in-Some.ensures.cases.0)
    (follows-both (λ d token. object == d) (λ d token. list_any (λ number. number == d) c.in-Some.rest.now) c.loop-object.received.items c.note.new.marks.items final
    (λ d token old k. c.note.ensures d token old (object == d) k (adds-this object d token)) h))

pub returns : goal.returns
returns c =
    c.loop-object.invariant c.loop-object.received.items
    (subst (noted c.loop-object.received.items c.loop-object.received.items) (sym (nothing c.loop-object.left.now (search rules))) (follows-none c.loop-object.received.items))
