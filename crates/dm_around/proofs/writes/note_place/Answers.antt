-- By the node that stands there.
use Rattle.std.proofs.Common.{Bool, cond, ◌++◌, ◌∷◌, [], Option, append-nil, sym, ap, ◌∙◌}
use Rattle.dm_sites.specs.Links.{passes}
use Rattle.dm_sites.specs.Sites.{Site}
use Rattle.dm_around.specs.Writes.{row_at, writes_at}
use Rattle.dm_around.proofs.writes.note_place.Goals as goal

pub returns-in_default-object_written : goal.returns-in_default-object_written
returns-in_default-object_written c types d =
    let row = row_at c.args.rows.now.items d in
    let n = c.args.number in
    sym (append-nil row)
    ∙ (ap (λ (b : Bool). row ++ cond b (n ∷ []) []) (sym (c.in_default-object_written.ensures types d))
    ∙ ap (λ (found : Option Site). row ++ cond (passes (writes_at d) found) (n ∷ []) []) (c.in-Some.ensures types))

pub returns : goal.returns
returns c types d =
    let row = row_at c.args.rows.now.items d in
    let n = c.args.number in
    c.in_ok-note.ensures d
    ∙ (ap (λ (b : Bool). row ++ cond b (n ∷ []) []) (sym (c.in-Some-object_written.ensures types d))
    ∙ ap (λ (found : Option Site). row ++ cond (passes (writes_at d) found) (n ∷ []) []) (c.in-Some.ensures types))
