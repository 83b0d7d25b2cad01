-- By the newlines of the file.
use Rattle.std.proofs.Common.{ℕ, List, [], get_or, ap, ◌∙◌}
use Rattle.dm_subjects.specs.Subjects.{bytes_at}
use Rattle.dm_subjects.proofs.NewlineLemmas.{newlines-at}
use Rattle.dm_subjects.proofs.newlines.line_in.Goals as goal

pub returns : goal.returns
returns c loaded slots are =
    c.line_by.ensures (bytes_at loaded c.args.file) (c.newlines_at.ensures ∙ ap (λ (all : List (List ℕ)). get_or all c.args.file []) are ∙ newlines-at loaded c.args.file slots)
