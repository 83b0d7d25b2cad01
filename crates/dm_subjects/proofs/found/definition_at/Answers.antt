-- The line's offsets tell the definitions of the key.
use Rattle.std.proofs.Common.{ℕ, List, ◌&&◌, ◌==◌, ap, ◌∙◌}
use Rattle.std.specs.List.{flat_map}
use Rattle.dm_token.specs.Places.{line_at}
use Rattle.dm_token.specs.declared.expansion.Definition.{Definition}
use Rattle.dm_definitions.specs.Counts.{is_in_file}
use Rattle.dm_judge.specs.Proposals.{definitions_in}
use Rattle.dm_subjects.specs.Lines.{stands_on}
use Rattle.dm_subjects.specs.Subjects.{has_key}
use Rattle.dm_subjects.proofs.SearchLemmas.{found-same}
use Rattle.dm_subjects.proofs.found.definition_at.Goals as goal

pub returns : goal.returns
returns c =
    let key = c.args.key in
    c.definition_on.ensures
    ∙ found-same (stands_on key.file c.of-line.result) (has_key c.args.loader.now key)
    (λ (one : Definition).
    ap (λ b. is_in_file one.origin && ((one.place.file == key.file) && b))
    (c.of-line.ensures one.hash ∙ ap (λ (bytes : List ℕ). line_at bytes one.hash == key.line) c.bytes_at.ensures))
    (flat_map definitions_in c.args.readings.now)
