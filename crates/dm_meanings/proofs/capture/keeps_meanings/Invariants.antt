-- What is left of the macro's own tokens.
use Rattle.std.proofs.Common.{◌≡◌, ◌-◌}
use Rattle.std.specs.Prelude.{filter}
use Rattle.std.specs.List.{list_all, range_with_len}
use Rattle.dm_token.specs.declared.expansion.Definition.{Definition}
use Rattle.dm_meanings.specs.Captures.{is_kept, is_own, keeps_meanings}
use Rattle.dm_meanings.specs.Subjects.{IsSubject}
use Rattle.dm_meanings.proofs.capture.keeps_meanings.Given as goal

abbrev pub invariant-loop-at : goal.invariant-loop-at
invariant-loop-at l =
    let run = l.fn.run in
    let reading = l.fn.unit.index.now.reading.now in
    (definition : Definition) → IsSubject definition reading l.fn.subject
    → list_all (is_kept definition reading) (filter (is_own run) (range_with_len l.at (run.span.after - l.at))) ≡ keeps_meanings definition reading run
