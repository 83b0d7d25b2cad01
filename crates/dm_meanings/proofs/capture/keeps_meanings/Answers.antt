-- A token is the first of those that are left.
use Rattle.std.proofs.Common.{sym, ◌∙◌}
use Rattle.dm_meanings.specs.Captures.{is_kept, is_own, keeps_meanings}
use Rattle.dm_meanings.proofs.TokenLemmas.{token-passes, token-fails, no-token}
use Rattle.dm_meanings.proofs.capture.keeps_meanings.Goals as goal

pub loop-at-preserved : goal.loop-at-preserved
loop-at-preserved c definition is =
    let reading = c.args.unit.now.index.now.reading.now in
    let run = c.args.run.now in
    token-passes (is_kept definition reading) (is_own run) c.loop-at.at run.span.after (keeps_meanings definition reading run) (c.loop-at.invariant definition is) c.loop-at-test.true
    (sym c.if-is_captured.false ∙ c.is_captured.ensures definition is)

pub returns-then-is_captured : goal.returns-then-is_captured
returns-then-is_captured c definition is =
    let reading = c.args.unit.now.index.now.reading.now in
    let run = c.args.run.now in
    sym (token-fails (is_kept definition reading) (is_own run) c.loop-at.at run.span.after (keeps_meanings definition reading run) (c.loop-at.invariant definition is) c.loop-at-test.true
    (sym c.if-is_captured.true ∙ c.is_captured.ensures definition is))

pub returns : goal.returns
returns c definition is =
    let reading = c.args.unit.now.index.now.reading.now in
    let run = c.args.run.now in
    sym (no-token (is_kept definition reading) (is_own run) c.loop-at.at run.span.after (keeps_meanings definition reading run) (c.loop-at.invariant definition is) c.loop-at-test.false)
