use Rattle.std.proofs.Common.{◌∙◌, ap, sym, arith}
use Rattle.dm_lex.specs.Cuts.{is_within_line}
use Rattle.dm_lex.specs.Reach.{beyond}
use Rattle.dm_lex.proofs.RunLemmas.{run-more, run-stop, run-end, closing-stop, closing-done, closing-more, closing-end, beyond-none, beyond-one, beyond-zero, beyond-reached, is_within_line-not, is_within_line-so}
use Rattle.dm_lex.proofs.scan.closing.Goals as goal

pub loop-at-init : goal.loop-at-init
loop-at-init c = record { far = sym (beyond-zero _); line = omega arith }

pub returns-then-byte-eq10 : goal.returns-then-byte-eq10
returns-then-byte-eq10 c =
    let text = c.args.text.now in
    let stops = is_within_line-not _ c.if-byte-eq10.true in (
      omega arith,
      c.loop-at.invariant.far ∙ (ap (beyond c.loop-at.at) (closing-stop c.args.quote c.loop-at.behind_backslash text c.loop-at.at c.loop-at-test.true c.if-byte-eq10.true) ∙ beyond-none _),
      omega (arith, c.loop-at.invariant.line, run-stop is_within_line text c.loop-at.at c.loop-at-test.true stops),
    )

pub returns-then-is_unescaped : goal.returns-then-is_unescaped
returns-then-is_unescaped c =
    let text = c.args.text.now in (
      omega arith,
      omega arith,
      c.loop-at.invariant.far ∙ (ap (beyond c.loop-at.at) (closing-done c.args.quote c.loop-at.behind_backslash text c.loop-at.at c.loop-at-test.true c.if-byte-eq10.false
          (sym c.is_unescaped.ensures ∙ c.if-is_unescaped.true)) ∙ beyond-one _),
    )

pub loop-at-preserved : goal.loop-at-preserved
loop-at-preserved c =
    let text = c.args.text.now in
    record {
      far =
          c.loop-at.invariant.far ∙ (ap (beyond c.loop-at.at) (closing-more c.args.quote c.loop-at.behind_backslash c.is_unescaped-behind_backslash.result text c.loop-at.at
          c.loop-at-test.true c.if-byte-eq10.false (sym c.is_unescaped.ensures ∙ c.if-is_unescaped.false) c.is_unescaped-behind_backslash.ensures) ∙ beyond-reached _ _);
      line = omega (arith, c.loop-at.invariant.line, run-more is_within_line text c.loop-at.at c.loop-at-test.true (is_within_line-so _ c.if-byte-eq10.false));
    }

pub returns : goal.returns
returns c =
    let text = c.args.text.now in (
      omega arith,
      c.loop-at.invariant.far ∙ (ap (beyond c.loop-at.at) (closing-end c.args.quote c.loop-at.behind_backslash text c.loop-at.at c.loop-at-test.false) ∙ beyond-none _),
      omega (arith, c.loop-at.invariant.line, run-end is_within_line text c.loop-at.at c.loop-at-test.false),
    )
