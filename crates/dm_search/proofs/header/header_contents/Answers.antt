-- One more header.
use Rattle.std.proofs.Common.{◌≡◌, ◌≤◌, ap, sym, ◌∙◌, subst, length, arith}
use Rattle.dm_search.specs.Sound.{bytes_of, AreContents}
use Rattle.dm_search.proofs.SoundLemmas.{texts-push, texts-length, contents-push}
use Rattle.dm_search.proofs.header.header_contents.Goals as goal

pub loop-number-preserved : goal.loop-number-preserved
loop-number-preserved c =
    let contents = c.loop-number.contents.items in
    let content = c.in_ok-header_content.field-0 in
    let n = c.loop-number.number in
    let le : n ≤ 6 = omega arith in
    record {
      held = ap bytes_of c.in_ok-push.ensures.items ∙ texts-push contents content n c.loop-number-test.true c.loop-number.invariant.held c.in_ok-header_content.ensures.bytes;
      read = subst AreContents (sym c.in_ok-push.ensures.items) (contents-push contents n content (texts-length contents n le c.loop-number.invariant.held) c.in_ok-header_content.ensures.content c.loop-number.invariant.read);
    }
