use Rattle.std.proofs.Common.{◌<◌, length, subst, ap, ◌∙◌}
use Rattle.std.proofs.lemmas.Bool.{false≢true}
use Rattle.dm_macro.proofs.SameLemmas.{differ_at, apart}
use Rattle.dm_macro.proofs.same.have_same_blanks.Goals as goal

pub returns-then-token-other : goal.returns-then-token-other
returns-then-token-other c =
    let within : c.loop-index.index < length c.args.other.now = subst (λ n. c.loop-index.index < n) c.if-one-other.false c.loop-index-test.true in (
      λ never. absurd (false≢true never),
      λ alike. absurd (differ_at (λ token. token.blank_before) c.args.one.now c.args.other.now c.loop-index.index c.index-one-index.result c.index-other-index.result
          c.index-one-index.is c.index-other-index.is c.loop-index-test.true within (λ same. apart _ _ c.if-token-other.true (same ∙ ap (λ token. token.blank_before) c.index-other-index.is)) alike),
    )
