use Rattle.std.proofs.Common.{◌<◌, length, subst, sym, ap, ◌∙◌}
use Rattle.std.proofs.lemmas.Bool.{false≢true}
use Rattle.dm_macro.proofs.SameLemmas.{differ_at, same_more, spelled_apart, spelled_alike}
use Rattle.dm_macro.proofs.same.have_same_spellings.Goals as goal

pub returns-then-ne : goal.returns-then-ne
returns-then-ne c =
    let within : c.loop-index.index < length c.args.other.now = subst (λ n. c.loop-index.index < n) c.if-one-other.false c.loop-index-test.true in (
      λ never. absurd (false≢true never),
      λ alike. absurd (differ_at (λ token. token.spelling) c.args.one.now c.args.other.now c.loop-index.index c.index-one-index.result c.index-other-index.result
          c.index-one-index.is c.index-other-index.is c.loop-index-test.true within (λ same. spelled_apart _ _ (sym c.if-ne.true ∙ c.ne.ensures) (same ∙ ap (λ token. token.spelling) c.index-other-index.is)) alike),
    )

pub loop-index-preserved : goal.loop-index-preserved
loop-index-preserved c =
    let within : c.loop-index.index < length c.args.other.now = subst (λ n. c.loop-index.index < n) c.if-one-other.false c.loop-index-test.true in
    same_more (λ token. token.spelling) c.args.one.now c.args.other.now c.loop-index.index c.index-one-index.result c.index-other-index.result
    c.index-one-index.is c.index-other-index.is c.loop-index-test.true within (spelled_alike _ _ (sym c.if-ne.false ∙ c.ne.ensures) ∙ ap (λ token. token.spelling) (sym c.index-other-index.is)) c.loop-index.invariant
