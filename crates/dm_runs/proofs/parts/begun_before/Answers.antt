-- One more token begins another token of phase 7, unless both are literals.
use Rattle.std.proofs.Common.{◌≡◌, ◌+◌, ◌<◌, false, cond, ◌&&◌, List, [], ◌∷◌, ◌++◌, length, map, take, sym, ap, ◌∙◌, arith}
use Rattle.std.specs.List.{range_with_len}
use Rattle.std.proofs.lemmas.List.{take_more, length-take-le}
use Rattle.std.proofs.lemmas.List.FromFn.{map-range_with_len_more}
use Rattle.dm_token.specs.declared.token.Token.{Token}
use Rattle.dm_runs.specs.Spans.{is_literal, begun_among, begun_before}
use Rattle.dm_runs.proofs.PartLemmas.{behind, behind-push, begun-push, begun-few}
use Rattle.dm_runs.proofs.parts.begun_before.Goals as goal

pub with_one_more-begun-requires : goal.with_one_more-begun-requires
with_one_more-begun-requires c =
    let all = c.args.tokens.now in
    let i = c.loop-token.token-index in
    omega (arith, c.loop-token-test.true, c.loop-token.invariant.begun, begun-few false (take i all), length-take-le i all (omega (arith, c.loop-token-test.true)))

pub loop-token-preserved : goal.loop-token-preserved
loop-token-preserved c =
    let inv = c.loop-token.invariant in
    let i = c.loop-token.token-index in
    let all : List Token = c.args.tokens.now in
    let tokens : List Token = take i all in
    let token : Token = c.token-item.result in
    let more : tokens ++ token ∷ [] ≡ take (i + 1) all = ap (λ (t : Token). tokens ++ t ∷ []) c.token-item.is ∙ sym (take_more all i token c.loop-token-test.true) in
    let one : c.with_one_more-begun.result ≡ begun_among false (take (i + 1) all) =
    c.with_one_more-begun.ensures ∙ ap (λ n. n + cond (c.loop-token.is_behind_literal && c.is_literal-is_literal.result) 0 1) inv.begun
    ∙ ap (λ b. begun_among false tokens + cond (b && c.is_literal-is_literal.result) 0 1) inv.behind
    ∙ ap (λ b. begun_among false tokens + cond (behind false tokens && b) 0 1) c.is_literal-is_literal.ensures
    ∙ sym (begun-push false tokens token) ∙ ap (begun_among false) more in
    record {
      begun = one;
      behind = c.is_literal-is_literal.ensures ∙ sym (behind-push false tokens token) ∙ ap (behind false) more;
      counts = c.in_ok-push-2.ensures.items
          ∙ ap (λ counts. counts ++ c.with_one_more-begun.result ∷ []) inv.counts
          ∙ ap (λ n. map (begun_before all) (range_with_len 0 (i + 1)) ++ n ∷ []) one
          ∙ sym (map-range_with_len_more (begun_before all) 0 (i + 1) (i + 1) (omega arith));
    }
