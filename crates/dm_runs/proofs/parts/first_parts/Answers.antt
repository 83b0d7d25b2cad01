use Rattle.std.proofs.Common.{◌≡◌, ℕ, ◌+◌, ◌-◌, false, cond, ◌&&◌, List, [], ◌∷◌, ◌++◌, length, map, take, fold, replicate, sym, ap, ◌∙◌, subst, arith, vec_len, length-append}
use Rattle.std.specs.List.{flat_map}
use Rattle.std.proofs.lemmas.List.{take_more, length-take-le, take_all}
use Rattle.std.proofs.lemmas.List.Folds.{flat_map-map}
use Rattle.dm_token.specs.declared.expansion.Mark.{Mark}
use Rattle.dm_token.specs.declared.token.Token.{Token}
use Rattle.dm_runs.specs.Beginnings.{beginnings_of, once_more}
use Rattle.dm_runs.specs.Runs.{first_part}
use Rattle.dm_runs.specs.Spans.{begun_among}
use Rattle.dm_runs.proofs.GrowthLemmas.{Covers}
use Rattle.dm_runs.proofs.ExtentLemmas.{flat-fold}
use Rattle.dm_runs.proofs.PartLemmas.{trails_in, behind, Stand, behind-push, begun-push, begun-few, begun-some, parts-step, stand-step, covers-more}
use Rattle.dm_runs.proofs.parts.first_parts.Goals as goal

pub with_one_more-begun-requires : goal.with_one_more-begun-requires
with_one_more-begun-requires c =
    let all = c.args.tokens.now in
    let i = c.loop-token.token-index in
    omega (arith, c.requires.counted, c.loop-token-test.true, c.loop-token.invariant.begun, begun-few false (take i all), length-take-le i all (omega (arith, c.loop-token-test.true)))

pub overflow_sub-begun : goal.overflow_sub-begun
overflow_sub-begun c =
    let all : List Token = c.args.tokens.now in
    let i = c.loop-token.token-index in
    let tokens : List Token = take i all in
    let token : Token = c.token-item.result in
    let inv = c.loop-token.invariant in
    let one : c.with_one_more-begun.result ≡ begun_among false (tokens ++ token ∷ []) =
    c.with_one_more-begun.ensures ∙ ap (λ n. n + cond (c.loop-token.is_behind_literal && c.is_literal-is_literal.result) 0 1) inv.begun
    ∙ ap (λ b. begun_among false tokens + cond (b && c.is_literal-is_literal.result) 0 1) inv.behind
    ∙ ap (λ b. begun_among false tokens + cond (behind false tokens && b) 0 1) c.is_literal-is_literal.ensures
    ∙ sym (begun-push false tokens token) in
    omega (arith, one, begun-some (tokens ++ token ∷ []) (omega (arith, length-append tokens (token ∷ []))))

pub loop-token-preserved : goal.loop-token-preserved
loop-token-preserved c =
    let inv = c.loop-token.invariant in
    let i = c.loop-token.token-index in
    let all : List Token = c.args.tokens.now in
    let tokens : List Token = take i all in
    let token : Token = c.token-item.result in
    let found = c.loop-token.beginnings.trails.items in
    let whole = c.walk.new.self.trails.items in
    let walked = c.in_ok-path.ensures in
    let more : tokens ++ token ∷ [] ≡ take (i + 1) all = ap (λ (t : Token). tokens ++ t ∷ []) c.token-item.is ∙ sym (take_more all i token c.loop-token-test.true) in
    let one : c.with_one_more-begun.result ≡ begun_among false (tokens ++ token ∷ []) =
    c.with_one_more-begun.ensures ∙ ap (λ n. n + cond (c.loop-token.is_behind_literal && c.is_literal-is_literal.result) 0 1) inv.begun
    ∙ ap (λ b. begun_among false tokens + cond (b && c.is_literal-is_literal.result) 0 1) inv.behind
    ∙ ap (λ b. begun_among false tokens + cond (behind false tokens && b) 0 1) c.is_literal-is_literal.ensures
    ∙ sym (begun-push false tokens token) in
    let n = c.len.result in
    let old = c.loop-token.parts in
    let parts : List Mark → ℕ = first_part tokens in
    let size : n ≡ length whole = omega (arith, c.len.ensures, c.walk.new.self.trails.ok.0) in
    let before : vec_len old ≡ length (map parts found) = omega (arith, old.ok.0, ap length inv.parts) in
    let v = begun_among false (tokens ++ token ∷ []) - 1 in
    record {
      linked = walked.linked;
      trails = walked.trails ∙ ap (λ ts. fold once_more ts (beginnings_of token.trail)) inv.trails
          ∙ flat-fold (λ (other : Token). beginnings_of other.trail) ([] ∷ []) tokens token
          ∙ ap (λ (ts : List Token). fold once_more ([] ∷ []) (flat_map (λ (other : Token). beginnings_of other.trail) ts)) more;
      covers = subst (λ (ts : List Token). Covers whole (trails_in ts)) more (covers-more found whole tokens token inv.linked.root walked.trails inv.covers);
      stand = subst (λ (ts : List Token). Stand whole ts) more (stand-step found whole tokens token walked.trails inv.covers inv.stand);
      begun = one ∙ ap (begun_among false) more;
      behind = c.is_literal-is_literal.ensures ∙ sym (behind-push false tokens token) ∙ ap (behind false) more;
      path = walked.path;
      parts = c.in_ok-resize.ensures.items
          ∙ ap (λ m. take m old.items ++ replicate (m - vec_len old) (c.with_one_more-begun.result - 1)) size
          ∙ ap (λ (es : List ℕ). take (length whole) es ++ replicate (length whole - vec_len old) (c.with_one_more-begun.result - 1)) inv.parts
          ∙ ap (λ m. take (length whole) (map parts found) ++ replicate (length whole - m) (c.with_one_more-begun.result - 1)) before
          ∙ ap (λ m. take (length whole) (map parts found) ++ replicate (length whole - length (map parts found)) (m - 1)) one
          ∙ parts-step found whole tokens token walked.trails inv.covers inv.stand
          ∙ ap (λ (ts : List Token). map (first_part ts) whole) more;
    }

pub returns-clause-trails : goal.returns-clause-trails
returns-clause-trails c =
    let all : List Token = c.args.tokens.now in
    c.loop-token.invariant.trails
    ∙ ap (λ (ts : List Token). fold once_more ([] ∷ []) (flat_map (λ (other : Token). beginnings_of other.trail) ts)) (take_all c.loop-token.token-index all c.loop-token-test.false)
    ∙ ap (fold once_more ([] ∷ [])) (sym (flat_map-map beginnings_of (λ (other : Token). other.trail) all))
