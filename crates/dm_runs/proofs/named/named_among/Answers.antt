use Rattle.std.proofs.Common.{◌≡◌, ℕ, ◌+◌, ◌<◌, List, [], ◌∷◌, ◌++◌, length, take, get_or, sym, ap, ◌∙◌, arith}
use Rattle.std.proofs.lemmas.List.{take_all, take_more, length-take-le}
use Rattle.dm_token.specs.declared.token.PpToken.{PpToken}
use Rattle.dm_macro.specs.Bodies.{places_of}
use Rattle.dm_runs.specs.Names.{named_behind}
use Rattle.dm_runs.proofs.NamedLemmas.{named-next, named-skip, counted-next, counted-skip, places-nothing}
use Rattle.dm_runs.proofs.named.named_among.Goals as goal
use Rattle.dm_runs.proofs.named.named_among.Goals.{in-Some+in_ok-before+in_ok-parameter+in_ok-occurrence+in_ok-push, in_default}

pub loop-at-init : goal.loop-at-init
loop-at-init c = (
  c.new-named.ensures.items,
  λ parameter. ap (λ (counts : List ℕ). get_or counts parameter 0) c.new-counts.ensures.items ∙ sym (places-nothing c.args.parameters.now parameter),
)

pub loop-at-preserved : goal.loop-at-preserved
loop-at-preserved c =
    let names : List (List ℕ) = c.args.parameters.now in
    let body : List PpToken = c.args.body.now in
    let i = c.loop-at.at in
    let tokens : List PpToken = take i body in
    let token : PpToken = c.index-body-at.result in
    let here : i < length body = c.loop-at-test.true in
    let more : tokens ++ token ∷ [] ≡ take (i + 1) body = ap (λ (t : PpToken). tokens ++ t ∷ []) c.index-body-at.is ∙ sym (take_more body i token here) in
    let place : i ≡ length tokens = sym (length-take-le i body (omega (arith, here))) in
    let before = c.loop-at.invariant in
    elim c.match-parameter_of.branch [
      | in-Some+in_ok-before+in_ok-parameter+in_ok-occurrence+in_ok-push w ↦ (
        ap (λ v. v.items) w.named-is ∙ w.in_ok-push.ensures.items
            ∙ named-next names tokens token c.loop-at.named.items i w.in_ok-parameter.parameter w.in_ok-occurrence.occurrence w.in-Some.parameter
            place w.in_ok-parameter.ensures (w.in_ok-occurrence.ensures ∙ (w.in_ok-before.ensures.before ∙ before.1 w.in-Some.parameter)) w.in-Some.ensures before.0
            ∙ ap (named_behind names []) more,
        λ parameter.
            ap (λ v. get_or v.items parameter 0) w.counts-is
            ∙ counted-next names tokens token parameter w.in-Some.parameter (get_or c.loop-at.counts.items parameter 0) (get_or w.count.new.counts.items parameter 0) w.in-Some.ensures (before.1 parameter) (w.in_ok-before.ensures.counts parameter)
            ∙ ap (places_of names parameter) more,
      )
      | in_default w ↦ (
        ap (λ v. v.items) w.named-is ∙ named-skip names tokens token c.loop-at.named.items w.in_default.ensures before.0 ∙ ap (named_behind names []) more,
        λ parameter.
            ap (λ v. get_or v.items parameter 0) w.counts-is ∙ before.1 parameter ∙ counted-skip names tokens token parameter w.in_default.ensures ∙ ap (places_of names parameter) more,
      )
    ]

pub returns : goal.returns
returns c = c.loop-at.invariant.0 ∙ ap (named_behind c.args.parameters.now []) (take_all c.loop-at.at c.args.body.now c.loop-at-test.false)
