use Rattle.std.proofs.Common.{◌≡◌, ℕ, ◌+◌, List, get_or, take, sym, ap, ◌∙◌}
use Rattle.dm_token.specs.declared.token.PpToken.{PpToken}
use Rattle.dm_macro.specs.Bodies.{places_of}
use Rattle.dm_macro.proofs.RoleLemmas.{counted, places-nothing, places-more}
use Rattle.dm_macro.proofs.role.counts_of.Goals as goal

pub loop-token-init : goal.loop-token-init
loop-token-init c = λ parameter.
    ap (λ (xs : List ℕ). get_or xs parameter 0) c.new-counts.ensures.items ∙ sym (places-nothing c.args.parameters.now parameter)

pub loop-token-preserved : goal.loop-token-preserved
loop-token-preserved c = λ parameter.
    let names : List (List ℕ) = c.args.parameters.now in
    let tokens : List PpToken = c.args.body.now in
    let i : ℕ = c.loop-token.token-index in
    c.in_ok-count.ensures parameter
    ∙ ap (λ n. n + counted names parameter c.token-item.result) (c.loop-token.invariant parameter)
    ∙ sym (places-more names parameter tokens i c.token-item.result c.loop-token-test.true c.token-item.is)
