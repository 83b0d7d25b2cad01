use Rattle.std.proofs.Common.{◌≡◌, ℕ, ◌+◌, ◌<◌, List, ◌∷◌, length, get_or, drop, Ok, sym, ◌∙◌, ap}
use Rattle.std.proofs.lemmas.List.{drop_more, drop_all}
use Rattle.std.proofs.lemmas.Result.{err_from_is_err_and}
use Rattle.dm_token.specs.declared.token.Token.{Token}
use Rattle.dm_ctok.specs.Tokens.{ctokens_of, each}
use Rattle.dm_ctok.specs.Pending.{as_list, resumed_unless_refused}
use Rattle.dm_ctok.proofs.TokenLemmas.{resumed-all, resumed-more, resumed-refused, resumed-last}
use Rattle.dm_ctok.proofs.ctokens.Goals as goal

-- the tokens from a place on are the one there and the others
tokens-more : (tokens : List Token) (at : ℕ) (token : Token) → at < length tokens → token ≡ get_or tokens at token → drop at tokens ≡ token ∷ drop (at + 1) tokens
tokens-more tokens at token inside is = drop_more tokens at token inside ∙ ap (λ (t : Token). t ∷ drop (at + 1) tokens) (sym is)

pub loop-token-init : goal.loop-token-init
unfolding ctokens_of
loop-token-init c =
    let nothing = c.in_ok-joiner.ensures in
    rw (nothing.done, nothing.pending) (resumed-all (each c.args.tokens.now))

pub returns-in_err-take : goal.returns-in_err-take
returns-in_err-take c =
    let tokens = c.args.tokens.now in
    let at = c.loop-token.token-index in
    let joiner = c.loop-token.joiner in
    let rest = tokens-more tokens at c.token-item.result c.loop-token-test.true c.token-item.is in
    let p = err_from_is_err_and c.from_residual-in_err-take.result c.from_residual-in_err-take.ensures.1 in
    rw (p.1, p.2) (resumed-refused joiner.done (as_list joiner.pending) c.token-item.result (drop (at + 1) tokens) (ctokens_of tokens) _ c.in_err-take.ensures.err
    (c.loop-token.invariant ∙ ap (λ rest. resumed_unless_refused joiner.done (as_list joiner.pending) (each rest)) rest))

pub loop-token-preserved : goal.loop-token-preserved
loop-token-preserved c =
    let tokens = c.args.tokens.now in
    let at = c.loop-token.token-index in
    let joiner = c.loop-token.joiner in
    let rest = tokens-more tokens at c.token-item.result c.loop-token-test.true c.token-item.is in
    let taken = c.in_ok-take.ensures.ok in
    c.loop-token.invariant
    ∙ (ap (λ rest. resumed_unless_refused joiner.done (as_list joiner.pending) (each rest)) rest
    ∙ resumed-more joiner.done c.take.new.self.done (as_list joiner.pending) (as_list c.take.new.self.pending) c.token-item.result (drop (at + 1) tokens) taken.0 taken.1 taken.2)

pub returns : goal.returns
returns c =
    let joiner = c.loop-token.joiner in
    let rest = drop_all c.loop-token.token-index c.args.tokens.now c.loop-token-test.false in
    c.loop-token.invariant
    ∙ (ap (λ rest. resumed_unless_refused joiner.done (as_list joiner.pending) (each rest)) rest
    ∙ (resumed-last joiner.done joiner.pending ∙ ap Ok (sym c.in_ok-finish.ensures)))
