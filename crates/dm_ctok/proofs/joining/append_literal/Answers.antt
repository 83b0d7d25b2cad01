use Rattle.std.proofs.Common.{◌≡◌, false, None, ◌∙◌, sym, ap, subst}
use Rattle.dm_token.specs.declared.stop.Stop.{Stop}
use Rattle.dm_token.specs.Answer.{Stops}
use Rattle.dm_ctok.specs.Causes.{IsCause}
use Rattle.dm_ctok.specs.declared.escape.Unread.{Unread}
use Rattle.dm_ctok.specs.Escapes.{elements, between_quotes, put_behind}
use Rattle.dm_ctok.specs.Tokens.{token_of, is_prefixed}
use Rattle.dm_ctok.proofs.TokenLemmas.{literal-good, literal-bad}
use Rattle.dm_ctok.proofs.joining.append_literal.Goals as goal

pub returns-in-Ok-clause-ok : goal.returns-in-Ok-clause-ok
returns-in-Ok-clause-ok c =
    let token = c.args.token.now in
    let old = c.args.bytes.now.items in
    let plain : is_prefixed token.pp.spelling ≡ false = cc in
    let inner : c.between_quotes.result.now ≡ between_quotes token.pp.spelling = cc in
    literal-good token old c.append_elements.new.values.items c.requires plain
    (c.in-Ok.ensures.ok ∙ ap (λ bytes. put_behind old (elements bytes)) inner)

pub returns-in-Err-Escape-clause-err : goal.returns-in-Err-Escape-clause-err
returns-in-Err-Escape-clause-err c =
    let token = c.args.token.now in
    let plain : is_prefixed token.pp.spelling ≡ false = cc in
    let inner : c.between_quotes.result.now ≡ between_quotes token.pp.spelling = cc in
    let P : Unread → Type 0 = λ cause. IsCause cause (elements c.between_quotes.result.now) in
    let none : elements c.between_quotes.result.now ≡ None = subst P c.in-Err-Escape.field-0-is c.in-Err-Escape.ensures.err in
    let Q : Stop → Type 0 = λ stop. Stops stop (token_of token) in
    subst Q (sym c.refusal-in-Err-Escape.ensures) (literal-bad token c.requires plain (ap elements (sym inner) ∙ none))
