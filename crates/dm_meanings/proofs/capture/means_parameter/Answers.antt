-- The name of the token is looked up.
use Rattle.std.proofs.Common.{◌≡◌, Bool, false, ◌&&◌, not, List, Option, Some, None, slice_get, sym, ap, ◌∙◌}
use Rattle.std.specs.Option.{option_map_or}
use Rattle.dm_token.specs.declared.token.CToken.{CToken}
use Rattle.dm_meanings.specs.Captures.{is_parameter_name}
use Rattle.dm_meanings.proofs.capture.means_parameter.Goals as goal

pub returns-in-Some : goal.returns-in-Some
returns-in-Some c definition is =
    let tokens = c.args.unit.now.index.now.reading.now.tokens in
    let at = c.args.one.at in
    let test = λ (token : CToken). is_parameter_name definition token.spelling in
    let got : slice_get tokens at ≡ Some c.in-Some.token.now = ap (λ (them : List CToken). slice_get them at) (sym c.items.ensures) ∙ sym c.in-Some.ensures in
    c.has.ensures
    ∙ (is.names c.in-Some.token.now.spelling
    ∙ sym (ap (λ (b : Bool). not b && option_map_or test (slice_get tokens at) false) c.if-one.false ∙ ap (λ (found : Option CToken). option_map_or test found false) got))

pub returns-in-None : goal.returns-in-None
returns-in-None c definition is =
    let tokens = c.args.unit.now.index.now.reading.now.tokens in
    let at = c.args.one.at in
    let test = λ (token : CToken). is_parameter_name definition token.spelling in
    let got : slice_get tokens at ≡ None = ap (λ (them : List CToken). slice_get them at) (sym c.items.ensures) ∙ sym c.in-None.ensures in
    sym (ap (λ (b : Bool). not b && option_map_or test (slice_get tokens at) false) c.if-one.false ∙ ap (λ (found : Option CToken). option_map_or test found false) got)
