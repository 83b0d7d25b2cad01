use Rattle.std.proofs.Common.{◌≡◌, Bool, false, refl, List, sym, ap, ◌∙◌, arith, rules}
use Rattle.std.proofs.lemmas.Option.{slice_get_read}
use Rattle.dm_token.specs.declared.token.PpToken.{PpToken}
use Rattle.dm_edit.specs.Cuts.{last_token}
use Rattle.dm_edit.proofs.VisibleLemmas.{lies-in}
use Rattle.ground_tests.proofs.edit.expect_definition.Goals as goal

pub returns : goal.returns
returns g c =
    let bytes = c.args.bytes.now in
    let last = c.in-Some.last.now in
    let byte = c.in-Some-get.byte.now in
    let is_last = ap (λ (tokens : List PpToken). last_token tokens) (sym c.items.ensures) ∙ sym c.in-Some.ensures.value in
    let visible : c.is_blank.result ≡ false = search rules in
    lies-in bytes c.args.definition.now last byte is_last (omega arith) (omega arith) (omega arith) (omega arith)
    (slice_get_read bytes _ last.place.byte byte refl (omega arith) c.in-Some-get.ensures.lookup.1)
    (sym c.is_blank.ensures ∙ visible)
