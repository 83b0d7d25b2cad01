use Rattle.std.proofs.Common.{◌&&◌, sym, ◌∙◌, ap}
use Rattle.std.specs.List.{list_all}
use Rattle.dm_lex.specs.Classes.{is_word}
use Rattle.dm_manifest.proofs.Bytes.{is_identifier-cons, is_identifier-empty}
use Rattle.dm_manifest.proofs.define.is_identifier.Goals as goal

pub returns-in-None : goal.returns-in-None
returns-in-None c = sym (is_identifier-empty c.args.name.now c.in-None.ensures.cases)

pub returns-then-is_nondigit : goal.returns-then-is_nondigit
returns-then-is_nondigit c =
    c.has_words.ensures ∙ ap (λ b. b && list_all is_word c.in-Some.others.now) (sym (sym c.is_nondigit.ensures ∙ c.if-is_nondigit.true))
    ∙ sym (is_identifier-cons c.args.name.now c.in-Some.first.now c.in-Some.others.now c.in-Some.ensures.cases.0)

pub returns-else-is_nondigit : goal.returns-else-is_nondigit
returns-else-is_nondigit c =
    c.if-is_nondigit.false ∙ ap (λ b. b && list_all is_word c.in-Some.others.now) (sym (sym c.is_nondigit.ensures ∙ c.if-is_nondigit.false))
    ∙ sym (is_identifier-cons c.args.name.now c.in-Some.first.now c.in-Some.others.now c.in-Some.ensures.cases.0)
