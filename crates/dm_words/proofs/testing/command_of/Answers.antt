-- The first word names a command, and the others are what it takes.
use Rattle.std.proofs.Common.{◌∙◌, ◌∷◌, ap, sym, subst, map, string_bytes}
use Rattle.dm_words.specs.Readings.{Tests}
use Rattle.dm_words.proofs.RequestLemmas.{selects_bad, nothing_found}
use Rattle.dm_words.proofs.testing.command_of.Goals as goal

pub returns-else-are_good : goal.returns-else-are_good
returns-else-are_good c =
    let others = map string_bytes c.in_ok-name.others.now in
    selects_bad (map string_bytes c.args.words.now) others c.as_str.result.now
    (ap (map string_bytes) c.in_ok-name.ensures.cases.0 ∙ ap (λ word. word ∷ others) (sym c.as_str.ensures.value)) c.in_ok-command.command
    (sym c.in_ok-command.ensures) (subst (Tests c.in_ok-command.command nothing_found others) c.if-are_good.false c.are_good.ensures)
