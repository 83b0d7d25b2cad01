-- The type of type words, or the one type among the specifiers.
use Rattle.std.specs.Prelude.{ℕ, ◌<◌, ◌≤◌, List, length}
use Rattle.std.proofs.Common.{sym, ap, ◌∙◌, subst}
use Rattle.dm_typing.specs.Specifiers.{sets, type_among}
use Rattle.dm_edeclarator.proofs.SpecifierLemmas.{said-none, said-many}
use Rattle.dm_edeclarator.proofs.specifiers.type_said.Goals as goal

pub returns-in_ok-found-in-empty-clause-named : goal.returns-in_ok-found-in-empty-clause-named
returns-in_ok-found-in-empty-clause-named c = λ later begins.
    let said = c.args.said.now in
    c.in_ok-found-in-empty.ensures.named later begins ∙ ap (λ words. type_among words sets) c.items-words.ensures
    ∙ sym (said-none later said.words said.types (subst (λ (ids : List ℕ). length ids < 1) c.items.ensures c.in-empty.len_below))

pub returns-in-len2-up-clause-named : goal.returns-in-len2-up-clause-named
returns-in-len2-up-clause-named c = λ later begins.
    let said = c.args.said.now in
    sym (said-many later said.words said.types (subst (λ (ids : List ℕ). 2 ≤ length ids) c.items.ensures c.in-len2-up.len_at_least))
