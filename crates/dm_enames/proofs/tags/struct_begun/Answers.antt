-- What the tag means in this scope decides.
use Rattle.std.specs.Prelude.{◌≡◌, option_map, reverse}
use Rattle.std.proofs.Common.{ap, sym, subst, ◌∙◌}
use Rattle.dm_type.specs.Tables.{Table, type_of}
use Rattle.dm_enames.specs.Tags.{struct_at}
use Rattle.dm_typing.specs.Typing.{beginning, with_new_struct, struct_begun}
use Rattle.dm_typing.specs.Views.{Begins, known_over, setting_of, type_over}
use Rattle.dm_typing.proofs.LaterLemmas.{begins-itself}
use Rattle.dm_enames.proofs.TagStepLemmas.{by-found, reverse-push}
use Rattle.dm_enames.proofs.tags.struct_begun.Goals as goal

pub returns-in_ok-begun-in-Some-clause-known : goal.returns-in_ok-begun-in-Some-clause-known
returns-in_ok-begun-in-Some-clause-known c = λ later begins.
    let setting = setting_of c.args.typer.now in
    let known = known_over later c.args.known.now in
    let tag = c.args.tag in
    let begins-before = subst (λ (table : Table). Begins table.shapes later) c.begin_again.ensures.types begins in
    by-found (λ it. known_over later c.begin_again.new.known ≡ beginning (with_new_struct setting known tag it) (struct_begun known it))
    _ (type_over later c.in-Some.kind) (ap (option_map (type_over later)) (sym c.in-Some.is) ∙ c.in_ok-kind.ensures.kind later)
    (λ entry same. c.in_ok-begun-in-Some.ensures.known later begins-before entry same)

pub returns-in_ok-begun-in-Some-clause-kind : goal.returns-in_ok-begun-in-Some-clause-kind
returns-in_ok-begun-in-Some-clause-kind c = λ later begins.
    let known = known_over later c.args.known.now in
    let begins-before = subst (λ (table : Table). Begins table.shapes later) c.begin_again.ensures.types begins in
    by-found (λ it. option_map (type_over later) c.in_ok-begun-in-Some.begun ≡ struct_at (struct_begun known it))
    _ (type_over later c.in-Some.kind) (ap (option_map (type_over later)) (sym c.in-Some.is) ∙ c.in_ok-kind.ensures.kind later)
    (λ entry same. c.in_ok-begun-in-Some.ensures.kind later begins-before entry same)

pub returns-in_ok-begin-in-None-clause-innermost : goal.returns-in_ok-begin-in-None-clause-innermost
returns-in_ok-begin-in-None-clause-innermost c =
    let before = c.new_struct.new.known in
    let made = c.in_ok-number-in-None in (
      made.number,
      reverse before.begun.items,
      ap (λ (table : Table). type_of table made.kind) c.begin.ensures.types ∙ made.ensures.kind before.types.shapes (begins-itself before.types.shapes),
      ap reverse c.in_ok-begin-in-None.ensures.begun ∙ reverse-push before.begun.items made.number,
    )
