-- The type's spelling is that of what the value has there.
use Rattle.std.proofs.Common.{[], ap, ◌∙◌}
use Rattle.std.specs.Prelude.{option_and_then}
use Rattle.dm_type.specs.Spelling.{spelling}
use Rattle.dm_type.specs.Tables.{type_of}
use Rattle.dm_meanings.specs.Types.{text_at, visible_at}
use Rattle.dm_meanings.proofs.meanings.Meanings.text_at.Goals as goal

pub returns-in-None : goal.returns-in-None
unfolding text_at
returns-in-None c =
    let reading = c.args.self.now.index.now.reading.now in
    ap (option_and_then (λ type. spelling reading.types (visible_at c.args.definition.now reading) type [])) c.in-None.ensures.kind

pub returns-in_ok-text-in-Some : goal.returns-in_ok-text-in-Some
unfolding text_at
returns-in_ok-text-in-Some c =
    let reading = c.args.self.now.index.now.reading.now in
    let type = type_of reading.types c.in-Some.kind in
    c.in_ok-text-in-Some.ensures
    ∙ ap (λ visible. spelling reading.types visible type c.in_ok-nothing-in-Some.nothing) c.visible-visible.ensures
    ∙ ap (spelling reading.types (visible_at c.args.definition.now reading) type) c.in_ok-nothing-in-Some.ensures
    ∙ ap (option_and_then (λ type. spelling reading.types (visible_at c.args.definition.now reading) type [])) c.in-Some.ensures.kind
