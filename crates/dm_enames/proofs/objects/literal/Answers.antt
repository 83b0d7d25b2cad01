-- An array of characters, one more than the literal has bytes.
use Rattle.std.specs.Prelude.{length, ◌+◌, [], Some, true, refl}
use Rattle.std.proofs.Common.{ap, ◌∙◌}
use Rattle.dm_int.specs.declared.Kind.TheVariants as k
use Rattle.dm_type.specs.CTypes.{array, integer}
use Rattle.dm_tree.specs.Trees as label
use Rattle.dm_typing.specs.Conversions.{made}
use Rattle.dm_typing.specs.Typing.{literal_tree}
use Rattle.dm_typing.specs.Views.{source_of, setting_of}
use Rattle.dm_typing.proofs.LaterLemmas.{begins-on}
use Rattle.dm_typing.proofs.ValueLemmas.{node-known}
use Rattle.dm_enames.proofs.objects.literal.Goals as goal

pub returns-clause-value : goal.returns-clause-value
returns-clause-value c = λ later begins.
    let at = c.args.at in
    let bytes = c.in_ok-bytes.bytes in
    let before = begins-on c.intern.new.self.types.shapes c.intern-2.new.self.types.shapes later c.intern-2.ensures.grows.shapes begins in
    c.string.ensures.view (record { shapes = later; structs = [] })
    ∙ ap (λ type. made (source_of c.args.typer.now) at (label.literal bytes 0) type [])
    (c.in_ok-kind.ensures.number.1 later begins
    ∙ ap (λ type. array type (Some (length c.bytes-2.result.now + 1))) (c.in_ok-char.ensures.number.1 later before)
    ∙ ap (λ text. array (integer k.Char) (Some (length text + 1))) c.bytes-2.ensures)
    ∙ ap (literal_tree (setting_of c.args.typer.now) at) c.in_ok-bytes.ensures

pub returns-clause-numbered : goal.returns-clause-numbered
returns-clause-numbered c =
    let n = length c.intern-2.new.self.types.shapes in
    node-known n c.in_ok-kind.kind c.string.result true (c.string.ensures.known n) c.in_ok-kind.ensures.number.0 refl
