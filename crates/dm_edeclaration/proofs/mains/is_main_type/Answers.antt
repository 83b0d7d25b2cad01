-- The type is compared with both.
use Rattle.std.specs.Prelude.{◌||◌, ◌<◌, length}
use Rattle.std.proofs.Common.{sym, ap, ap₂, ◌∙◌, arith}
use Rattle.dm_int.specs.declared.Kind.TheVariants as k
use Rattle.dm_type.specs.Alike.{are_compatible}
use Rattle.dm_type.specs.CTypes.{integer, pointer, function, no_types, more_types}
use Rattle.dm_typing.specs.Views.{type_over}
use Rattle.dm_typing.proofs.LaterLemmas.{begins-itself, begins-on, begins-length, type-later}
use Rattle.dm_edeclaration.proofs.mains.is_main_type.Goals as goal

pub returns-then-compatible-clause-main : goal.returns-then-compatible-clause-main
returns-then-compatible-clause-main c = λ later on.
    let old = c.args.known.now.types.shapes in
    let mid = c.without_parameters.new.known.types.shapes in
    let new = c.with_arguments.new.known.types.shapes in
    let more = c.with_arguments.ensures.grows.shapes in
    let longer = begins-length old new (begins-on old mid new c.without_parameters.ensures.grows.shapes more) in
    let inside = c.requires in
    let inside-new : c.args.kind < length new = omega (arith, longer, inside) in
    let kind = type-later new later c.args.kind on inside-new in
    let is = c.compatible.ensures ∙ ap₂ are_compatible (sym kind) (c.in_ok-without.ensures.kind.1 new more) in
    sym (ap (λ test. test || are_compatible (type_over later c.args.kind)
    (function (integer k.Int) (more_types (integer k.Int) (more_types (pointer (pointer (integer k.Char))) no_types)))) (sym is ∙ c.if-compatible.true))

pub returns-clause-main : goal.returns-clause-main
returns-clause-main c = λ later on.
    let old = c.args.known.now.types.shapes in
    let mid = c.without_parameters.new.known.types.shapes in
    let new = c.with_arguments.new.known.types.shapes in
    let more = c.with_arguments.ensures.grows.shapes in
    let longer = begins-length old new (begins-on old mid new c.without_parameters.ensures.grows.shapes more) in
    let inside = c.requires in
    let inside-new : c.args.kind < length new = omega (arith, longer, inside) in
    let kind = type-later new later c.args.kind on inside-new in
    let is = c.compatible.ensures ∙ ap₂ are_compatible (sym kind) (c.in_ok-without.ensures.kind.1 new more) in
    let other = c.compatible-is_with.ensures ∙ ap₂ are_compatible (sym kind) (c.in_ok-with.ensures.kind.1 new (begins-itself new)) in
    other
    ∙ sym (ap (λ test. test || are_compatible (type_over later c.args.kind)
    (function (integer k.Int) (more_types (integer k.Int) (more_types (pointer (pointer (integer k.Char))) no_types)))) (sym is ∙ c.if-compatible.false))
