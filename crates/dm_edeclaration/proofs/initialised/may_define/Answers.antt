-- The type is compared with that of all declarations.
use Rattle.std.specs.Prelude.{◌&&◌, not}
use Rattle.std.proofs.Common.{sym, ap, ap₂, ◌∙◌}
use Rattle.dm_type.specs.Alike.{are_compatible}
use Rattle.dm_typing.proofs.LaterLemmas.{type-later}
use Rattle.dm_edecl.specs.Linkages.{is_defined}
use Rattle.dm_edeclaration.proofs.initialised.may_define.Goals as goal

pub returns-then-not-compatible : goal.returns-then-not-compatible
returns-then-not-compatible c = λ later on before stands.
    let shapes = c.args.standing.now.known.types.shapes in
    let kind = type-later shapes later c.args.kind on c.requires in
    let whole = type-later shapes later c.kind_declared-whole.result on c.kind_declared-whole.ensures.numbered in
    let is = ap₂ are_compatible (sym (c.kind_declared-whole.ensures.kind later before stands) ∙ whole) kind ∙ sym c.compatible.ensures ∙ c.if-not-compatible.true in
    sym (ap (λ test. test && not (is_defined c.args.number before.linked)) is)

pub returns : goal.returns
returns c = λ later on before stands.
    let shapes = c.args.standing.now.known.types.shapes in
    let kind = type-later shapes later c.args.kind on c.requires in
    let whole = type-later shapes later c.kind_declared-whole.result on c.kind_declared-whole.ensures.numbered in
    let is = ap₂ are_compatible (sym (c.kind_declared-whole.ensures.kind later before stands) ∙ whole) kind ∙ sym c.compatible.ensures ∙ c.if-not-compatible.false in
    ap not (c.is_defined.ensures later before.known.declared before.linked stands.links) ∙ sym (ap (λ test. test && not (is_defined c.args.number before.linked)) is)
