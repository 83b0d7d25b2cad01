-- What was numbered before is numbered still, whether the table grew or not.
use Rattle.std.specs.Prelude.{reverse}
use Rattle.std.proofs.Common.{sym, ◌∙◌}
use Rattle.dm_typing.proofs.BoundLemmas.{open-same}
use Rattle.dm_typing.proofs.LaterLemmas.{extends-anyway, types-later, trees-later, type-later, begins-on}
use Rattle.dm_estanding.proofs.SummaryLemmas.{apart, compatible-later, composite-later}
use Rattle.dm_estanding.proofs.links.composite.Goals as goal

pub returns-then-not-compatible-clause-number : goal.returns-then-not-compatible-clause-number
returns-then-not-compatible-clause-number c =
    let old = c.args.known.now.types in (
      c.requires.left,
      λ later begins alike. absurd (apart _ alike (compatible-later old later c.args.a c.args.b begins c.requires.left c.requires.right ∙ (sym c.compatible.ensures ∙ c.if-not-compatible.true))),
    )

pub invariant_of-known : goal.invariant_of-known
invariant_of-known c =
    let kept = extends-anyway c.composite.result c.args.known.now.types c.composite.new.self c.composite.ensures.kept c.composite.ensures.err in record {
      entries = types-later c.args.known.now.types c.composite.new.self c.args.known.now.declared kept.0 c.args.known.now.entries;
      trees = trees-later c.args.known.now.types c.composite.new.self c.args.known.now.constants kept.0 c.args.known.now.trees;
      numbers = c.args.known.now.numbers;
      unfinished = open-same c.args.known.now.types c.composite.new.self (reverse c.args.known.now.begun.items) kept.1 c.args.known.now.unfinished;
    }

pub returns-clause-number : goal.returns-clause-number
returns-clause-number c =
    let old = c.args.known.now.types in
    let new = c.composite.new.self in
    let has = c.in_ok-id.ensures.typed in (
      has.0,
      λ later begins alike. type-later new.shapes later c.in_ok-id.id begins has.0
          ∙ (has.1 ∙ sym (composite-later old later c.args.a c.args.b (begins-on old.shapes new.shapes later c.in_ok-id.ensures.kept.0 begins) c.requires.left c.requires.right)),
    )
