-- What was numbered before is numbered still, whether the table grew or not.
use Rattle.std.specs.Prelude.{reverse}
use Rattle.std.proofs.Common.{sym, ◌∙◌}
use Rattle.dm_type.specs.Alike.{composite}
use Rattle.dm_typing.proofs.BoundLemmas.{open-same}
use Rattle.dm_typing.proofs.LaterLemmas.{extends-anyway, types-later, trees-later, type-later, begins-on}
use Rattle.dm_ebinary.proofs.ChoiceStepLemmas.{numbers-later}
use Rattle.dm_ebinary.proofs.choices.composite.Goals as goal

pub invariant_of-known : goal.invariant_of-known
invariant_of-known c =
    let kept = extends-anyway c.composite.result c.args.known.now.types c.composite.new.self c.composite.ensures.kept c.composite.ensures.err in record {
      entries = types-later c.args.known.now.types c.composite.new.self c.args.known.now.declared kept.0 c.args.known.now.entries;
      trees = trees-later c.args.known.now.types c.composite.new.self c.args.known.now.constants kept.0 c.args.known.now.trees;
      numbers = c.args.known.now.numbers;
      unfinished = open-same c.args.known.now.types c.composite.new.self (reverse c.args.known.now.begun.items) kept.1 c.args.known.now.unfinished;
    }

pub returns-clause-number : goal.returns-clause-number
returns-clause-number c =
    let old = c.args.known.now.types in
    let new = c.composite.new.self in
    let has = c.in_ok-id.ensures.typed in (
      has.0,
      λ later begins. type-later new.shapes later c.in_ok-id.id begins has.0
          ∙ (has.1 ∙ sym (numbers-later composite old later c.args.a c.args.b (begins-on old.shapes new.shapes later c.in_ok-id.ensures.kept.0 begins) c.requires.left c.requires.right)),
    )
