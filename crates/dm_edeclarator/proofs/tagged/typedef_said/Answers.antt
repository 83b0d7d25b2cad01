-- The type of the declaration that the name means, or the rule that there is one.
use Rattle.std.proofs.Common.{sym, ap, ◌∙◌}
use Rattle.dm_typing.specs.Known.{given, meaning_of}
use Rattle.dm_typing.specs.Views.{type_over, known_over, source_of, setting_of}
use Rattle.dm_enames.specs.Tags.{type_meant}
use Rattle.dm_edeclarator.specs.Steps.{said_over, SaidFits, typedef_said}
use Rattle.dm_edeclarator.proofs.ReachLemmas.{runs-out}
use Rattle.dm_edeclarator.proofs.TaggedLemmas.{typedef-found, typedef-none}
use Rattle.dm_typing.proofs.GivesLemmas.{refused}
use Rattle.dm_typing.proofs.LaterLemmas.{begins-itself}
use Rattle.dm_edeclarator.proofs.tagged.typedef_said.Goals as goal

pub returns-in_err-name : goal.returns-in_err-name
returns-in_err-name c =
    let known = c.args.known.now in
    runs-out SaidFits said_over (source_of c.args.typer.now) known known (λ later. typedef_said (setting_of c.args.typer.now) (known_over later known) (said_over later c.args.said) c.args.at) c.from_residual.result
    (begins-itself known.types.shapes) c.from_residual.ensures.1

pub returns-in_err-made-in-Some : goal.returns-in_err-made-in-Some
returns-in_err-made-in-Some c =
    let known = c.args.known.now in
    runs-out SaidFits said_over (source_of c.args.typer.now) known known (λ later. typedef_said (setting_of c.args.typer.now) (known_over later known) (said_over later c.args.said) c.args.at) c.from_residual-in_err-made-in-Some.result
    (begins-itself known.types.shapes) c.from_residual-in_err-made-in-Some.ensures.1

pub returns-in_ok-made-in-Some : goal.returns-in_ok-made-in-Some
returns-in_ok-made-in-Some c =
    let known = c.args.known.now in record {
      shapes = begins-itself known.types.shapes;
      numbered = c.in_ok-made-in-Some.ensures.numbered known.types c.in-Some.ensures.numbered c.requires;
      gives = λ later on.
          typedef-found (setting_of c.args.typer.now) (known_over later known) (said_over later c.args.said) c.args.at (type_over later c.in-Some.kind)
          (c.in-Some.ensures.kind later ∙ ap (λ name. type_meant (meaning_of (known_over later known) name)) c.in_ok-name.ensures)
          ∙ ap (given (known_over later known)) (sym (c.in_ok-made-in-Some.ensures.said later));
    }

pub returns-in-None : goal.returns-in-None
returns-in-None c =
    let known = c.args.known.now in record {
      shapes = begins-itself known.types.shapes;
      numbered = tt;
      gives = λ later on.
          refused (said_over later) (source_of c.args.typer.now) (known_over later known) (typedef_said (setting_of c.args.typer.now) (known_over later known) (said_over later c.args.said) c.args.at) 1 c.args.at c.broken.result
          (typedef-none (setting_of c.args.typer.now) (known_over later known) (said_over later c.args.said) c.args.at
          (c.in-None.ensures.kind later ∙ ap (λ name. type_meant (meaning_of (known_over later known) name)) c.in_ok-name.ensures))
          c.broken.ensures;
    }
