-- What the name means decides.
use Rattle.std.proofs.Common.{sym, subst}
use Rattle.dm_tree.specs.Trees.{Tree}
use Rattle.dm_tree.specs.declared.tree.Core.{Core}
use Rattle.dm_typing.specs.Known.{Outcome}
use Rattle.dm_typing.specs.Views.{view_over, known_over, source_of, setting_of, Gives}
use Rattle.dm_typing.proofs.GivesLemmas.{refused}
use Rattle.dm_enames.proofs.ObjectLemmas.{referred-as}
use Rattle.dm_enames.proofs.objects.named.Goals as goal
use Rattle.std.specs.Prelude.{Some, None}

pub returns-clause-gives : goal.returns-clause-gives
returns-clause-gives c = λ later begins.
    refused {A = Core} (view_over later) (source_of c.args.typer.now) (known_over later c.args.known.now) _ 1 c.args.at.inner.first c.broken.result
    (referred-as (setting_of c.args.typer.now) c.args.used (known_over later c.args.known.now) c.args.at c.in_ok-name.name None c.in_ok-name.ensures (c.in-None.ensures.none later))
    c.broken.ensures

pub returns-in-Some-clause-gives : goal.returns-in-Some-clause-gives
returns-in-Some-clause-gives c = λ later begins.
    let means = c.in-Some.ensures.meaning later in
    let P : Outcome Tree → Type 0 = λ outcome. Gives (view_over later) (source_of c.args.typer.now) (known_over later c.named_as.new.known) c.named_as.result outcome in
    subst P (sym (referred-as (setting_of c.args.typer.now) c.args.used (known_over later c.args.known.now) c.args.at c.in_ok-name.name (Some means.0) c.in_ok-name.ensures means.1))
    (c.named_as.ensures.gives later begins means.0 means.2)
