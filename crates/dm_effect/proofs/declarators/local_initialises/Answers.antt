-- By its initialiser.
use Rattle.std.proofs.Common.{◌≡◌, true, ◌==◌, ap, sym, not, ◌&&◌, ◌∙◌, rules}
use Rattle.std.specs.List.{list_any}
use Rattle.dm_tree.specs.declared.tree.Local.{out-Local}
use Rattle.dm_meaning.specs.Wholes.{view_of_initial}
use Rattle.dm_effect.specs.Safe.{holds}
use Rattle.dm_effect.proofs.DeclaratorLemmas.{local-initialises}
use Rattle.dm_effect.proofs.declarators.local_initialises.Goals as goal

pub returns-then-local-object : goal.returns-then-local-object
returns-then-local-object c types =
    let this : ((out-Local c.args.local.now).declared == c.args.object) ≡ true = search rules in
    sym (local-initialises types c.args.token c.args.object c.args.local.now c.in-Some.initial c.in-Some.is
    ∙ (ap (λ b. b && not (list_any (holds c.args.token) (view_of_initial types c.in-Some.initial).expressions)) this
    ∙ ap not (sym (c.in_initial.ensures types))))
