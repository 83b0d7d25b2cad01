-- The first declarator fits, and so do the others.
use Rattle.std.proofs.Common.{◌≡◌, ◌∷◌, length, rules, sym, subst}
use Rattle.dm_frame.specs.Tasks.{TasksFit}
use Rattle.dm_frame.proofs.FitLemmas.{local-first}
use Rattle.dm_frame.proofs.frame.Frame.first_local.Goals as goal

pub returns-clause-fits : goal.returns-clause-fits
returns-clause-fits c =
    let e : c.args.locals.now ≡ c.in-Some.first.now ∷ c.in-Some.rest.now = search rules in
    λ table fits all.
    let parts = local-first table c.args.locals.now c.in-Some.first.now c.in-Some.rest.now e all in
    (parts.0, subst (TasksFit table (length c.args.self.now.objects)) (sym c.in_ok-push.ensures.ok) (parts.1, fits))
