-- The initialiser of the declarator fits.
use Rattle.std.proofs.Common.{length, sym, subst}
use Rattle.dm_frame.specs.Tasks.{TasksFit}
use Rattle.dm_frame.proofs.FitLemmas.{fits-initial}
use Rattle.dm_frame.proofs.frame.Frame.begin_declarator.Goals as goal

pub returns-clause-fits : goal.returns-clause-fits
returns-clause-fits c = λ fits one.
    let table = c.args.program.now.table in
    let known = fits-initial table c.args.local.now c.in-Some-initial.initial c.in-Some-initial.is one in
    subst (TasksFit table (length c.args.self.now.objects)) (sym c.in_ok-push.ensures.ok) ((c.in-Some.ensures.2, known), fits)
