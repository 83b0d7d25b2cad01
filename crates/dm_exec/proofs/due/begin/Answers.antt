-- It stands for the tree, of which nothing is evaluated.
use Rattle.std.proofs.Common.{◌≡◌, ap, ap₂, sym}
use Rattle.dm_token.specs.declared.place.Place.{Place}
use Rattle.dm_tree.specs.Views.{view}
use Rattle.dm_tree.proofs.ViewLemmas.{view-core}
use Rattle.dm_meaning.specs.Running.{Run, begun}
use Rattle.dm_meaning.specs.States as states
use Rattle.dm_meaning.specs.Statements.{place_of}
use Rattle.dm_frame.specs.Tasks.{view_of_use}
use Rattle.dm_state.proofs.FitLemmas.{run-under}
use Rattle.dm_exec.proofs.BeginLemmas.{begun-fits, begun-under}
use Rattle.dm_exec.proofs.due.begin.Goals as goal

pub returns-clause-same : goal.returns-clause-same
returns-clause-same c =
    let table = c.args.program.now.table in
    let tree = c.args.begun.tree.now in
    let expression = c.in_ok-expression.expression in
    let placed : tree.place ≡ place_of (view table tree) = sym (ap place_of (view-core table tree)) in
    ap₂ (λ (place : Place) (run : Run). states.evaluates place run (view_of_use table c.args.begun.use_of)) placed
    (run-under table expression (begun (view table tree)) (begun-under table tree expression c.in_ok-expression.ensures.0 c.in_ok-expression.ensures.1))

pub returns-clause-fits : goal.returns-clause-fits
returns-clause-fits c =
    let table = c.args.program.now.table in
    let tree = c.args.begun.tree.now in
    let expression = c.in_ok-expression.expression in
    record {
      run = begun (view table tree);
      under = begun-under table tree expression c.in_ok-expression.ensures.0 c.in_ok-expression.ensures.1;
      fits = begun-fits table tree expression c.in_ok-expression.ensures.0 c.in_ok-expression.ensures.1 c.requires.0;
      use_fits = c.requires.1;
    }
