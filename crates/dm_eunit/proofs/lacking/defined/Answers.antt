-- No function so far.
use Rattle.std.specs.Prelude.{◌||◌, is_some, map}
use Rattle.std.specs.Cmp.Lexicographic.{slice_cmp}
use Rattle.std.specs.FinMap as finite
use Rattle.std.specs.Ordering.{nat_cmp}
use Rattle.std.proofs.Common.{ap, ◌∙◌}
use Rattle.dm_scope.specs.Scopes.{or_else}
use Rattle.dm_syn.specs.Views as syntax
use Rattle.dm_edecl.specs.Units as units
use Rattle.dm_eunit.specs.Lacking.{has}
use Rattle.dm_eunit.proofs.lacking.defined.Goals as goal
use Rattle.std.specs.Prelude.{None}

pub loop-external-init : goal.loop-external-init
loop-external-init c = (
  (finite.empty, c.in_ok-names.ensures),
  λ name.
      ap (λ h. h || units.defines c.args.typer.now.tokens.now (map syntax.external c.args.externals.now) name)
      (ap (λ scopes. has scopes name) c.in_ok-names.ensures ∙ ap (λ found. is_some (or_else found None)) (finite.get-empty (slice_cmp nat_cmp) name)),
)
