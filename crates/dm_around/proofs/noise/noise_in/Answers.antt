-- By the tree that is there.
use Rattle.std.proofs.Common.{◌+◌, Bool, not, Option, Bor, ap, sym, ◌∙◌}
use Rattle.std.specs.Prelude.{option_map}
use Rattle.std.specs.Option.{option_copied}
use Rattle.dm_tree.specs.declared.tree.Core.{Core}
use Rattle.dm_tree.specs.Views.{if_there, view, view_of_unit}
use Rattle.dm_around.specs.Noises.{noisy_among, counted}
use Rattle.dm_around.proofs.noise.noise_in.Goals as goal

pub returns-then-is_quiet-clause-same : goal.returns-then-is_quiet-clause-same
returns-then-is_quiet-clause-same c types =
    ap (λ (quiet : Bool). counted (not quiet) + 0) (sym c.if-is_quiet.true ∙ c.is_quiet.ensures types)
    ∙ sym (ap (λ (found : Option (Bor Core)). noisy_among (view_of_unit types c.args.quiet.now) (if_there (option_map (view types) (option_copied found)))) c.in-Some.is)

pub returns-else-is_quiet-clause-same : goal.returns-else-is_quiet-clause-same
returns-else-is_quiet-clause-same c types =
    ap (λ (quiet : Bool). counted (not quiet) + 0) (sym c.if-is_quiet.false ∙ c.is_quiet.ensures types)
    ∙ sym (ap (λ (found : Option (Bor Core)). noisy_among (view_of_unit types c.args.quiet.now) (if_there (option_map (view types) (option_copied found)))) c.in-Some.is)
