-- Nothing is declared yet.
use Rattle.std.specs.Prelude.{nat_eq, option_map, None}
use Rattle.std.specs.Cmp.Lexicographic.{slice_cmp}
use Rattle.std.specs.FinMap as finite
use Rattle.std.specs.Map.{lookup}
use Rattle.std.specs.Ordering.{nat_cmp}
use Rattle.std.proofs.Common.{sym, ap, ◌∙◌}
use Rattle.dm_scope.specs.Scopes.{number_of, or_else}
use Rattle.dm_estanding.specs.Summaries.{whole_over}
use Rattle.dm_estanding.proofs.links.Links.new.Goals as goal

pub returns-clause-summary : goal.returns-clause-summary
returns-clause-summary c = λ later declared. record {
  single = (finite.empty, c.in_ok-new.ensures);
  names = λ name. sym (ap (λ scopes. number_of scopes name) c.in_ok-new.ensures ∙ ap (λ found. or_else found None) (finite.get-empty (slice_cmp nat_cmp) name));
  wholes = λ number. sym (ap (λ entries. option_map (whole_over later) (lookup (nat_eq number) entries)) c.new-2.ensures.empty);
}
