-- A word is found exactly where it is in the table.
use Rattle.std.proofs.Common.{◌≡◌, ℕ, List, Option, Some, None, IfSome, IfNone, bytes_eq, sym, ap, ◌∙◌}
use Rattle.std.specs.Prelude.{is_some, slice_get, Contains}
use Rattle.std.specs.List.{list_any}
use Rattle.dm_rules.proofs.ListLemmas.{is-row, is-no-row}
use Rattle.dm_rules.proofs.parameter.is_keyword.Goals as goal

by : (word : List ℕ) (rows : List (List ℕ)) (found : Option ℕ) → IfSome found (λ number. slice_get rows number ≡ Some word) → IfNone found (Contains rows word → ⊥)
    → is_some found ≡ list_any (bytes_eq word) rows
by word rows (Some number) there none = sym (is-row word rows number there)
by word rows None there none = sym (is-no-row word rows none)

pub returns : goal.returns
returns c =
    let rows = c.keywords.result in
    c.is_some.ensures ∙ by c.args.name.now rows c.find.result c.find.ensures.found c.find.ensures.none
    ∙ ap (list_any (bytes_eq c.args.name.now)) c.keywords.ensures
