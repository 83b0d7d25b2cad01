-- The names in turn.
use Rattle.std.specs.Prelude.{◌++◌, ◌+◌, drop}
use Rattle.std.proofs.Common.{rules, ap, ◌∙◌}
use Rattle.dm_tree.specs.Views.{entries_of}
use Rattle.dm_edecl.specs.Units.{innermost}
use Rattle.dm_eunit.specs.Naming.{names_in}
use Rattle.dm_eunit.proofs.NameLemmas.{name-next}
use Rattle.dm_eunit.proofs.naming.names_since.Goals as goal

pub loop-number-preserved : goal.loop-number-preserved
loop-number-preserved c = λ types.
    let scope = innermost c.args.known.now.scopes in
    let all = c.args.known.now.declared in
    ap (λ list. list ++ names_in scope (c.loop-number.number + 1) (drop (c.loop-number.number + 1) (entries_of types all))) (c.in_ok-name_here.ensures types)
    ∙ name-next scope c.loop-number.names.items c.loop-number.number types all c.index-entries-number.result (search rules) (search rules)
    ∙ c.loop-number.invariant types
