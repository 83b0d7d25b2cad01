use Rattle.std.proofs.Common.{◌≡◌, ◌<◌, ℕ, ◌+◌, List, cond, length, get_or, sym, ap, ◌∙◌, arith, rules}
use Rattle.std.proofs.lemmas.List.{get_or_default}
use Rattle.dm_macro.specs.Bodies.{is_at}
use Rattle.std.specs.Prelude.{Some}
use Rattle.dm_macro.proofs.RoleLemmas.{set-counts}
use Rattle.dm_macro.proofs.role.add_to.Goals as goal

pub returns : goal.returns
returns c = λ other.
    let counts : List ℕ = c.places.counts.items in
    let below : c.args.parameter < length counts = search rules in
    set-counts counts c.args.parameter c.index-count.result.now other below (c.index-count.ensures ∙ get_or_default counts c.args.parameter _ 0 below)
    ∙ ap (λ n. n + cond (is_at other (Some c.args.parameter)) 1 0) (c.places.invariant other)
