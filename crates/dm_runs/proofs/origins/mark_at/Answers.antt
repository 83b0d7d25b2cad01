use Rattle.std.proofs.Common.{List, [], ◌∷◌, ◌++◌, slice_get, sym, ap, ◌∙◌}
use Rattle.dm_token.specs.declared.expansion.Mark.{Mark}
use Rattle.dm_runs.proofs.ItemLemmas.{slice_get-last}
use Rattle.dm_runs.proofs.StandLemmas.{slice_get-other, last-is}
use Rattle.dm_runs.proofs.origins.mark_at.Goals as goal

pub returns-then-length-outer : goal.returns-then-length-outer
returns-then-length-outer c =
    let shorter = c.in-Some.shorter.now in
    let mark = c.in-Some.ensures.0 in
    let outer = c.args.outer in
    last-is c.last.result c.loop-shorter.rest.now shorter mark c.last.ensures c.in-Some.ensures.1
    ∙ sym (c.loop-shorter.invariant ∙ ap (λ (t : List Mark). slice_get t outer) c.in-Some.ensures.1
    ∙ ap (slice_get (shorter ++ mark ∷ [])) (sym c.if-length-outer.true ∙ c.length.ensures) ∙ slice_get-last shorter mark)

pub loop-shorter-preserved : goal.loop-shorter-preserved
loop-shorter-preserved c =
    let shorter = c.in-Some.shorter.now in
    let mark = c.in-Some.ensures.0 in
    c.loop-shorter.invariant ∙ ap (λ (t : List Mark). slice_get t c.args.outer) c.in-Some.ensures.1
    ∙ slice_get-other shorter mark c.args.outer (λ e. c.if-length-outer.false (c.length.ensures ∙ sym e))

pub returns : goal.returns
returns c = sym (c.loop-shorter.invariant ∙ ap (λ (t : List Mark). slice_get t c.args.outer) c.in_default.ensures)
