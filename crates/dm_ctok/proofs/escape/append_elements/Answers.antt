use Rattle.std.proofs.Common.{◌≡◌, [], ◌∙◌, sym, ap, arith}
use Rattle.std.proofs.lemmas.List.{nil_from_length}
use Rattle.std.proofs.lemmas.Bool.Decides.{nat_tests}
use Rattle.dm_ctok.specs.Escapes.{elements, put_behind}
use Rattle.dm_ctok.proofs.ElementLemmas.{element-shorter, put_behind-some, put_behind-bad, put_behind-none}
use Rattle.dm_ctok.proofs.escape.append_elements.Goals as goal

pub returns-in_default-clause-err : goal.returns-in_default-clause-err
returns-in_default-clause-err c =
    put_behind-bad _ c.loop-rest.values.items c.args.bytes.now c.loop-rest.rest.now (grind (arith, nat_tests)) c.in_default.ensures c.loop-rest.invariant

pub loop-rest-smaller : goal.loop-rest-smaller
loop-rest-smaller c = element-shorter c.loop-rest.rest.now c.in-Some.behind.now c.in-Some.value c.in-Some.ensures

pub loop-rest-preserved : goal.loop-rest-preserved
loop-rest-preserved c =
    c.loop-rest.invariant
    ∙ (put_behind-some c.loop-rest.values.items c.loop-rest.rest.now c.in-Some.behind.now c.in-Some.value c.in-Some.ensures
    ∙ ap (λ items. put_behind items (elements c.in-Some.behind.now)) (sym c.in_ok-push.ensures.items))

pub returns-clause-ok : goal.returns-clause-ok
returns-clause-ok c =
    let nothing : c.loop-rest.rest.now ≡ [] = nil_from_length _ (grind (arith, nat_tests)) in
    sym (c.loop-rest.invariant ∙ put_behind-none c.loop-rest.values.items c.loop-rest.rest.now nothing)
