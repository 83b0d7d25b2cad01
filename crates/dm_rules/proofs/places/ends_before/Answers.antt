-- One declaration more gives its number to the tokens before its end that have none.
use Rattle.std.proofs.Common.{◌≡◌, ◌+◌, ◌-◌, ◌<◌, List, [], ◌∷◌, ◌++◌, length, take, get_or, replicate, sym, ap, subst, ◌∙◌, arith, vec_len}
use Rattle.std.proofs.lemmas.List.{take_more, take_all, length-take-le}
use Rattle.dm_tree.specs.declared.unit.CoreExternal.{CoreExternal}
use Rattle.dm_rules.proofs.PlaceLemmas.{Kept, nothing-kept, same-kept, more-kept}
use Rattle.dm_rules.proofs.places.ends_before.Goals as goal
use Rattle.dm_rules.proofs.places.ends_before.Goals.{then-len-after+in_ok-resize, else-len-after}

pub loop-number-init : goal.loop-number-init
loop-number-init c = subst (Kept []) (sym c.new-before.ensures.items) nothing-kept

pub loop-number-preserved : goal.loop-number-preserved
loop-number-preserved c =
    let all : List CoreExternal = c.args.externals.now in
    let i = c.loop-number.number in
    let one : CoreExternal = get_or all i c.index-externals-number.result in
    let externals : List CoreExternal = take i all in
    let before = c.loop-number.before.items in
    let more : externals ++ one ∷ [] ≡ take (i + 1) all = sym (take_more all i c.index-externals-number.result c.loop-number-test.true) in
    let size : length externals ≡ i = length-take-le i all (omega (arith, c.loop-number-test.true)) in
    let counted : vec_len c.loop-number.before ≡ length before = omega (arith, c.loop-number.before.ok.0) in
    let long : c.len.result ≡ length before = omega (arith, c.len.ensures, c.loop-number.before.ok.0) in
    subst (λ some. Kept some c.if-len-after.before.items) more
    (elim c.if-len-after.branch [
      | then-len-after+in_ok-resize w ↦
          let longer : length before < one.span.after = omega (arith, w.if-len-after.true, long) in
          subst (Kept (externals ++ one ∷ []))
          (sym (ap (λ v. v.items) w.before-is ∙ w.in_ok-resize.ensures.items
          ∙ ap (λ front. front ++ replicate (one.span.after - vec_len c.loop-number.before) i) (take_all one.span.after before (omega (arith, longer)))
          ∙ ap (λ n. before ++ replicate (one.span.after - n) i) counted
          ∙ ap (λ n. before ++ replicate (one.span.after - length before) n) (sym size)))
          (more-kept externals before one c.loop-number.invariant longer)
      | else-len-after w ↦
          subst (Kept (externals ++ one ∷ [])) (sym (ap (λ v. v.items) w.before-is))
          (same-kept externals before one c.loop-number.invariant (omega (arith, w.if-len-after.false, long)))
    ])

pub returns-clause-before : goal.returns-clause-before
returns-clause-before c = (subst (λ some. Kept some c.loop-number.before.items) (take_all c.loop-number.number c.args.externals.now c.loop-number-test.false) c.loop-number.invariant).are
