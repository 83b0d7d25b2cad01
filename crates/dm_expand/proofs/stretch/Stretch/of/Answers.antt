use Rattle.std.proofs.Common.{◌≡◌, List, length, sym, ◌∙◌, subst}
use Rattle.std.proofs.Common.{rules}
use Rattle.std.specs.Vec.{vec_len}
use Rattle.dm_expand.specs.declared.stretch.Shared as code_shared
use Rattle.dm_expand.specs.Items.{Item}
use Rattle.dm_expand.specs.Shares.{IsStretch, AreSigns}
use Rattle.dm_expand.proofs.ShareLemmas.{stretch-all}
use Rattle.dm_expand.proofs.stretch.Stretch.of.Goals as goal

pub invariant_of-result : goal.invariant_of-result
invariant_of-result c =
    let items : List Item = c.args.items.items in
    let are : AreSigns items c.in_ok-ends.ends = subst (λ (xs : List Item). AreSigns xs c.in_ok-ends.ends) c.as_slice.ensures.value c.in_ok-ends.ensures in
    let counted : vec_len c.args.items ≡ length items = search rules in
    subst (λ (shared : code_shared.Shared). IsStretch shared.items.items shared.ends 0 c.len-after.result c.empty.result) (sym c.in_ok-shared.ensures.ok)
    (subst (λ n. IsStretch items c.in_ok-ends.ends 0 n c.empty.result) (sym (c.len-after.ensures ∙ counted)) (stretch-all items c.in_ok-ends.ends c.empty.result are c.empty.ensures))
