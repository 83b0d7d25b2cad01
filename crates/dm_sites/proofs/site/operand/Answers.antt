-- What stands round an expression stands round its parts too.
use Rattle.std.proofs.Common.{◌≡◌, ◌||◌, true, ap, ◌∙◌, sym}
use Rattle.dm_tree.specs.Trees.{label_of, spans_of}
use Rattle.dm_tree.specs.Views.{view}
use Rattle.dm_sites.specs.Seen.{path_at, seen}
use Rattle.dm_sites.specs.Sites.{is_in_type_name, is_sizeof}
use Rattle.dm_sites.specs.Walks.{at_path}
use Rattle.dm_sites.proofs.NodeLemmas.{label-view}
use Rattle.dm_sites.proofs.SiteLemmas.{or-left, or-right, operand-same}
use Rattle.dm_sites.proofs.site.operand.Goals as goal
use Rattle.dm_sites.proofs.site.operand.Goals.{then-above, else-above, then-above-2, else-above-2}

pub returns : goal.returns
returns c types all =
    let above = c.args.above.now in
    let tree = view types above.tree.now in
    let named = ap (λ label. is_in_type_name label c.args.part) (label-view types above.tree.now) ∙ c.is_in_type_name-in_type_name.ensures types in
    let sized = ap is_sizeof (label-view types above.tree.now) ∙ c.is_sizeof-in_sizeof.ensures types in
    let constant : c.if-above.result ≡ (above.constant || is_in_type_name (label_of tree) c.args.part) =
    elim c.if-above.branch [
      | then-above w ↦ let t : c.if-above.result ≡ true = cc in or-left above.constant (is_in_type_name (label_of tree) c.args.part) c.if-above.result w.if-above.true t
      | else-above w ↦ let t : c.if-above.result ≡ c.is_in_type_name-in_type_name.result = cc in or-right above.constant (is_in_type_name (label_of tree) c.args.part) c.if-above.result w.if-above.false (t ∙ sym named)
    ] in
    let unevaluated : c.if-above-2.result ≡ (above.unevaluated || is_sizeof (label_of tree)) =
    elim c.if-above-2.branch [
      | then-above-2 w ↦ let t : c.if-above-2.result ≡ true = cc in or-left above.unevaluated (is_sizeof (label_of tree)) c.if-above-2.result w.if-above-2.true t
      | else-above-2 w ↦ let t : c.if-above-2.result ≡ c.is_sizeof-in_sizeof.result = cc in or-right above.unevaluated (is_sizeof (label_of tree)) c.if-above-2.result w.if-above-2.false (t ∙ sym sized)
    ] in
    operand-same (at_path (path_at all c.args.site) (seen types all above)) (label_of tree) (spans_of tree) c.args.part (view types c.args.tree.now)
    c.is_apart.result c.if-above.result c.if-above-2.result (c.is_apart.ensures types) constant unevaluated
