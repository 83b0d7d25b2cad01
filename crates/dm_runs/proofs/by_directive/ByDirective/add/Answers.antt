-- The item stands at the end of the directive's list.
use Rattle.std.proofs.Common.{◌≡◌, ℕ, ◌<◌, List, [], ◌∷◌, ◌++◌, length, cond, set, get_or, sym, ap, ◌∙◌, arith}
use Rattle.std.specs.List.{position_or_len}
use Rattle.std.proofs.Math.ListN.{length-set}
use Rattle.std.proofs.lemmas.List.{take_at}
use Rattle.dm_runs.specs.declared.by_directive.Directive.{Directive}
use Rattle.dm_runs.specs.Listings.{same, directive, items_at}
use Rattle.dm_runs.proofs.ListingLemmas.{listed-set}
use Rattle.dm_runs.proofs.by_directive.ByDirective.add.Goals as goal

pub returns : goal.returns
returns g c = λ file hash.
    let one = directive c.args.definition.now.place.file c.args.definition.now.hash in
    let q = directive file hash in
    let keys : List Directive = c.more.inside.directives.keys in
    let lists = c.more.inside.lists.items in
    let index : ℕ = c.in_ok-more.index in
    let is : index ≡ position_or_len (same one) keys =
    c.in_ok-more.ensures.number ∙ ap (λ found. position_or_len (same one) found.0) (sym c.more.view_is) in
    let inside : position_or_len (same one) keys < length keys = omega (arith, is, c.in_ok-more.ensures.inside, ap (λ found. length found.0) c.more.view_is) in
    let after : c.append.new.lists ≡ set lists index (get_or lists index [] ++ c.args.item ∷ []) =
    c.in_ok-append.ensures ∙ ap (λ ls. set ls index (get_or ls index [] ++ c.args.item ∷ [])) c.deref_mut.ensures.value in
    let size : length c.append.new.lists ≡ length lists = ap length after ∙ length-set lists index (get_or lists index [] ++ c.args.item ∷ []) in
    ap (λ ls. get_or ls (position_or_len (same q) keys) []) (take_at c.append.new.lists _ _ (omega (arith, size, c.more.inside.lists.ok.0)) ∙ after)
    ∙ ap (λ i. get_or (set lists i (get_or lists i [] ++ c.args.item ∷ [])) (position_or_len (same q) keys) []) is
    ∙ listed-set keys lists one q c.args.item c.more.invariant inside
    ∙ ap (λ found. found ++ cond (same q one) (c.args.item ∷ []) [])
    (ap (λ found. items_at found file hash) c.more.view_is ∙ c.in_ok-more.ensures.items file hash)
