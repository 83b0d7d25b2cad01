-- At the end each part is passed.
use Rattle.std.proofs.Common.{◌≡◌, ◌++◌, ◌∷◌, ap, sym, ◌∙◌, map, take}
use Rattle.std.proofs.lemmas.List.{take_all}
use Rattle.std.specs.List.{join_with_byte, flat_map}
use Rattle.dm_search.proofs.JoiningLemmas.{join-cons}
use Rattle.dm_search.proofs.joining.path_of.Goals as goal

pub returns : goal.returns
returns c =
    let all = take_all c.loop-part.part-index c.in-Some.others.now c.loop-part-test.false in
    let parts = ap (λ parts. join_with_byte 47 (map (λ part. part.now) parts)) c.in-Some.ensures.cases.0 in
    c.loop-part.invariant
    ∙ ap (λ first. first ++ flat_map (λ part. 47 ∷ part) (map (λ part. part.now) (take c.loop-part.part-index c.in-Some.others.now))) (c.in_ok-extend_from_slice.ensures.items ∙ ap (λ none. none ++ c.in-Some.first.now.now) c.new-path.ensures.items)
    ∙ ap (λ others. c.in-Some.first.now.now ++ flat_map (λ part. 47 ∷ part) (map (λ part. part.now) others)) all
    ∙ sym (join-cons c.in-Some.first.now.now (map (λ part. part.now) c.in-Some.others.now)) ∙ sym parts
