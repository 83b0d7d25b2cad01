-- One pair more.
use Rattle.std.proofs.Common.{◌≡◌, ℕ, suc, ◌-◌, ◌≤◌, min, List, [], ◌∷◌, ◌++◌, All, length, map, drop, drop-cons, sym, ap, ◌∙◌, subst, arith}
use Rattle.std.proofs.lemmas.List.{length-map}
use Rattle.std.proofs.lemmas.List.Elements.{All-push}
use Rattle.dm_type.specs.CTypes.{CType, all_of, bare}
use Rattle.dm_type.specs.Tables.{Table, type_of}
use Rattle.dm_type.specs.Alike.{composite}
use Rattle.dm_type.specs.Writing.{work, works}
use Rattle.dm_type.specs.Composing.{IsPair, composed, wanted, composites, work_of}
use Rattle.dm_type.proofs.ComposingLemmas.{turned-push, composite-of, composites-next, composites-end, length-composites, work-bare, work-push, at-end, both-under}
use Rattle.dm_type.proofs.types.Types.pair_up.Goals as goal

pub loop-at-init : goal.loop-at-init
loop-at-init c =
    let table : Table = c.args.self.now in
    let none = composites-end (type_of table) c.args.parameters.now c.args.others.now c.min-count.result (at-end (length c.args.parameters.now) (length c.args.others.now) c.min-count.result c.min-count.ensures) in (
      ap (λ ts. ts ++ wanted table c.args.pairs.now.items) (sym none),
      c.requires.pairs,
      omega arith,
    )

pub loop-at-preserved : goal.loop-at-preserved
loop-at-preserved c =
    let table : Table = c.args.self.now in
    let f : ℕ → CType = type_of table in
    let these : List ℕ = c.args.parameters.now in
    let those : List ℕ = c.args.others.now in
    let k : ℕ = c.loop-at.at - 1 in
    let pairs : List (ℕ × ℕ) = c.loop-at.pairs.items in
    let pair : ℕ × ℕ = (c.bare-one.result, c.bare-other.result) in
    let more = c.loop-at-test.true in
    let next : suc k ≡ c.loop-at.at = omega (arith, more) in
    let inside = both-under (length these) (length those) k c.loop-at.at next (subst (λ n. c.loop-at.at ≤ n) c.min-count.ensures c.loop-at.auto.at) in
    let pushed : c.push.new.self.items ≡ pairs ++ pair ∷ [] = c.in_ok-push.ensures.items in
    let here : composites (map f (drop k these)) (map f (drop k those))
    ≡ composite (bare (f c.index-parameters-at.result)) (bare (f c.index-others-at.result)) ∷ composites (map f (drop (suc k) these)) (map f (drop (suc k) those)) =
    composites-next f these those k c.index-parameters-at.result c.index-others-at.result inside.0 inside.1 c.index-parameters-at.is c.index-others-at.is in
    let first : composed table pair ≡ composite (bare (f c.index-parameters-at.result)) (bare (f c.index-others-at.result)) =
    composite-of (f c.bare-one.result) (f c.bare-other.result) (bare (f c.index-parameters-at.result)) (bare (f c.index-others-at.result)) c.bare-one.ensures.typed.1 c.bare-other.ensures.typed.1 in
    let before = c.loop-at.invariant.2 in
    let kept : works (all_of (map f (drop c.loop-at.at these))) ≡ works (all_of (map f (drop (suc k) these))) = ap (λ n. works (all_of (map f (drop n these)))) (sym next) in
    let cut : works (all_of (map f (drop k these))) ≡ works (all_of (map f (c.index-parameters-at.result ∷ drop (suc k) these))) =
    ap (λ ids. works (all_of (map f ids))) (drop-cons these k c.index-parameters-at.result inside.0 ∙ ap (λ x. x ∷ drop (suc k) these) (sym c.index-parameters-at.is)) in
    let pushed_work : work_of table c.push.new.self.items ≡ work_of table (pairs ++ pair ∷ []) = ap (work_of table) pushed in
    let last = work-push table pairs pair in
    let first_work : work (f c.bare-one.result) ≡ work (bare (f c.index-parameters-at.result)) = ap work c.bare-one.ensures.typed.1 in
    let bare_work = work-bare (f c.index-parameters-at.result) in (
      ap (wanted table) pushed ∙ turned-push (composed table) pairs pair
          ∙ ap (λ t. t ∷ wanted table pairs) first
          ∙ ap (λ ts. composite (bare (f c.index-parameters-at.result)) (bare (f c.index-others-at.result)) ∷ ts) c.loop-at.invariant.0
          ∙ ap (λ n. composite (bare (f c.index-parameters-at.result)) (bare (f c.index-others-at.result)) ∷ (composites (map f (drop n these)) (map f (drop n those)) ++ wanted table c.args.pairs.now.items)) (sym next)
          ∙ ap (λ ts. ts ++ wanted table c.args.pairs.now.items) (sym here),
      subst (All (IsPair table)) (sym pushed) (All-push (IsPair table) pairs pair c.loop-at.invariant.1 (c.bare-one.ensures.typed.0, c.bare-other.ensures.typed.0)),
      omega (arith, before, pushed_work, last, first_work, bare_work, cut, kept),
    )

pub returns-clause-counted : goal.returns-clause-counted
returns-clause-counted c =
    let f : ℕ → CType = type_of c.args.self.now in
    length-composites (map f c.args.parameters.now) (map f c.args.others.now)
    ∙ ap (λ n. min n (length (map f c.args.others.now))) (length-map c.args.parameters.now f)
    ∙ ap (min (length c.args.parameters.now)) (length-map c.args.others.now f)
    ∙ sym c.min-count.ensures
