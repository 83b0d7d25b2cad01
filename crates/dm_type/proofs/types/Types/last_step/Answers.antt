-- A function type is made of its result and its parameters.
use Rattle.std.proofs.Common.{◌≡◌, ℕ, ◌+◌, List, [], ◌∷◌, ◌++◌, length, map, sym, ap, ◌∙◌, arith}
use Rattle.dm_type.specs.CTypes.{CType, all_of}
use Rattle.dm_type.specs.Tables.{Table, type_of, types_of, as_is}
use Rattle.dm_type.specs.Writing.{work, works}
use Rattle.dm_type.specs.Composing.{composed, wanted, composites, work_of}
use Rattle.dm_type.proofs.ComposingLemmas.{turned-push, last-function, work-push}
use Rattle.dm_type.proofs.types.Types.last_step.Goals as goal

pub returns-in_ok-push-in-Function-Function-clause-makes : goal.returns-in_ok-push-in-Function-Function-clause-makes
returns-in_ok-push-in-Function-Function-clause-makes c =
    let table : Table = c.args.self.now in
    let f : ℕ → CType = type_of table in
    let these : List ℕ = c.in-Function-Function.parameters in
    let those : List ℕ = c.in-Function-Function.others in
    let one : ℕ = c.in-Function-Function.first in
    let other : ℕ = c.in-Function-Function.second in
    let rest : List CType = wanted table c.args.pairs.now.items in
    let middle : wanted table c.pair_up.new.pairs.items ≡ composites (map f these) (map f those) ++ rest =
    c.in_ok-count-in-Function-Function.ensures.wanted
    ∙ ap (λ ids. composites (map f ids) (map f c.items-in-Function-Function.result.now) ++ rest) c.items.ensures
    ∙ ap (λ ids. composites (map f these) (map f ids) ++ rest) c.items-in-Function-Function.ensures in
    let counted : length (composites (map f these) (map f those)) ≡ c.in_ok-count-in-Function-Function.count =
    ap (λ ids. length (composites (map f these) (map f ids))) (sym c.items-in-Function-Function.ensures)
    ∙ ap (λ ids. length (composites (map f ids) (map f c.items-in-Function-Function.result.now))) (sym c.items.ensures)
    ∙ c.in_ok-count-in-Function-Function.ensures.counted in
    last-function table c.args.pair.0 c.args.pair.1 (wanted table c.push-in-Function-Function.new.self.items) rest one other these those c.in_ok-count-in-Function-Function.count
    (c.shape.ensures.exact ∙ ap (as_is (types_of table.shapes)) c.in-Function-Function.is-0)
    (c.shape-2.ensures.exact ∙ ap (as_is (types_of table.shapes)) c.in-Function-Function.is-1)
    counted
    (ap (wanted table) c.in_ok-push-in-Function-Function.ensures.items
    ∙ turned-push (composed table) c.pair_up.new.pairs.items (one, other)
    ∙ ap (λ ts. composed table (one, other) ∷ ts) middle)

pub returns-in_ok-push-in-Function-Function-clause-work : goal.returns-in_ok-push-in-Function-Function-clause-work
returns-in_ok-push-in-Function-Function-clause-work c =
    let table : Table = c.args.self.now in
    let f : ℕ → CType = type_of table in
    let these : List ℕ = c.in-Function-Function.parameters in
    let one : ℕ = c.in-Function-Function.first in
    let whole : work (f c.args.pair.0) ≡ 2 + (work (f one) + works (all_of (map f these))) =
    ap work c.shape.ensures.exact ∙ ap (λ s. work (as_is (types_of table.shapes) s)) c.in-Function-Function.is-0 in
    let items : works (all_of (map f c.items.result.now)) ≡ works (all_of (map f these)) = ap (λ ids. works (all_of (map f ids))) c.items.ensures in
    let parameters = c.in_ok-count-in-Function-Function.ensures.work in
    let pushed : work_of table c.push-in-Function-Function.new.self.items ≡ work_of table (c.pair_up.new.pairs.items ++ (one, c.in-Function-Function.second) ∷ []) =
    ap (work_of table) c.in_ok-push-in-Function-Function.ensures.items in
    let last = work-push table c.pair_up.new.pairs.items (one, c.in-Function-Function.second) in
    omega (arith, whole, items, parameters, pushed, last)
