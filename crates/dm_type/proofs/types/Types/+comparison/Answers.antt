-- What is left to compare decides.
use Rattle.std.proofs.Common.{◌≡◌, ◌&&◌, map, drop, ℕ, suc, Bool, false, List, [], sym, ap, ◌∙◌, subst, arith}
use Rattle.std.proofs.Math.Bool.{and-true}
use Rattle.std.proofs.Math.ListN.{drop_of_length-le}
use Rattle.dm_type.specs.CTypes.{CType, function, all_of, bare}
use Rattle.dm_type.specs.Tables.{Table, type_of, types_of, as_is}
use Rattle.dm_type.specs.Alike.{are_compatible}
use Rattle.dm_type.specs.Comparing.{Means, match_lists}
use Rattle.dm_type.proofs.ComparisonLemmas.{match-all, match-lengths, match-next, and-never}
use Rattle.dm_type.proofs.types.Types.+comparison.Goals as goal
use Rattle.dm_type.proofs.types.Types.+comparison.Goals.{functions-then-is_longer, functions-else-is_longer}

pub compared-returns-in-Function-Function-clause-means : goal.compared-returns-in-Function-Function-clause-means
compared-returns-in-Function-Function-clause-means t c =
    let table : Table = c.args.self.now in
    let first : CType = type_of table c.in-Function-Function.first in
    let second : CType = type_of table c.in-Function-Function.second in
    let these : List ℕ = c.in-Function-Function.parameters in
    let those : List ℕ = c.in-Function-Function.others in
    let a_is : type_of table c.args.a ≡ function first (all_of (map (type_of table) these)) = c.shape.ensures.exact ∙ ap (as_is (types_of table.shapes)) c.in-Function-Function.is-0 in
    let b_is : type_of table c.args.b ≡ function second (all_of (map (type_of table) those)) = c.shape-2.ensures.exact ∙ ap (as_is (types_of table.shapes)) c.in-Function-Function.is-1 in
    let is : are_compatible (type_of table c.args.a) (type_of table c.args.b)
    ≡ (are_compatible first second && match_lists (map (type_of table) c.items.result.now) (map (type_of table) c.items-in-Function-Function.result.now)) =
    ap (λ x. are_compatible x (type_of table c.args.b)) a_is
    ∙ ap (are_compatible (function first (all_of (map (type_of table) these)))) b_is
    ∙ ap (λ r. are_compatible first second && r) (match-all (map (type_of table) these) (map (type_of table) those))
    ∙ ap (λ xs. are_compatible first second && match_lists (map (type_of table) xs) (map (type_of table) those)) (sym c.items.ensures)
    ∙ ap (λ xs. are_compatible first second && match_lists (map (type_of table) c.items.result.now) (map (type_of table) xs)) (sym c.items-in-Function-Function.ensures) in
    subst (λ b. Means table c.functions.result b) (sym is) c.functions.ensures.means

pub functions-returns-then-parameters-others-clause-means : goal.functions-returns-then-parameters-others-clause-means
functions-returns-then-parameters-others-clause-means t c =
    let results : Bool = are_compatible (type_of c.args.self.now c.args.results.0) (type_of c.args.self.now c.args.results.1) in
    ap (λ r. results && r) (match-lengths (type_of c.args.self.now) c.args.parameters.now c.args.others.now c.if-parameters-others.true) ∙ and-never results

pub functions-returns-then-not-compatible-clause-means : goal.functions-returns-then-not-compatible-clause-means
functions-returns-then-not-compatible-clause-means t c =
    let table : Table = c.args.self.now in
    let type : ℕ → CType = type_of table in
    let behind : Bool = match_lists (map type (drop c.loop-i.i c.args.parameters.now)) (map type (drop c.loop-i.i c.args.others.now)) in
    let further : Bool = match_lists (map type (drop (suc c.loop-i.i) c.args.parameters.now)) (map type (drop (suc c.loop-i.i) c.args.others.now)) in
    let answer : are_compatible (type c.if-is_longer.shorter.0) (type c.if-is_longer.shorter.1) ≡ false = sym c.compatible.ensures ∙ c.if-not-compatible.true in
    let counted = c.loop-i.invariant.3 in
    let here = c.loop-i-test.true in
    let next = match-next type c.args.parameters.now c.args.others.now c.loop-i.i c.index-parameters-i.result c.index-others-i.result here (omega (arith, here, counted)) c.index-parameters-i.is c.index-others-i.is in
    c.loop-i.invariant.0
    ∙ elim c.if-is_longer.branch [
      | functions-then-is_longer w ↦ ap (λ b. b && behind) (ap (λ p. are_compatible (type p.0) (type p.1)) (sym w.shorter-is) ∙ answer)
      | functions-else-is_longer w ↦
          ap (λ b. are_compatible (type c.loop-i.left) (type c.loop-i.right) && b)
          (next
          ∙ ap (λ b. b && further)
          (ap (λ x. are_compatible x (bare (type c.index-others-i.result))) (sym c.bare-inner.ensures.typed.1)
          ∙ ap (are_compatible (type c.bare-inner.result)) (sym c.bare-other.ensures.typed.1)
          ∙ ap (λ p. are_compatible (type p.0) (type p.1)) (sym w.shorter-is) ∙ answer))
          ∙ and-never (are_compatible (type c.loop-i.left) (type c.loop-i.right))
    ]

pub functions-returns-clause-means : goal.functions-returns-clause-means
functions-returns-clause-means t c =
    let type : ℕ → CType = type_of c.args.self.now in
    let left : Bool = are_compatible (type c.loop-i.left) (type c.loop-i.right) in
    let under = c.loop-i.invariant.1 in
    let limit = c.requires.limit in
    let past = c.loop-i-test.false in
    let counted = c.loop-i.invariant.3 in
    let these : drop c.loop-i.i c.args.parameters.now ≡ [] = drop_of_length-le c.args.parameters.now past in
    let those : drop c.loop-i.i c.args.others.now ≡ [] = drop_of_length-le c.args.others.now (omega (arith, past, counted)) in (
      omega (arith, under, limit),
      c.loop-i.invariant.2,
      c.loop-i.invariant.0
          ∙ ap (λ xs. left && match_lists (map type xs) (map type (drop c.loop-i.i c.args.others.now))) these
          ∙ ap (λ xs. left && match_lists [] (map type xs)) those ∙ and-true left,
    )
