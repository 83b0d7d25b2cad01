-- What is left to compare decides.
use Rattle.std.proofs.Common.{rules, ◌≡◌, ◌&&◌, ◌↔◌, map, ℕ, true, false, IsTrue, List, sym, ap, ◌∙◌, subst}
use Rattle.std.proofs.Math.Bool.{and-true}
use Rattle.dm_type.specs.CTypes.{CType, function, all_of}
use Rattle.dm_type.specs.Tables.{Table, type_of, types_of, as_is}
use Rattle.dm_agree.specs.SameTypes.{same_type, same_listed}
use Rattle.dm_agree.proofs.TypeLemmas.{listed-same, listed-lengths, and-never, same_type-decides}
use Rattle.dm_agree.proofs.types.+comparison.Goals as goal

pub are_same_types-returns-then-parameters-others : goal.are_same_types-returns-then-parameters-others
are_same_types-returns-then-parameters-others t c =
    sym (listed-lengths (type_of c.args.new.now) (type_of c.args.old.now) c.args.parameters.now c.args.others.now c.if-parameters-others.true)

-- two functions
functions-same : (new old : Table) (a b : CType) (first second : ℕ) (these those : List ℕ)
    → a ≡ function (type_of new first) (all_of (map (type_of new) these)) → b ≡ function (type_of old second) (all_of (map (type_of old) those))
    → same_type a b ≡ (same_type (type_of new first) (type_of old second) && same_listed (map (type_of new) these) (map (type_of old) those))
functions-same new old a b first second these those a_is b_is =
    ap (λ x. same_type x b) a_is ∙ ap (same_type (function (type_of new first) (all_of (map (type_of new) these)))) b_is
    ∙ ap (λ r. same_type (type_of new first) (type_of old second) && r) (listed-same (map (type_of new) these) (map (type_of old) those))

pub compare_shapes-returns-then-are_same_types-clause-means : goal.compare_shapes-returns-then-are_same_types-clause-means
compare_shapes-returns-then-are_same_types-clause-means t c =
    let new : Table = c.args.new.now in
    let old : Table = c.args.old.now in
    let here = c.in-Function-Function in
    let same = functions-same new old (type_of new c.args.a) (type_of old c.args.b) here.first here.second here.parameters here.others
    (c.shape.ensures.exact ∙ ap (as_is (types_of new.shapes)) here.is-0) (c.shape-2.ensures.exact ∙ ap (as_is (types_of old.shapes)) here.is-1) in
    let passed : same_listed (map (type_of new) here.parameters) (map (type_of old) here.others) ≡ true =
    ap (λ xs. same_listed (map (type_of new) xs) (map (type_of old) here.others)) (sym c.items.ensures)
    ∙ ap (λ xs. same_listed (map (type_of new) c.items.result.now) (map (type_of old) xs)) (sym c.items-in-Function-Function.ensures)
    ∙ sym c.are_same_types.ensures ∙ c.if-are_same_types.true in (
      search rules,
      search rules,
      same ∙ ap (λ r. same_type (type_of new here.first) (type_of old here.second) && r) passed ∙ and-true (same_type (type_of new here.first) (type_of old here.second)),
    )

pub compare_shapes-returns-else-are_same_types-clause-means : goal.compare_shapes-returns-else-are_same_types-clause-means
compare_shapes-returns-else-are_same_types-clause-means t c =
    let new : Table = c.args.new.now in
    let old : Table = c.args.old.now in
    let here = c.in-Function-Function in
    let same = functions-same new old (type_of new c.args.a) (type_of old c.args.b) here.first here.second here.parameters here.others
    (c.shape.ensures.exact ∙ ap (as_is (types_of new.shapes)) here.is-0) (c.shape-2.ensures.exact ∙ ap (as_is (types_of old.shapes)) here.is-1) in
    let failed : same_listed (map (type_of new) here.parameters) (map (type_of old) here.others) ≡ false =
    ap (λ xs. same_listed (map (type_of new) xs) (map (type_of old) here.others)) (sym c.items.ensures)
    ∙ ap (λ xs. same_listed (map (type_of new) c.items.result.now) (map (type_of old) xs)) (sym c.items-in-Function-Function.ensures)
    ∙ sym c.are_same_types.ensures ∙ c.if-are_same_types.false in
    same ∙ ap (λ r. same_type (type_of new here.first) (type_of old here.second) && r) failed ∙ and-never (same_type (type_of new here.first) (type_of old here.second))

pub is_same_type-returns-in-Known-clause-fact : goal.is_same_type-returns-in-Known-clause-fact
is_same_type-returns-in-Known-clause-fact t c =
    let a : CType = type_of c.args.new.now c.args.a in
    let b : CType = type_of c.args.old.now c.args.b in
    subst (λ answer. IsTrue answer ↔ (a ≡ b)) (c.loop-answer.invariant.0 ∙ c.in-Known.ensures.means) (same_type-decides a b)
