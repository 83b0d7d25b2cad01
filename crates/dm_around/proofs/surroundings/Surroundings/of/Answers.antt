-- In a typed unit the trees at places are expressions.
use Rattle.std.proofs.Common.{◌≡◌, ℕ, length, sym, subst, ◌∙◌, rules}
use Rattle.std.specs.List.Sorted.{IsNonDecreasingBy}
use Rattle.dm_type.specs.Tables.{no_type}
use Rattle.dm_sites.specs.Sites.{sites_of_unit}
use Rattle.dm_tree.specs.Views.{view_of_unit}
use Rattle.dm_tree.specs.declared.unit.CoreUnit.{CoreUnit}
use Rattle.dm_around.specs.Noted.{AreNoted}
use Rattle.dm_around.specs.Places.{AreParents}
use Rattle.dm_around.specs.Writes.{writes_at}
use Rattle.dm_around.proofs.NumberLemmas.{ascending}
use Rattle.dm_around.proofs.TypedLemmas.{typed-plain}
use Rattle.dm_around.proofs.surroundings.Surroundings.of.Goals as goal

pub invariant_of-result : goal.invariant_of-result
invariant_of-result c =
    let unit = c.args.sites.now in
    subst (λ (one : CoreUnit). AreNoted one c.in_ok-noises.noises.items c.in_ok-ends.ends.items c.in_ok-links.links.items c.in_ok-writes.writes.items c.in_ok-ways.ways.items) (sym c.unit.ensures)
    (record {
      noisy = λ types typed.
          let plain = typed-plain types unit typed in
          c.in_ok-noises.ensures types plain
          (subst (AreParents (sites_of_unit (view_of_unit types unit))) (sym c.as_slice.ensures.value) (c.in_ok-parents.ensures.same types plain));
      stores = λ types typed d.
          let plain = typed-plain types unit typed in
          record {
            plain = plain;
            ended = c.in_ok-ends.ensures types plain;
            linked = c.in_ok-links.ensures.same types plain
                (subst (AreParents (sites_of_unit (view_of_unit types unit))) (sym c.as_slice-2.ensures.value) (c.in_ok-parents.ensures.same types plain));
            stored = c.in_ok-writes.ensures types d;
          };
      led = λ types typed.
          let plain = typed-plain types unit typed in
          c.in_ok-ways.ensures types plain
          (subst (AreParents (sites_of_unit (view_of_unit types unit))) (sym c.as_slice-3.ensures.value) (c.in_ok-parents.ensures.same types plain));
      ascending = λ d.
          subst (IsNonDecreasingBy (λ (n : ℕ). n)) (sym (c.in_ok-writes.ensures no_type d)) (ascending (writes_at d) (sites_of_unit (view_of_unit no_type unit)));
      before = c.in_ok-links.ensures.before;
    })

pub writes_of-requires : goal.writes_of-requires
writes_of-requires c types =
    let count : c.len-total.result ≡ length c.in_ok-parents.parents.items = search rules in
    count ∙ c.in_ok-parents.ensures.count types
