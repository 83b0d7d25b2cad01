-- One place after another.
use Rattle.std.proofs.Common.{◌≡◌, ◌≤◌, ◌+◌, ℕ, Option, List, Some, length, slice_get, ap, ap₂, sym, subst, ◌∙◌, arith, rules}
use Rattle.dm_type.specs.Tables.{Table, no_type}
use Rattle.dm_tree.specs.declared.unit.CoreUnit.{CoreUnit}
use Rattle.dm_tree.specs.Views.{view, view_of_unit}
use Rattle.dm_sites.specs.Links.{linked}
use Rattle.dm_sites.specs.Seen.{seen}
use Rattle.dm_sites.specs.Sites.{Site}
use Rattle.dm_around.specs.declared.noise.Noise.{Noise}
use Rattle.dm_around.specs.Noises.{is_noisy, is_beside, noisy_operands, IsPureBelow}
use Rattle.dm_around.proofs.ParentLemmas.{all_of, none-past, get-less}
use Rattle.dm_around.proofs.NoiseLemmas.{NoisesSoFar, no-noises, noises-next}
use Rattle.dm_around.proofs.noise.noises_of.Goals as goal

pub loop-site-init : goal.loop-site-init
loop-site-init c = subst (NoisesSoFar c.args.sites.now c.args.parents.now) (sym c.new-noises.ensures.items) (no-noises c.args.sites.now c.args.parents.now)

pub loop-site-smaller : goal.loop-site-smaller
loop-site-smaller c =
    let less = get-less (all_of no_type c.args.sites.now) c.len.result _ (sym (c.in-Some.ensures no_type)) in
    let same : c.len.result ≡ length c.loop-site.noises.items = search rules in
    let more : length c.push.new.self.items ≡ length c.loop-site.noises.items + 1 = search rules in
    omega (arith, less, same, more)

pub loop-site-preserved : goal.loop-site-preserved
loop-site-preserved c =
    let one = c.args.sites.now in
    let parents = c.args.parents.now in
    let noises = c.loop-site.noises.items in
    let last = c.noise_below-noise.result in
    let tree = λ (types : Table). view types c.in-Some.site.now.tree.now in
    let same : c.len.result ≡ length noises = search rules in
    let again : c.len-in-Some.result ≡ length noises = search rules in
    subst (NoisesSoFar one parents) (sym c.in_ok-push.ensures.items)
    (noises-next one parents noises last tree c.loop-site.invariant
    (λ types site there. by types site there (c.in-Some.ensures types ∙ ap (slice_get (all_of types one)) same))
    (λ types.
    c.noise_below-noise.ensures.beside types
    ∙ (ap (λ (unit : CoreUnit). is_beside c.as_slice.result.now (is_noisy (view_of_unit types unit) (tree types)) c.parent_at-parent.result) c.requires.quiet
    ∙ ap₂ (λ (them : List Noise) (parent : Option ℕ). is_beside them (is_noisy (view_of_unit types one) (tree types)) parent) c.as_slice.ensures.value (c.parent_at-parent.ensures ∙ ap (linked parents) again)))
    (λ types is. c.noise_below-noise.ensures.operands types (below types is) ∙ ap (λ (unit : CoreUnit). noisy_operands (view_of_unit types unit) (tree types)) c.requires.quiet)
    (λ types is pure. c.noise_below-noise.ensures.pure types (below types is) pure))
  where
    below : (types : Table) → IsPureBelow c.loop-site.noises.items (linked c.args.parents.now (length c.loop-site.noises.items)) (view types c.in-Some.site.now.tree.now)
        → IsPureBelow c.as_slice.result.now c.parent_at-parent.result (view types c.in-Some.site.now.tree.now)
    below types is =
        let again : c.len-in-Some.result ≡ length c.loop-site.noises.items = search rules in
        subst (λ (them : List Noise). IsPureBelow them c.parent_at-parent.result (view types c.in-Some.site.now.tree.now)) (sym c.as_slice.ensures.value)
        (subst (λ (parent : Option ℕ). IsPureBelow c.loop-site.noises.items parent (view types c.in-Some.site.now.tree.now)) (sym (c.parent_at-parent.ensures ∙ ap (linked c.args.parents.now) again)) is)

    by : (types : Table) (site : Site) → slice_get (all_of types c.args.sites.now) (length c.loop-site.noises.items) ≡ Some site
        → Some (seen types (all_of types c.args.sites.now) c.in-Some.site.now) ≡ slice_get (all_of types c.args.sites.now) (length c.loop-site.noises.items)
        → site.tree ≡ view types c.in-Some.site.now.tree.now
    by types site there found =
        let both : Some site ≡ Some (seen types (all_of types c.args.sites.now) c.in-Some.site.now) = sym there ∙ sym found in
        let equal : site ≡ seen types (all_of types c.args.sites.now) c.in-Some.site.now = cc in
        ap (λ (one : Site). one.tree) equal

pub returns : goal.returns
returns c types plain known n site there =
    let past : length (all_of types c.args.sites.now) ≤ c.len.result = none-past (all_of types c.args.sites.now) c.len.result (sym (c.in_default.ensures types)) in
    let same : c.len.result ≡ length c.loop-site.noises.items = search rules in
    let less = get-less (all_of types c.args.sites.now) n site there in
    c.loop-site.invariant.beside types plain known n site (omega (arith, past, same, less)) there
