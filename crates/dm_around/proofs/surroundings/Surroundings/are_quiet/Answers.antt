-- By what is beside the place, and by its own tree.
use Rattle.std.proofs.Common.{◌≡◌, ℕ, Bool, false, List, Some, slice_get, ap, sym, subst, ◌∙◌}
use Rattle.std.specs.List.{list_all}
use Rattle.dm_type.specs.Tables.{Table}
use Rattle.dm_tree.specs.declared.unit.CoreUnit.{CoreUnit}
use Rattle.dm_tree.specs.TypeNumbers.{IsTypedUnit}
use Rattle.dm_tree.specs.Views.{view, view_of_unit}
use Rattle.dm_effect.specs.Quiet.{is_quiet}
use Rattle.dm_effect.specs.Sequencing.{around}
use Rattle.dm_sites.specs.Seen.{seen}
use Rattle.dm_sites.specs.Sites.{Site, sites_of_unit}
use Rattle.dm_around.specs.declared.noise.Noise.{Noise}
use Rattle.dm_around.specs.Noises.{noise_at}
use Rattle.dm_around.proofs.AroundLemmas.{noise-beside, silence-beside, tree-there}
use Rattle.dm_around.proofs.surroundings.Surroundings.are_quiet.Goals as goal

abbrev Says : Bool → ℕ → Table → Site → CoreUnit → Type 0
Says answer n types site one =
    IsTypedUnit types one → slice_get (sites_of_unit (view_of_unit types one)) n ≡ Some site → answer ≡ list_all (is_quiet (view_of_unit types one)) (around site.path site.full)

pub returns-then-noise_at : goal.returns-then-noise_at
returns-then-noise_at c types site =
    let noise = c.noise_at.ensures ∙ ap (λ (noises : List Noise). noise_at noises c.args.number) c.as_slice.ensures.value in
    subst (Says false c.args.number types site) c.self.view_is
    (λ typed there.
    noise-beside (view_of_unit types c.self.inside.unit.now) c.args.number site there
    (sym (c.self.invariant.noisy types typed c.args.number site there) ∙ (sym (ap (λ (noise : Noise). noise.beside) noise) ∙ c.if-noise_at.true)))

pub returns-in-Some : goal.returns-in-Some
returns-in-Some c types site =
    let unit = view_of_unit types c.self.inside.unit.now in
    let noise = c.noise_at.ensures ∙ ap (λ (noises : List Noise). noise_at noises c.args.number) c.as_slice.ensures.value in
    let sites : c.args.sites.now ≡ c.self.inside.unit.now = c.requires.sites ∙ sym c.self.view_is in
    let quiet : c.args.quiet.now ≡ c.self.inside.unit.now = c.requires.quiet ∙ sym c.self.view_is in
    subst (Says c.is_quiet.result c.args.number types site) c.self.view_is
    (λ typed there.
    c.is_quiet.ensures types
    ∙ (ap (λ (one : CoreUnit). is_quiet (view_of_unit types one) (view types c.in-Some.site.now.tree.now)) quiet
    ∙ (ap (is_quiet unit)
    (tree-there (sites_of_unit unit) c.args.number (seen types (sites_of_unit unit) c.in-Some.site.now) site
    (subst (λ (one : CoreUnit). Some (seen types (sites_of_unit (view_of_unit types one)) c.in-Some.site.now) ≡ slice_get (sites_of_unit (view_of_unit types one)) c.args.number) sites (c.in-Some.ensures types)) there)
    ∙ silence-beside unit c.args.number site there
    (sym (c.self.invariant.noisy types typed c.args.number site there) ∙ (sym (ap (λ (noise : Noise). noise.beside) noise) ∙ c.if-noise_at.false)))))
