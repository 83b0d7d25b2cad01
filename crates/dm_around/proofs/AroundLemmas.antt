-- Whether all that stands round a place is quiet.
use Rattle.std.proofs.Common.{◌≡◌, ℕ, Bool, true, false, ◌||◌, not, List, Some, slice_get, refl, sym, ap, ◌∙◌}
use Rattle.std.specs.List.{list_all}
use Rattle.dm_tree.specs.Units.{TypedUnit}
use Rattle.dm_effect.specs.Quiet.{is_quiet}
use Rattle.dm_effect.specs.Sequencing.{around}
use Rattle.dm_effect.proofs.TableLemmas.{none-fails}
use Rattle.dm_sites.specs.Sites.{Site, sites_of_unit}
use Rattle.dm_sites.proofs.LeadLemmas.{fit-at, unit-fits}
use Rattle.dm_around.specs.Noises.{is_noisy}
use Rattle.dm_around.specs.Surroundings.{any_beside}
use Rattle.dm_around.proofs.BesideLemmas.{around-asked}

all-quiet : (one : TypedUnit) (n : ℕ) (site : Site) → slice_get (sites_of_unit one) n ≡ Some site
    → list_all (is_quiet one) (around site.path site.full) ≡ not (is_noisy one site.tree || any_beside (is_noisy one) site)
all-quiet one n site there =
    sym (none-fails (is_quiet one) (is_noisy one) (λ tree. refl) (around site.path site.full))
    ∙ ap not (around-asked (is_noisy one) site (fit-at (sites_of_unit one) n site (unit-fits one) there).0)

some-beside : (b : Bool) → false ≡ not (b || true)
some-beside true = refl
some-beside false = refl

none-beside : (quiet : Bool) → quiet ≡ not (not quiet || false)
none-beside true = refl
none-beside false = refl

module _ (one : TypedUnit) (n : ℕ) (site : Site) (there : slice_get (sites_of_unit one) n ≡ Some site) where
  pub noise-beside : any_beside (is_noisy one) site ≡ true → false ≡ list_all (is_quiet one) (around site.path site.full)
  noise-beside is = some-beside (is_noisy one site.tree) ∙ (ap (λ (b : Bool). not (is_noisy one site.tree || b)) (sym is) ∙ sym (all-quiet one n site there))

  pub silence-beside : any_beside (is_noisy one) site ≡ false → is_quiet one site.tree ≡ list_all (is_quiet one) (around site.path site.full)
  silence-beside is = none-beside (is_quiet one site.tree) ∙ (ap (λ (b : Bool). not (is_noisy one site.tree || b)) (sym is) ∙ sym (all-quiet one n site there))

pub tree-there : (all : List Site) (n : ℕ) (found site : Site) → Some found ≡ slice_get all n → slice_get all n ≡ Some site → found.tree ≡ site.tree
tree-there all n found site is there =
    let both : Some found ≡ Some site = is ∙ there in
    let same : found ≡ site = cc in
    ap (λ (one : Site). one.tree) same
