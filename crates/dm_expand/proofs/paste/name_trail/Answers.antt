-- The trail of the name is that of the expansion without its mark.
use Rattle.std.proofs.Common.{◌≡◌, [], ◌∷◌, ◌++◌, length, ap, ◌∙◌, sym, arith, length-append}
use Rattle.dm_expand.specs.Pastes.{Site}
use Rattle.dm_expand.specs.Trails.{body_trail}
use Rattle.dm_expand.proofs.TrailLemmas.{same-outer}
use Rattle.dm_expand.proofs.paste.name_trail.Goals as goal

pub returns-in-None : goal.returns-in-None
unfolding body_trail
returns-in-None c =
    let body : c.site.inside.inside ≡ c.site.inside.name.trail ++ c.site.inside.mark ∷ [] = c.site.invariant in
    absurd (omega (arith, ap length c.in-None.ensures, ap length body, length-append c.site.inside.name.trail (c.site.inside.mark ∷ [])))

pub returns-in-Some : goal.returns-in-Some
unfolding body_trail
returns-in-Some c =
    let body : c.site.inside.inside ≡ c.site.inside.name.trail ++ c.site.inside.mark ∷ [] = c.site.invariant in
    same-outer c.in-Some.outer.now c.site.inside.name.trail c.in-Some.ensures.0 c.site.inside.mark (sym c.in-Some.ensures.1 ∙ body)
    ∙ ap (λ (site : Site). site.name.trail) c.site.view_is
