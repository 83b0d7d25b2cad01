-- The place with this number is one of its own, and its tree stands there.
use Rattle.std.proofs.Common.{Bool, ◌&&◌, Some, None, refl, ap, sym, ◌∙◌}
use Rattle.std.proofs.lemmas.Option.{slice_get_read, slice_get_past}
use Rattle.dm_tree.specs.Views.{view}
use Rattle.dm_sites.specs.Links.{passes}
use Rattle.dm_sites.specs.Sites.{is_site_of}
use Rattle.dm_sites.specs.Standing.{stands}
use Rattle.dm_sites.proofs.SiteLemmas.{got}
use Rattle.dm_sites.proofs.sites.is_at.Goals as goal

pub returns-then-site : goal.returns-then-site
returns-then-site c types all same =
    ap (passes (is_site_of c.args.span))
    (got types all c.args.found.now same c.args.number (Some c.in-Some.site.now)
    (slice_get_read c.args.found.now _ c.args.number c.in-Some.site.now refl c.in-Some.ensures.lookup.3.0 c.in-Some.ensures.lookup.1))
    ∙ (ap (λ (b : Bool). b && stands c.args.span (view types c.in-Some.site.now.tree.now)) c.if-site.true ∙ c.stands.ensures types)

pub returns-else-site : goal.returns-else-site
returns-else-site c types all same =
    ap (passes (is_site_of c.args.span))
    (got types all c.args.found.now same c.args.number (Some c.in-Some.site.now)
    (slice_get_read c.args.found.now _ c.args.number c.in-Some.site.now refl c.in-Some.ensures.lookup.3.0 c.in-Some.ensures.lookup.1))
    ∙ (ap (λ (b : Bool). b && stands c.args.span (view types c.in-Some.site.now.tree.now)) c.if-site.false ∙ sym c.if-site.false)

pub returns-in-None : goal.returns-in-None
returns-in-None c types all same =
    ap (passes (is_site_of c.args.span)) (got types all c.args.found.now same c.args.number None (slice_get_past c.args.found.now c.args.number c.in-None.ensures.lookup.3))
