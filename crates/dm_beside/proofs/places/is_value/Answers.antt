-- One after another.
use Rattle.std.proofs.Common.{sym, ◌∙◌}
use Rattle.dm_tree.specs.Views.{view_of_unit}
use Rattle.dm_token.specs.declared.place.Span.{Span}
use Rattle.dm_sites.specs.Links.{passes}
use Rattle.dm_sites.specs.Sites.{site_of}
use Rattle.dm_beside.specs.Places.{is_read}
use Rattle.dm_beside.proofs.PlaceLemmas.{all-first, all-next, all-last}
use Rattle.dm_beside.proofs.places.is_value.Goals as goal

pub returns-then-not-is_read-2 : goal.returns-then-not-is_read-2
returns-then-not-is_read-2 c types =
    all-first (λ (span : Span). passes is_read (site_of (view_of_unit types c.args.sites.now) span)) c.args.run.now.span c.loop-occurrence.left.now c.in-Some.rest.now c.args.run.now.occurrences c.in-Some.occurrence.now c.is_read-in-Some.result
    (sym (c.is_read.ensures types) ∙ c.if-not-is_read.false) c.in-Some.ensures.cases.0 (c.loop-occurrence.invariant types) (c.is_read-in-Some.ensures types) c.if-not-is_read-2.true

pub loop-occurrence-preserved : goal.loop-occurrence-preserved
loop-occurrence-preserved c types =
    all-next (λ (span : Span). passes is_read (site_of (view_of_unit types c.args.sites.now) span)) c.loop-occurrence.left.now c.in-Some.rest.now c.args.run.now.occurrences c.in-Some.occurrence.now c.is_read-in-Some.result
    c.in-Some.ensures.cases.0 (c.loop-occurrence.invariant types) (c.is_read-in-Some.ensures types) c.if-not-is_read-2.false

pub returns : goal.returns
returns c types =
    all-last (λ (span : Span). passes is_read (site_of (view_of_unit types c.args.sites.now) span)) c.args.run.now.span c.loop-occurrence.left.now c.args.run.now.occurrences (sym (c.is_read.ensures types) ∙ c.if-not-is_read.false) c.in_default.ensures.cases (c.loop-occurrence.invariant types)
