-- Whether the site is new says whether the definition is.
use Rattle.std.proofs.Common.{◌∷◌, [], map, ap, sym, ◌∙◌}
use Rattle.std.proofs.lemmas.List.{map-append}
use Rattle.dm_readings.proofs.SiteLemmas.{elsewhere, there, added}
use Rattle.dm_readings.proofs.distinct.add.Goals as goal

pub returns-then-not-is_in_file-clause-found : goal.returns-then-not-is_in_file-clause-found
returns-then-not-is_in_file-clause-found c =
    elsewhere c.args.one.now (map (λ one. one.now) c.args.found.now.items) (sym c.is_in_file.ensures ∙ c.if-not-is_in_file.true)

pub returns-then-not-is_new-clause-found : goal.returns-then-not-is_new-clause-found
returns-then-not-is_new-clause-found c =
    there c.args.one.now (map (λ one. one.now) c.args.found.now.items) c.args.sites.now.keys (sym c.is_in_file.ensures ∙ c.if-not-is_in_file.false) c.requires.sites
    (sym c.if-not-is_new.true ∙ c.in_ok-is_new.ensures.added)

pub returns-clause-found : goal.returns-clause-found
returns-clause-found c =
    ap (map (λ one. one.now)) c.in_ok-push.ensures.items ∙ map-append (λ one. one.now) c.args.found.now.items (c.args.one ∷ [])
    ∙ added c.args.one.now (map (λ one. one.now) c.args.found.now.items) c.args.sites.now.keys (sym c.is_in_file.ensures ∙ c.if-not-is_in_file.false) c.requires.sites
    (sym c.if-not-is_new.false ∙ c.in_ok-is_new.ensures.added)
