use Rattle.std.proofs.Common.{◌≡◌, MatchOption, sym, ◌∙◌, subst}
use Rattle.dm_token.proofs.MarkLemmas.{equal-same}
use Rattle.dm_runs.proofs.beginnings.Path.is_of.Goals as goal

pub returns-in-Some : goal.returns-in-Some
returns-in-Some c = λ holds.
    subst (λ path. MatchOption path ⊥ (λ last. last.now ≡ c.args.trail.now)) (sym c.in-Some.is) (equal-same c.in-Some.last.now c.args.trail.now (sym c.eq.ensures ∙ holds))
