-- The first of some occurrences.
use Rattle.std.proofs.Common.{◌≡◌, ℕ, List, flat_map, append-nil, sym, ap, ◌∙◌}
use Rattle.dm_token.specs.declared.place.Span.{Span}
use Rattle.dm_runs.specs.declared.run.Occurrence.{Occurrence}
use Rattle.dm_agree.specs.Index.{first_parameter}
use Rattle.dm_agree.specs.Standing.{narrowing, widened}
use Rattle.dm_agree.proofs.StandingLemmas.{bare}

-- that of tokens with no parentheses round them
pub first-narrowest : (W : Span → List Occurrence) (inner : Span) (left : ℕ) → left ≡ 0 → first_parameter (W (widened inner 0)) ≡ first_parameter (flat_map W (narrowing inner left))
first-narrowest W inner left none =
    ap (λ span. first_parameter (W span)) (bare inner) ∙ (ap first_parameter (sym (append-nil (W inner))) ∙ ap (λ n. first_parameter (flat_map W (narrowing inner n))) (sym none))
