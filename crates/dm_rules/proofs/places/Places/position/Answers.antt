-- Behind all tokens all have begun.
use Rattle.std.proofs.Common.{◌≡◌, ℕ, ◌+◌, inl, inr, false, List, length, min, get_or, sym, ap, ◌∙◌, arith}
use Rattle.std.proofs.lemmas.Bool.{cases_lt}
use Rattle.std.proofs.lemmas.List.{take_all}
use Rattle.std.proofs.lemmas.List.FromFn.{get_or-map-range_with_len, length-map-range_with_len}
use Rattle.dm_token.specs.declared.token.Token.{Token}
use Rattle.dm_runs.specs.Spans.{begun_before, begun_among}
use Rattle.dm_rules.proofs.places.Places.position.Goals as goal

-- so many tokens, or all
at-most : (tokens : List Token) (count at : ℕ) → at ≡ min count (length tokens) → begun_before tokens at ≡ begun_before tokens count
at-most tokens count at is = elim (cases_lt (length tokens) count) [
  | inl past ↦
      ap (begun_among false) (take_all at tokens (omega (arith, is, past)) ∙ sym (take_all count tokens (omega (arith, past))))
  | inr inside ↦ let same : at ≡ count = omega (arith, is, inside) in ap (begun_before tokens) same
]

pub returns : goal.returns
returns c =
    let self = c.args.self.now in
    let tokens : List Token = self.tokens.now in
    let size = ap length self.are_positions ∙ length-map-range_with_len (begun_before tokens) 0 (length tokens + 1) in
    let at : c.min.result ≡ min c.args.count (length tokens) = omega (arith, c.min.ensures, c.len-last.ensures, size, self.positions.ok.0) in
    c.index.ensures ∙ ap (λ counts. get_or counts c.min.result c.index.result.now) self.are_positions
    ∙ get_or-map-range_with_len (begun_before tokens) 0 (length tokens + 1) c.min.result c.min.result c.index.result.now (omega (arith, at)) (omega arith)
    ∙ at-most tokens c.args.count c.min.result at
