-- How far in the replacement list the tokens of a run come: each by the last part of which it or one before it comes.
--     AreReached expansions tokens definition prefix run reach      for each token of a run
--     AreKnown expansions tokens definition prefix run reach      for just its tokens
use Rattle.std.specs.Prelude.{◌≡◌, ℕ, ◌+◌, ◌<◌, ◌≤◌, Bool, true, false, List, length, Some, slice_get, slice_index_or}
use Rattle.dm_token.specs.declared.expansion.Definition.{Definition}
use Rattle.dm_token.specs.declared.expansion.Expansion.{Expansion}
use Rattle.dm_token.specs.declared.expansion.Mark.{Mark}
use Rattle.dm_token.specs.declared.place.Span.{Span}
use Rattle.dm_token.specs.declared.token.CToken.{CToken}
use Rattle.dm_runs.specs.Runs.{is_later}

-- a token comes of a part behind a number, and is one of those up to here
pub record IsReached (later : ℕ → CToken → Bool) (tokens : List CToken) (end at : ℕ) : Type 0 where
  pub position : ℕ
  pub token : CToken
  pub within : position < end
  pub there : slice_get tokens position ≡ Some token
  pub passes : later at token ≡ true

abbrev pub NoneReached : (ℕ → CToken → Bool) → List CToken → ℕ → ℕ → Type 0
NoneReached later tokens end at = (j : ℕ) (token : CToken) → j < end → slice_get tokens j ≡ Some token → later at token ≡ false

pub record AreReachedBy (later : ℕ → CToken → Bool) (tokens : List CToken) (first : ℕ) (reach : List ℕ) : Type 0 where
  pub low : (k at d : ℕ) → k < length reach → slice_index_or reach k d ≤ at → NoneReached later tokens (first + k + 1) at
  pub high : (k at d : ℕ) → k < length reach → at < slice_index_or reach k d → IsReached later tokens (first + k + 1) at

abbrev pub AreReached : List Expansion → List CToken → Definition → List Mark → Span → List ℕ → Type 0
AreReached expansions tokens definition prefix run reach = AreReachedBy (is_later expansions definition prefix) tokens run.first reach

-- and there are so many tokens
abbrev pub AreKnown : List Expansion → List CToken → Definition → List Mark → Span → List ℕ → Type 0
AreKnown expansions tokens definition prefix run reach = AreReached expansions tokens definition prefix run reach × (run.first + length reach ≡ run.after)
