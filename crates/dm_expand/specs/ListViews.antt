-- What the code's answers on whole lists mean.
use Rattle.std.specs.Prelude.{ℕ, Bool, List, ◌++◌, Result, Ok, Err, if◌then◌else◌}
use Rattle.dm_token.specs.declared.place.Place.{Place}
use Rattle.dm_token.specs.declared.stop.Stop.{Stop}
use Rattle.dm_expand.specs.declared.head.Invocation as code_invocation
use Rattle.dm_expand.specs.Items.{Item}
use Rattle.dm_expand.specs.Steps.{Progress, Output, spend}
use Rattle.dm_expand.specs.Pastes.{Piece}
use Rattle.dm_expand.specs.Substitution.{Filled}
use Rattle.dm_expand.specs.Expansion.{Invocation}
use Rattle.dm_expand.specs.HeadViews.{macro_value}

-- tokens, and the progress
abbrev pub gives : List Item → Progress → Output
gives tokens progress = record { tokens = tokens; progress = progress }

-- pieces, and the progress
abbrev pub fills : List Piece → Progress → Filled
fills pieces progress = record { pieces = pieces; progress = progress }

-- pieces before others
abbrev pub pieces_before : List Piece → Result Filled Stop → Result Filled Stop
pieces_before pieces (Ok given) = Ok (record { pieces = pieces ++ given.pieces; progress = given.progress })
pieces_before pieces (Err stop) = Err stop

-- tokens before others
abbrev pub tokens_before : List Item → Result Output Stop → Result Output Stop
tokens_before tokens (Ok output) = Ok (record { tokens = tokens ++ output.tokens; progress = output.progress })
tokens_before tokens (Err stop) = Err stop

-- work that is counted or not
abbrev pub counted_if : Bool → Place → ℕ → Progress → Result Progress Stop
counted_if counts place work progress = if counts then spend place work progress else Ok progress

-- an invocation, with what follows it
abbrev pub invocation_value : code_invocation.Invocation → List Item → Invocation
invocation_value invocation rest =
    record {
      macro = macro_value invocation.found;
      name = invocation.name;
      arguments = invocation.arguments;
      hidden = invocation.hidden;
      foreign = invocation.foreign;
      rest = rest;
    }
