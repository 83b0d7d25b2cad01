-- What each layer behind the preprocessor gives of a unit's tokens (5.1.1.2, phases 5 to 7), and the first stop.
--     AreTokens tokens result      the tokens of phase 7, or their stop
--     HasLayers tokens result      what is given of preprocessing tokens is what each layer says, and a stop is that of the first layer that stops
--     layers_of reading      the layers of a reading, and `IsLayered reading`: they are those of its tokens
use Rattle.std.specs.Prelude.{◌⊎◌, List, map, Result, Ok, Err}
use Rattle.dm_token.specs.declared.stop.Stop.{Stop}
use Rattle.dm_token.specs.declared.token.CToken.{CToken}
use Rattle.dm_token.specs.declared.token.Token.{Token}
use Rattle.dm_token.specs.Answer.{Gives}
use Rattle.dm_ctok.specs.Tokens.{ctokens_of}
use Rattle.dm_syn.specs.declared.statement.External.{External}
use Rattle.dm_syn.specs.Views as view
use Rattle.dm_reading.specs.declared.reading.Layers.{Layers}
use Rattle.dm_reading.specs.declared.reading.Reading.{Reading}
use Rattle.dm_reading.specs.Elaborated.{Elaborates}
use Rattle.dm_reading.specs.Syntax.{IsSyntax, Refuses}

-- the tokens of phase 7, or their stop
abbrev pub AreTokens : List Token → Result (List CToken) Stop → Type 0
AreTokens tokens result = Gives (λ given. given) result (ctokens_of tokens)

abbrev pub HasLayers : List Token → Result Layers Stop → Type 0
HasLayers tokens (Ok layers) =
    AreTokens tokens (Ok layers.tokens) × IsSyntax layers.tokens (map view.external layers.syntax)
    × Elaborates layers.tokens (map view.external layers.syntax) (Ok (layers.core, layers.types))
HasLayers tokens (Err stop) =
    AreTokens tokens (Err stop)
    ⊎ ((made : List CToken) × AreTokens tokens (Ok made)
    × (Refuses made stop ⊎ ((syntax : List External) × IsSyntax made (map view.external syntax) × Elaborates made (map view.external syntax) (Err stop))))

abbrev pub layers_of : Reading → Layers
layers_of reading = record { tokens = reading.tokens; syntax = reading.syntax; core = reading.core; types = reading.types }

-- each layer of a reading is what the layer says of the one before
abbrev pub IsLayered : Reading → Type 0
IsLayered reading = HasLayers reading.pp.tokens (Ok (layers_of reading))
