-- A list of tokens with an unfinished literal at its end.
use Rattle.std.specs.Prelude.{◌≡◌, List, [], ◌∷◌, ◌++◌, Option, Some, None, Result, Ok, Err, pos}
use Rattle.dm_token.specs.declared.stop.Refusal.{Refusal}
use Rattle.dm_token.specs.declared.token.CToken.{CToken}
use Rattle.dm_token.specs.declared.token.Class.TheVariants.{Literal}
use Rattle.dm_ctok.specs.declared.joining.Pending.{Pending}
use Rattle.dm_ctok.specs.declared.joining.Joiner.{Joiner}
use Rattle.dm_ctok.specs.Joins.{joins}

-- an unfinished literal as a token
abbrev pub as_token : Pending → CToken
as_token pending = record { class = Literal; spelling = pending.bytes.items; value = pos 0; kind = 0; place = pending.place; trail = pending.trail }

-- the unfinished literal, if there is one
abbrev pub as_list : Option Pending → List CToken
as_list None = []
as_list (Some pending) = as_token pending ∷ []

-- the tokens that are done, and what the unfinished literal and others become
unfoldable pub resumed : List CToken → List CToken → List CToken → List CToken
resumed done pending more = done ++ joins (pending ++ more)

-- the same, unless another is refused
abbrev pub resumed_unless_refused : List CToken → List CToken → Result (List CToken) Refusal → Result (List CToken) Refusal
resumed_unless_refused done pending (Ok more) = Ok (resumed done pending more)
resumed_unless_refused done pending (Err refusal) = Err refusal

-- a token is taken behind others
abbrev pub Takes : Joiner → CToken → Joiner → Type 0
Takes before token after = (more : List CToken) → resumed before.done (as_list before.pending) (token ∷ more) ≡ resumed after.done (as_list after.pending) more
