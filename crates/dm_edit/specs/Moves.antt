-- Where things stand once the bytes before them have grown or shrunk.
use Rattle.std.specs.Prelude.{◌≡◌, ℕ, ◌+◌, ◌-◌, ◌≤◌, Some, map}
use Rattle.dm_token.specs.declared.place.Place.{Place}
use Rattle.dm_token.specs.declared.token.PpToken.{PpToken}
use Rattle.dm_token.specs.declared.expansion.Definition.{Definition}
use Rattle.dm_edit.specs.declared.change.Change.{Change}
use Rattle.dm_edit.specs.Cuts.{body_end}

-- an offset, where the file grows or shrinks before it from one length to another
abbrev pub moved_offset : ℕ → ℕ → ℕ → ℕ
moved_offset before after offset = (offset + after) - before

-- a place on another line, and what stands at such places
abbrev pub moved_place : ℕ → ℕ → Place → Place
moved_place before after place = record place { byte = moved_offset before after place.byte }

abbrev pub moved_token : ℕ → ℕ → PpToken → PpToken
moved_token before after token =
    record token { place = moved_place before after token.place; end = moved_offset before after token.end }

abbrev pub moved_definition : ℕ → ℕ → Definition → Definition
moved_definition before after definition = record definition {
  body = map (moved_token before after) definition.body;
  place = moved_place before after definition.place;
  hash = moved_offset before after definition.hash;
  head_end = moved_offset before after definition.head_end;
}

abbrev pub moved_change : ℕ → ℕ → Change → Change
moved_change before after change = record change { definition = moved_definition before after change.definition }

-- of two definitions in a file, the first ends before the second begins
abbrev pub EndsBefore : Definition → Definition → Type 0
EndsBefore first second = (end : ℕ) × (body_end first ≡ Some end) × (end ≤ second.hash)
