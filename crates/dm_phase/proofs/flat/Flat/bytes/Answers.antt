-- The bytes of the characters are those that are kept.
use Rattle.std.proofs.Common.{◌∙◌, ap, sym, map}
use Rattle.dm_phase.specs.declared.Character.{Character}
use Rattle.dm_phase.specs.FlatText.{FlatText}
use Rattle.dm_phase.proofs.SparseLemmas.{bytes-characters_from}
use Rattle.dm_phase.proofs.flat.Flat.bytes.Goals as goal

pub returns : goal.returns
returns c =
    c.bytes.ensures ∙ sym (bytes-characters_from 0 0 c.self.inside.jumps.items c.self.inside.text)
    ∙ ap (λ (flat : FlatText). map (λ (character : Character). character.byte) flat.characters) c.self.view_is
