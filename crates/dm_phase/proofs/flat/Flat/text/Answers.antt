-- The bytes of the characters are those that are kept.
use Rattle.std.proofs.Common.{◌≡◌, ◌∙◌, ap, sym, map, length, subst, arith, List, ℕ, IfOk}
use Rattle.std.specs.Prelude.{slice_range}
use Rattle.dm_phase.specs.declared.Character.{Character}
use Rattle.dm_phase.specs.FlatText.{FlatText}
use Rattle.dm_phase.proofs.SparseLemmas.{bytes-characters_from}
use Rattle.dm_phase.proofs.CursorLemmas.{length-characters_from}
use Rattle.dm_phase.proofs.flat.Flat.text.Goals as goal

pub text-requires-clause-inside : goal.text-requires-clause-inside
text-requires-clause-inside c =
    omega (arith, c.requires.inside, ap (λ (flat : FlatText). length flat.characters) c.self.view_is, length-characters_from 0 0 c.self.inside.jumps.items c.self.inside.text)

pub returns : goal.returns
returns c =
    let same : c.self.inside.text ≡ map (λ (character : Character). character.byte) c.args.self.now.characters =
    sym (bytes-characters_from 0 0 c.self.inside.jumps.items c.self.inside.text) ∙ ap (λ (flat : FlatText). map (λ (character : Character). character.byte) flat.characters) c.self.view_is in
    subst (λ (bytes : List ℕ). IfOk c.text.result (λ text. text ≡ slice_range bytes c.args.from c.args.to)) same c.text.ensures
