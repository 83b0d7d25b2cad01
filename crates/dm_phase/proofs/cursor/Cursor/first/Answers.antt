-- The next character is the first of those ahead.
use Rattle.std.proofs.Common.{◌∙◌, ◌<◌, ap, sym, arith, length, get_or, List}
use Rattle.dm_phase.specs.declared.Character.{Character}
use Rattle.dm_phase.specs.declared.cursor.Cursor.{Cursor}
use Rattle.dm_phase.specs.Walking.{ahead}
use Rattle.dm_phase.proofs.CursorLemmas.{length-characters_from, characters_from-first}
use Rattle.dm_phase.proofs.cursor.Cursor.first.Goals as goal

some_rest : (cursor : Cursor) → 0 < length (ahead cursor) → 0 < length cursor.rest.now
some_rest cursor some = omega (arith, length-characters_from cursor.index cursor.at cursor.jumps.now cursor.rest.now)

pub bounds-self-0 : goal.bounds-self-0
bounds-self-0 c = some_rest c.args.self.now c.requires.some

pub returns-clause-first : goal.returns-clause-first
returns-clause-first c =
    let cursor = c.args.self.now in
    ap (λ (text : List Character). get_or text 0 c.first_from.result) (characters_from-first cursor.index cursor.at cursor.jumps.now cursor.rest.now (some_rest cursor c.requires.some))
    ∙ sym c.first_from.ensures

pub returns-clause-small : goal.returns-clause-small
returns-clause-small c =
    let cursor = c.args.self.now in
    let order = rw (characters_from-first cursor.index cursor.at cursor.jumps.now cursor.rest.now (some_rest cursor c.requires.some)) at c.requires.sound.order in
    omega (arith, order.1, ap (λ (f : Character). f.at) c.first_from.ensures, ap (λ (f : Character). f.width) c.first_from.ensures)
